-- Folders that are listed before the next item.
use Rattle.std.specs.Prelude.{◌≡◌, ℕ, List, [], ◌∷◌, ◌++◌}
use Rattle.wax_walk.specs.{Forest.{Forest, lists, Pending, all_pending}, Given.Given}

abbrev pub after_listing : List (List ℕ) → Forest Given → Forest Given
after_listing [] f = f
after_listing (path ∷ paths) f = lists path (after_listing paths f)

-- from p the walk came to q, with no item between
abbrev pub ListsBetween : Pending Given → Pending Given → Type 0
ListsBetween p q = (paths : List (List ℕ)) × (all_pending p ≡ after_listing paths (all_pending q)) ×
    (q.listed ≡ p.listed ++ paths)
