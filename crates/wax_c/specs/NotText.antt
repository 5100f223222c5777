-- Lines of an input that aren't text.
use Rattle.std.specs.Prelude.{◌≡◌, ◌⊎◌, ◌+◌, ℕ, List, [], ◌∷◌, IsUtf8}
use Rattle.wax.specs.{GlobView.{GlobView, IsMeant}, Ignoring.IsUnignored}
use Rattle.wax.specs.{Matching.{Filters, WritesMeant, lines}, declared.ignoring.IgnoreList.IgnoreList}

-- 0 if the line is text, 1 if it isn't
abbrev pub IsNotText : List ℕ → ℕ → Type 0
IsNotText line n = (IsUtf8 line × (n ≡ 0)) ⊎ ((IsUtf8 line → ⊥) × (n ≡ 1))

-- so many of these lines aren't text
abbrev pub AreNotText : List (List ℕ) → ℕ → Type 0
AreNotText [] n = n ≡ 0
AreNotText (line ∷ rest) n = (m k : ℕ) × IsNotText line m × AreNotText rest k × (n ≡ m + k)

-- each filter by a glob or by an ignore list excludes so many lines of the input, since they aren't text
pub record AreExcluded (input : List ℕ) (n : ℕ) : Type 0 where
  pub by_globs : (g : GlobView) (out : List ℕ) (bad : ℕ)
      → Filters (WritesMeant (IsMeant g)) (lines input) out bad → bad ≡ n
  pub by_lists : (list : IgnoreList) (out : List ℕ) (bad : ℕ)
      → Filters (WritesMeant (IsUnignored list)) (lines input) out bad → bad ≡ n
