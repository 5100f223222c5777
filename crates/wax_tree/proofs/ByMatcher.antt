-- A walk by a matcher is one by the program that built it.
use Rattle.std.proofs.Common.{◌≡◌, ℕ, Bool, List, Option, false, subst}
use Rattle.wax_tree.specs.Programs.{matches_below, matches_from}
use Rattle.wax_walk.specs.{Pruned.selected_view, View.{IsSeenAs, WalkView}}

-- seen as the walk that these decide, from a least depth on and down to a greatest one
abbrev IsSeenBy : {D : Type 0} → WalkView D → WalkView D → ℕ → ℕ → (List ℕ → Bool)
    → (Option ℕ → List ℕ → Bool) → Type 0
IsSeenBy v w least greatest d o =
    IsSeenAs (selected_view v (matches_from (λ x. x) d least) (matches_below (λ x. x) o greatest) false) w

pub seen_by_matcher : {D : Type 0} (v w : WalkView D) (d e : List ℕ → Bool) (o p : Option ℕ → List ℕ → Bool)
    (least greatest : ℕ) → d ≡ e → o ≡ p → IsSeenBy v w least greatest d o → IsSeenBy v w least greatest e p
seen_by_matcher v w d e o p least greatest f g h =
    subst (IsSeenBy v w least greatest e) g (subst (λ z. IsSeenBy v w least greatest z o) f h)
