-- Proofs of laws that impls cite.
use Rattle.std.specs.Prelude.{◌≡◌, ℕ, Bool, List}
use Rattle.wax_walk.specs.{Laws.ruled_cancelling, Ruled.ruled_view, View.{WalkView, CancelStep}}
use Rattle.wax_tree.specs.Programs.{leading_mark}

module _ {D C P : Type 0} (v w : WalkView D) (tests : C → List ℕ → Bool) (decides : P → List ℕ → Bool) where
  pub leading_cancelling : (cs ds : List C) (p q : P) (b c : Bool) → CancelStep v w → ds ≡ cs → q ≡ p → c ≡ b
      → CancelStep (ruled_view v (leading_mark tests cs decides p) b)
      (ruled_view w (leading_mark tests ds decides q) c)
  leading_cancelling cs ds p q b c k e f h = ruled_cancelling {P = List C × P} v w
      (λ r. leading_mark tests r.0 decides r.1) (cs, p) (ds, q) b c k (λ i. (e i, f i)) h
