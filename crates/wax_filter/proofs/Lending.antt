-- A walk that is lent to a closure.
use Rattle.std.proofs.Common.{refl}
use denote.Ref.{MutBor}
use Rattle.wax_filter.specs.declared.filter.cancel.WalkCancellation.{WalkCancellation}
use Rattle.wax_filter.specs.Feeding.{ByItem, OnlyCancels}

-- the closure's call is what the definition says of it
pub lent : {I E A B : Type 0} {step : E → MutBor (WalkCancellation I) → A → B → MutBor (WalkCancellation I)
    → E → Type 0} (cancels : I → I → Type 0)
    → OnlyCancels step cancels
    → {f : E} {w : MutBor (WalkCancellation I)} {x : A} {y : B} {v : MutBor (WalkCancellation I)} {g : E}
    → step f w x y v g → ByItem step cancels (w.now.0.now, f) x y (v.now.0.now, g)
lent cancels only {f} {w} {x} {y} {v} {g} h = (w, v, refl, h, refl, (only f w x y v g h).1)
