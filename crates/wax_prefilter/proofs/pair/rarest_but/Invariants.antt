use Rattle.std.proofs.Common.{◌≡◌, ◌<◌, length}
use Rattle.wax_prefilter.proofs.pair.rarest_but.Given as goal

-- the rarest byte so far is one of the bytes, and not the other one
abbrev pub invariant-loop-at : goal.invariant-loop-at
invariant-loop-at l = (l.rarest < length l.bytes) × (l.rarest ≡ l.other → ⊥)
