use Rattle.std.proofs.Common.{ℕ, ◌<◌}
use Rattle.wax_program.specs.{declared.onward.Ahead.TheVariants.Rest, inner.Leads.Holds}
use Rattle.wax_program.proofs.onward.Onward.goes_on_within.Given as goal

abbrev pub invariant-loop-at : goal.invariant-loop-at
invariant-loop-at l = (k : ℕ) → k < l.at → Holds l.self Rest k → Holds l.other Rest k
