-- A glob of the expression fills the output, or why there is none.
use Rattle.std.proofs.Common.{refl}
use Rattle.wax_c.specs.Outcomes.{built, not_built}
use Rattle.wax_c.proofs.matching.filter.Goals as goal

pub returns-in-Ok-clause-fills : goal.returns-in-Ok-clause-fills
returns-in-Ok-clause-fills c = built _ c.in-Ok.ensures c.fill.ensures.fills

pub returns-in-Err-clause-fills : goal.returns-in-Err-clause-fills
returns-in-Err-clause-fills c = not_built _ c.in-Err.ensures refl
