-- A glob of the expression decides, or why there is none.
use Rattle.std.proofs.Common.{refl}
use Rattle.wax_c.specs.Outcomes.{built, not_built}
use Rattle.wax_c.proofs.matching.is_match.Goals as goal

pub returns-in-Ok : goal.returns-in-Ok
returns-in-Ok c = built _ c.in-Ok.ensures c.decide.ensures

pub returns-in-Err : goal.returns-in-Err
returns-in-Err c = not_built _ c.in-Err.ensures refl
