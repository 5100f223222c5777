-- The first expression that builds no glob says why; otherwise the globs are compared.
use Rattle.std.proofs.Common.{refl}
use Rattle.wax_c.specs.Comparing.{built, no_first, no_second}
use Rattle.wax_c.proofs.comparing.search.Goals as goal

pub returns-in-Err-clause-finds : goal.returns-in-Err-clause-finds
returns-in-Err-clause-finds c = no_first _ c.in-Err.ensures refl refl

pub returns-in-Err-build-clause-finds : goal.returns-in-Err-build-clause-finds
returns-in-Err-build-clause-finds c = no_second _ c.in-Ok.ensures _ c.in-Err-build.ensures refl refl

pub returns-clause-finds : goal.returns-clause-finds
returns-clause-finds c = built _ _ c.in-Ok.ensures c.in-Ok-build.ensures refl c.write_found.ensures.finds
