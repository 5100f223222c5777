use Rattle.std.proofs.Common.{refl, sym}
use Rattle.wax_c.specs.Sets.{no_set}
use Rattle.wax_c.proofs.CutEach.{length-cut_each}
use Rattle.wax_c.proofs.sets.set_of_globs.Goals as goal

pub returns-in-Err-any : goal.returns-in-Err-any
returns-in-Err-any c =
    no_set c.in-Err-any.error refl
    (record { globs = c.in-Ok.globs.items; each = c.in-Ok.ensures; no_set = c.in-Err-any.ensures })
    (sym (length-cut_each c.args.patterns.now c.args.lengths.now))
