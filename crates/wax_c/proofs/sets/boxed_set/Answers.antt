use Rattle.std.proofs.Common.{refl, sym}
use Rattle.wax_c.specs.Sets.{no_memory}
use Rattle.wax_c.proofs.CutEach.{length-cut_each}
use Rattle.wax_c.proofs.sets.boxed_set.Goals as goal

pub returns : goal.returns
returns c = no_memory refl (sym (length-cut_each c.args.patterns.now c.args.lengths.now))
