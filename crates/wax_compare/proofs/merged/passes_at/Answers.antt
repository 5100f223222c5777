use Rattle.wax_compare.proofs.Merging.{test_passes}
use Rattle.wax_compare.proofs.merged.passes_at.Goals as goal

pub returns-in-Some : goal.returns-in-Some
returns-in-Some c = test_passes c.args.program.now.0 c.args.at c.requires c.in-Some.test.now
    c.in-Some.ensures.test c.args.c c.passes.result c.passes.ensures
