use Rattle.wax_compare.proofs.Merging.{test_agrees}
use Rattle.wax_compare.proofs.merged.agree_at.Goals as goal

pub returns-in-Some : goal.returns-in-Some
returns-in-Some c = test_agrees c.args.program.now.0 c.args.at c.requires c.in-Some.test.now
    c.in-Some.ensures.test c.args.c c.args.d c.passes_both.result c.passes_both.ensures
