use Rattle.std.proofs.Common.{Some}
use Rattle.wax_compare.proofs.Kept.{before_kept, before_more}
use Rattle.wax_compare.proofs.cuts.cut_at.Goals as goal

pub returns-clause-all : goal.returns-clause-all
returns-clause-all c =
    let code = c.args.program.now.0 in
    let cuts = c.cut_test.new.cuts.items in
    let folded = c.cut_test.new.folded.items in
    λ before. before_more code c.args.at cuts folded (Some c.in-Some.test.now) c.in-Some.ensures.test
    c.in_ok-cut_test.ensures.all
    (before_kept c.args.cuts.now.items cuts c.in_ok-cut_test.ensures.cuts c.args.folded.now.items folded
    c.in_ok-cut_test.ensures.folded code c.args.at before)
