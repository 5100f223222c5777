use Rattle.std.proofs.{Common.{◌∙◌, Some, ap}, lemmas.Result.IfOk-weaker}
use Rattle.wax_program.proofs.Marks.{ends_of_range}
use Rattle.wax_program.proofs.ends.push_ends.Goals as goal

pub returns-in-End-clause-ends : goal.returns-in-End-clause-ends
returns-in-End-clause-ends c =
    IfOk-weaker c.push_range.result _ _
    (λ w range. ends_of_range c.args.program.now.0 c.args.at c.in-End.low c.in-End.high
    c.args.numbers.now.items c.push_range.new.numbers.items
    (c.read.ensures.instruction ∙ ap (λ i. Some i) c.in-End.is) range) c.push_range.ensures
