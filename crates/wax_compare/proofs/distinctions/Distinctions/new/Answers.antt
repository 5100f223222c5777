use Rattle.wax_compare.proofs.Distinguished.{rows_more}
use Rattle.wax_compare.proofs.distinctions.Distinctions.new.Goals as goal

pub loop-at-preserved : goal.loop-at-preserved
loop-at-preserved c =
    rows_more c.args.program.now.0 c.args.letters.now c.loop-at.exceptions.items c.push.new.self.items
    c.loop-at.at c.in_ok-exceptions_of.field-0 c.read.result.now
    c.loop-at.invariant.0 c.read.ensures.instruction c.in_ok-push.ensures.items c.in_ok-exceptions_of.ensures
    c.loop-at.invariant.1
