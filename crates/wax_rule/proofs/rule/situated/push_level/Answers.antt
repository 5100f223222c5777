use Rattle.std.proofs.Common.{arith}
use Rattle.wax_rule.proofs.Branches.{children_more}
use Rattle.wax_rule.proofs.rule.situated.push_level.Goals as goal

pub loop-index-preserved : goal.loop-index-preserved
loop-index-preserved c =
    children_more c.args.row.now.items c.loop-index.row.items c.push_children.new.row.items
    c.args.from c.loop-index.index
    (omega arith) (omega arith) c.loop-index.invariant c.in_ok-push_children.ensures
