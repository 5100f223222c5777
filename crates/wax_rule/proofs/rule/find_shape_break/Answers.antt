use Rattle.wax_rule.proofs.Firsts.{first_shape_break}
use Rattle.wax_rule.proofs.rule.find_shape_break.Goals as goal

pub returns : goal.returns
returns c =
    first_shape_break c.args.row.now c.find_rule_break.result c.find_rule_break-2.result
    c.find_rule_break-3.result c.or.result c.or-2.result
    c.find_rule_break.ensures c.find_rule_break-2.ensures c.find_rule_break-3.ensures
    c.or.ensures c.or-2.ensures
