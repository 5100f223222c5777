use Rattle.std.proofs.Common.{rules}
use Rattle.wax_rule.proofs.Branches.{first_broken}
use Rattle.wax_rule.proofs.rule.find_break_in_tree.Goals as goal

pub returns : goal.returns
returns c = let e = first_broken c.args.token.now c.in_ok-row.row.items c.in_ok-row.ensures in
    search (rules, e)

pub returns-in-Some : goal.returns-in-Some
returns-in-Some c = let e = first_broken c.args.token.now c.in_ok-row.row.items c.in_ok-row.ensures in
    search (rules, e)
