use Rattle.std.proofs.Common.{rules, nat_lt, length, refl, sym}
use Rattle.wax_rule.proofs.Terminals.{rows_at}
use Rattle.wax_rule.proofs.rule.branch.find_row_of.Goals as goal

pub returns : goal.returns
returns c =
    let e = rows_at c.args.branch c.args.left c.args.right c.args.tokens.now c.in_ok-first.field-0.now
    c.in_ok-last.field-0.now (nat_lt 1 (length c.args.tokens.now))
    (sym c.in_ok-first.ensures.value) (sym c.in_ok-last.ensures.value) refl in
    search (rules, e)
