use Rattle.std.proofs.Common.{All, subst, sym}
use Rattle.wax_exclude.specs.{Tidy.TidiesUp, Undecided.IsUndecided}
use Rattle.wax.proofs.ignoring.IgnoreList.tidied.Goals as goal

pub returns-clause-tidy : goal.returns-clause-tidy
returns-clause-tidy c =
    let tidy = c.in_ok-lines.field-0 in
    subst (λ list. TidiesUp c.args.self.now tidy.removed.items tidy.indexes.items list tidy.unknown.items)
    (sym c.in_ok-rule.ensures)
    (subst (λ lines. TidiesUp lines tidy.removed.items tidy.indexes.items tidy.lines.items tidy.unknown.items)
    c.self.view_is c.in_ok-lines.ensures.tidy)

pub returns-clause-undecided : goal.returns-clause-undecided
returns-clause-undecided c =
    let tidy = c.in_ok-lines.field-0 in
    subst (λ list. All (IsUndecided list c.args.most_states) tidy.unknown.items)
    (sym c.in_ok-rule.ensures) c.in_ok-lines.ensures.undecided
