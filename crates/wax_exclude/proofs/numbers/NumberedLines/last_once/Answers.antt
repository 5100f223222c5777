use Rattle.std.proofs.Common.{◌≡◌, ◌≤◌, ◌+◌, ◌∙◌, IfOk, chars, false, length, rules, subst, sym, true≢false}
use Rattle.wax_lazy.specs.{Cost.list_visits, Numbers.IsLastNumber}
use Rattle.wax_exclude.proofs.PassingLines.{matched_passes}
use Rattle.wax_exclude.proofs.numbers.NumberedLines.last_once.Goals as goal

pub returns-then-not-may_match-clause-last : goal.returns-then-not-may_match-clause-last
returns-then-not-may_match-clause-last c = λ lines knows number accepted.
    let numbered = c.args.self.now in
    let path = chars c.args.path.now in
    let rejected : c.may_match.result ≡ false = search rules in
    let passes = matched_passes numbered.literals numbered.top 0 lines number path knows.literals
    ((knows.means number path).0 accepted) in
    true≢false (sym (c.may_match.ensures passes) ∙ rejected)

pub returns-clause-last : goal.returns-clause-last
returns-clause-last c = λ lines knows.
    subst (λ code. IfOk c.last_number_metered.result (IsLastNumber code (chars c.args.path.now)))
    c.holder.ensures c.last_number_metered.ensures.last

pub returns-clause-above : goal.returns-clause-above
returns-clause-above c =
    subst (λ code. c.last_number_metered.new.meter
    ≤ c.args.meter.now + list_visits code (length (chars c.args.path.now))) c.holder.ensures
    c.last_number_metered.ensures.above
