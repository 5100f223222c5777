use Rattle.std.proofs.Common.{IfSome, chars, length, subst}
use Rattle.wax_lazy.proofs.{Costs.listed_within, Numbering.followed_numbers}
use Rattle.wax_lazy.specs.inner.Cached.{IsKeptFor, numbers_at}
use Rattle.wax_lazy.proofs.dfa.LazyDfa.find_numbers.Goals as goal

pub returns-clause-numbers : goal.returns-clause-numbers
returns-clause-numbers c =
    let code = c.args.program.now.0 in
    let known = c.prepare.ensures.dfa in
    let reads_last = c.prepare.new.self.reads_last in
    let kept = subst (λ o. IfSome o (IsKeptFor code reads_last)) c.in-Some.is known.cache in
    followed_numbers code reads_last c.in-Some.cache.start (chars c.args.text.now) (chars
    c.followed-text.result.now) (numbers_at c.find_numbers.new.cache c.in_ok-find_numbers-in-Some.field-0)
    known.last kept.name kept.whole c.followed-text.ensures.part c.in_ok-find_numbers-in-Some.ensures.numbers

pub returns-clause-above : goal.returns-clause-above
returns-clause-above c = listed_within c.args.program.now.0
    (length (chars c.followed-text.result.now)) (length (chars c.args.text.now)) c.args.meter.now
    c.find_numbers.new.meter c.followed-text.ensures.shorter c.find_numbers.ensures.above

pub returns-in_err-find_numbers-in-Some-clause-above : goal.returns-in_err-find_numbers-in-Some-clause-above
returns-in_err-find_numbers-in-Some-clause-above c = listed_within c.args.program.now.0
    (length (chars c.followed-text.result.now)) (length (chars c.args.text.now)) c.args.meter.now
    c.find_numbers.new.meter c.followed-text.ensures.shorter c.find_numbers.ensures.above
