use Rattle.std.proofs.Common.{IfSome, chars, length, subst}
use Rattle.wax_lazy.proofs.{Costs.{matched_within, once_within}, Numbering.followed_text, Walking.decides_by}
use Rattle.wax_lazy.specs.inner.Cached.{IsKeptFor}
use Rattle.wax_lazy.proofs.dfa.LazyDfa.is_match.Goals as goal

pub returns-clause-decides : goal.returns-clause-decides
returns-clause-decides c =
    let code = c.args.program.now.0 in
    let known = c.prepare.ensures.dfa in
    let reads_last = c.prepare.new.self.reads_last in
    let kept = subst (λ o. IfSome o (IsKeptFor code reads_last)) c.in-Some.is known.cache in
    let whole = followed_text code reads_last c.in-Some.cache.start (chars c.args.text.now)
    (chars c.followed-text.result.now) known.last kept.name kept.whole c.followed-text.ensures.part in
    decides_by c.in_ok-accepts-in-Some.field-0 _ _ whole c.in_ok-accepts-in-Some.ensures.decides

pub returns-then-gives_up-clause-above : goal.returns-then-gives_up-clause-above
returns-then-gives_up-clause-above c = once_within c.args.program.now.0
    (length (chars c.args.text.now)) c.args.meter.now c.decide_once.new.meter c.decide_once.ensures.above

pub returns-clause-above : goal.returns-clause-above
returns-clause-above c = matched_within c.args.program.now.0
    (length (chars c.followed-text.result.now)) (length (chars c.args.text.now)) c.args.meter.now
    c.accepts.new.meter c.followed-text.ensures.shorter c.accepts.ensures.above

pub returns-in_err-accepts-in-Some-clause-above : goal.returns-in_err-accepts-in-Some-clause-above
returns-in_err-accepts-in-Some-clause-above c = matched_within c.args.program.now.0
    (length (chars c.followed-text.result.now)) (length (chars c.args.text.now)) c.args.meter.now
    c.accepts.new.meter c.followed-text.ensures.shorter c.accepts.ensures.above
