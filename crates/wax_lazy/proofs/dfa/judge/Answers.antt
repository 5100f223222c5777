use Rattle.std.proofs.Common.{◌↔◌, ◌∙◌, IsTrue, arith, chars, length, subst, sym, rules}
use Rattle.std.proofs.lemmas.Str.{scalars-chars}
use Rattle.wax_lazy.proofs.{Ahead.last_below, Costs.{matched_within, name_shorter}, Walking.decides_by}
use Rattle.wax_lazy.specs.inner.Cached.{IsAheadVerdict, LeadsText}
use Rattle.wax_program.proofs.{LastNames.name_decides, Opens.ahead_below}
use Rattle.wax_program.specs.{declared.onward.Ahead.TheVariants.Path, Machine.Accepts}
use Rattle.wax_lazy.proofs.dfa.judge.Goals as goal

pub returns-then-reads_last-clause-decides : goal.returns-then-reads_last-clause-decides
returns-then-reads_last-clause-decides c =
    let code = c.args.program.now.0 in
    let text = chars c.args.text.now in
    let name = chars c.last_name.result.now in
    let last = c.requires.last (search rules) in
    let by_name = subst (λ n. IsTrue c.in_ok-is_match.is_match ↔ Accepts code n name)
    (c.requires.cache.name (search rules)) c.in_ok-is_match.ensures.decides in
    let by_flags = decides_by c.holds.result _ _ (c.requires.onward Path 0) c.holds.ensures in
    record {
      matches = decides_by c.in_ok-is_match.is_match _ _
          (name_decides code text name last c.last_name.ensures.name) by_name;
      below = decides_by c.holds.result _ _
          (last_below code last c.args.most text (scalars-chars c.args.text.now c.utf8.text)) by_flags;
    }

pub returns-clause-decides : goal.returns-clause-decides
returns-clause-decides c =
    let code = c.args.program.now.0 in
    let most = c.args.most in
    let text = chars c.args.text.now in
    let verdict = c.verdict_at.result in
    let states = c.follow_text.new.cache.table.states.items in
    let begins = c.follow_text.ensures.kept.start ∙ c.requires.cache.whole (search rules) in
    let next = subst (λ n. LeadsText code states n text c.in_ok-next.next)
    (c.requires.cache.whole (search rules)) c.in_ok-next.ensures.leads in
    let at = subst (λ n. IsAheadVerdict code most n text c.below-ahead.result verdict) begins
    (c.verdict_at.ensures.decides text
    (subst (λ n. LeadsText code states n text c.in_ok-next.next) (sym begins) next)) in
    let way = subst (λ m. IsAheadVerdict code most 0 text m verdict) c.below-ahead.ensures at in
    let scalars = scalars-chars c.args.text.now c.utf8.text in
    record {
      matches = way.matches;
      below = decides_by verdict.goes_on _ _ (ahead_below most (Accepts code 0) text scalars) way.ahead;
    }

pub returns-then-reads_last-clause-above : goal.returns-then-reads_last-clause-above
returns-then-reads_last-clause-above c = matched_within c.args.program.now.0
    (length (chars c.last_name.result.now)) (length (chars c.args.text.now)) c.args.meter.now
    c.accepts.new.meter
    (name_shorter (chars c.args.text.now) (chars c.last_name.result.now) c.last_name.ensures.name)
    c.accepts.ensures.above

pub returns-clause-above : goal.returns-clause-above
returns-clause-above c = matched_within c.args.program.now.0
    (length (chars c.args.text.now)) (length (chars c.args.text.now)) c.args.meter.now
    c.verdict_at.new.meter (omega arith)
    (omega (arith, c.follow_text.ensures.above, c.verdict_at.ensures.above))

pub returns-in_err-is_match-clause-above : goal.returns-in_err-is_match-clause-above
returns-in_err-is_match-clause-above c = matched_within c.args.program.now.0
    (length (chars c.last_name.result.now)) (length (chars c.args.text.now)) c.args.meter.now
    c.accepts.new.meter
    (name_shorter (chars c.args.text.now) (chars c.last_name.result.now) c.last_name.ensures.name)
    c.accepts.ensures.above

pub returns-in_err-next-clause-above : goal.returns-in_err-next-clause-above
returns-in_err-next-clause-above c = matched_within c.args.program.now.0
    (length (chars c.args.text.now)) (length (chars c.args.text.now)) c.args.meter.now
    c.follow_text.new.meter (omega arith) (omega (arith, c.follow_text.ensures.above))
