use Rattle.std.proofs.Common.{arith, chars, ◌≤◌, ◌+◌, ◌*◌, IfOk, length, sym, ◌∙◌, subst}
use Rattle.std.proofs.lemmas.Str.{chars-IsAscii}
use Rattle.wax_lazy.specs.{Cost.char_visits, inner.Cached.LeadsText}
use Rattle.wax_lazy.proofs.following.follow_text.Goals as goal

pub returns-then-is_ascii-clause-leads : goal.returns-then-is_ascii-clause-leads
returns-then-is_ascii-clause-leads c =
    subst (λ z. IfOk c.follow_ascii.result
    (LeadsText c.args.program.now.0 c.follow_ascii.new.cache.table.states.items c.args.cache.now.start z))
    (c.as_bytes.ensures.value ∙ sym (chars-IsAscii c.args.text.now c.if-is_ascii.ensures.cases))
    c.follow_ascii.ensures.leads

pub returns-then-is_ascii-clause-above : goal.returns-then-is_ascii-clause-above
returns-then-is_ascii-clause-above c =
    let same = c.as_bytes.ensures.value ∙ sym (chars-IsAscii c.args.text.now c.if-is_ascii.ensures.cases) in
    let most = subst (λ z. c.follow_ascii.new.meter ≤ c.args.meter.now + char_visits c.args.program.now.0
    * length z) same c.follow_ascii.ensures.above in
    omega (arith, most)

pub returns-clause-leads : goal.returns-clause-leads
returns-clause-leads c =
    subst (λ n. IfOk c.follow_chars.result (LeadsText c.args.program.now.0
    c.follow_chars.new.cache.table.states.items n (chars c.args.text.now)))
    c.prepare_wide.ensures.kept.start c.follow_chars.ensures.leads
