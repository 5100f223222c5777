use Rattle.std.proofs.Common.{◌≡◌, ◌∙◌, rules}
use Rattle.wax_prefilter.proofs.AsciiForms.{has_forms}
use Rattle.wax_prefilter.proofs.any_case.has_ascii_forms.Goals as goal

pub returns-then-lower-ne107 : goal.returns-then-lower-ne107
returns-then-lower-ne107 c = λ not_s.
    let lower = c.to_ascii_lowercase-lower.ensures.value in
    has_forms c.args.byte (search (rules, c.if-lower-ne107.true.0, c.is_ascii.ensures))
    (λ e. c.if-lower-ne107.true.1 (lower ∙ e)) (λ e. absurd
    (let is_s : c.to_ascii_lowercase-lower.result ≡ 115 = lower ∙ e in search (rules, is_s, not_s)))
