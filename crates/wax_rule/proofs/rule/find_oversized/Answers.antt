use Rattle.std.proofs.Common.{◌≡◌, ◌+◌, drop, Option, sym, ◌∙◌, ap}
use Rattle.std.specs.Option.{option_or}
use Rattle.wax_facts.specs.{Situated.Situated, declared.rules.Break.Break}
use Rattle.wax_rule.specs.FirstBreak.{head_of, oversized_in, oversized_inside}
use Rattle.wax_rule.proofs.Firsts.{first_step}
use Rattle.wax_rule.proofs.rule.find_oversized.Goals as goal

pub returns-in-Some : goal.returns-in-Some
returns-in-Some c =
    let i = c.loop-token.token-index in
    let later : Option Break = head_of (oversized_inside (drop (i + 1) c.args.row.now)) in
    let found : c.in_ok-found.field-0 ≡ head_of (oversized_in c.token-item.result.token) =
    c.in_ok-found.ensures ∙ ap (λ z. head_of (oversized_in z)) c.token.ensures in
    sym (sym c.loop-token.invariant ∙ first_step (λ (s : Situated). oversized_in s.token) c.args.row.now i
    c.token-item.result c.loop-token-test.true c.token-item.is
    ∙ ap (λ z. option_or z later) (sym found ∙ c.in-Some.is))

pub loop-token-preserved : goal.loop-token-preserved
loop-token-preserved c =
    let i = c.loop-token.token-index in
    let later : Option Break = head_of (oversized_inside (drop (i + 1) c.args.row.now)) in
    let found : c.in_ok-found.field-0 ≡ head_of (oversized_in c.token-item.result.token) =
    c.in_ok-found.ensures ∙ ap (λ z. head_of (oversized_in z)) c.token.ensures in
    sym (first_step (λ (s : Situated). oversized_in s.token) c.args.row.now i c.token-item.result
    c.loop-token-test.true c.token-item.is
    ∙ ap (λ z. option_or z later) (sym found ∙ c.in_default.is)) ∙ c.loop-token.invariant
