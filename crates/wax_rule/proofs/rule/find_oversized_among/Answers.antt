use Rattle.std.proofs.Common.{◌+◌, drop, Option, sym, ◌∙◌, ap}
use Rattle.std.specs.Option.{option_or}
use Rattle.wax_facts.specs.declared.rules.Break.{Break}
use Rattle.wax_rule.specs.FirstBreak.{head_of, oversized_among}
use Rattle.wax_rule.proofs.Firsts.{oversized_among_step}
use Rattle.wax_token.specs.Words.{trees}
use Rattle.wax_rule.proofs.rule.find_oversized_among.Goals as goal

pub returns-in-Some : goal.returns-in-Some
returns-in-Some c =
    let i = c.loop-token.token-index in
    let later : Option Break = head_of (oversized_among (trees (drop (i + 1) c.args.tokens.now))) in
    sym (sym c.loop-token.invariant
    ∙ oversized_among_step c.args.tokens.now i c.token-item.result c.loop-token-test.true c.token-item.is
    ∙ ap (λ z. option_or z later) (sym c.in_ok-found.ensures ∙ c.in-Some.is))

pub loop-token-preserved : goal.loop-token-preserved
loop-token-preserved c =
    let i = c.loop-token.token-index in
    let later : Option Break = head_of (oversized_among (trees (drop (i + 1) c.args.tokens.now))) in
    sym (oversized_among_step c.args.tokens.now i c.token-item.result c.loop-token-test.true c.token-item.is
    ∙ ap (λ z. option_or z later) (sym c.in_ok-found.ensures ∙ c.in_default.is)) ∙ c.loop-token.invariant
