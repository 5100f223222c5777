use Rattle.std.proofs.Common.{◌+◌, drop, Option, sym, ◌∙◌, ap}
use Rattle.std.specs.{Option.option_or, List.flat_map}
use Rattle.wax_facts.specs.declared.rules.Break.{Break}
use Rattle.wax_rule.specs.FirstBreak.{breaks_of, head_of}
use Rattle.wax_rule.proofs.Firsts.{first_step}
use Rattle.wax_rule.proofs.rule.find_rule_break.Goals as goal

pub returns-in-Some : goal.returns-in-Some
returns-in-Some c =
    let i = c.loop-token.token-index in
    let later : Option Break = head_of (flat_map (breaks_of c.args.rule) (drop (i + 1) c.args.row.now)) in
    sym (sym c.loop-token.invariant ∙ first_step (breaks_of c.args.rule) c.args.row.now i c.token-item.result
    c.loop-token-test.true c.token-item.is
    ∙ ap (λ z. option_or z later) (sym c.first_break.ensures ∙ c.in-Some.is))

pub loop-token-preserved : goal.loop-token-preserved
loop-token-preserved c =
    let i = c.loop-token.token-index in
    let later : Option Break = head_of (flat_map (breaks_of c.args.rule) (drop (i + 1) c.args.row.now)) in
    sym (first_step (breaks_of c.args.rule) c.args.row.now i c.token-item.result
    c.loop-token-test.true c.token-item.is
    ∙ ap (λ z. option_or z later) (sym c.first_break.ensures ∙ c.in_default.is)) ∙ c.loop-token.invariant
