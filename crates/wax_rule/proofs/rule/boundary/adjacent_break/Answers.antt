use Rattle.std.proofs.Common.{◌+◌, ◌-◌, drop, Option, Some, ◌∙◌, arith, ap, sym}
use Rattle.std.specs.Option.{option_map, option_or}
use Rattle.wax_facts.specs.declared.rules.Break.{Break}
use Rattle.wax_facts.specs.declared.rules.RuleErrorKind.TheVariants.{AdjacentBoundary}
use Rattle.wax_facts.specs.Rules.{adjacent_boundaries, break_here}
use Rattle.wax_rule.specs.FirstBreak.{head_of}
use Rattle.wax_rule.proofs.Adjacent.{adjacent_end, adjacent_step}
use Rattle.wax_token.specs.Words.{trees}
use Rattle.wax_rule.proofs.rule.boundary.adjacent_break.Goals as goal

pub returns-in-Some : goal.returns-in-Some
returns-in-Some c =
    let ts = c.args.tokens.now in
    let j = c.loop-index.index in
    let later : Option Break = head_of (adjacent_boundaries (trees (drop (j + 1 - 1) ts))) in
    ap Some c.break_here.ensures ∙ sym (sym c.loop-index.invariant
    ∙ adjacent_step ts j c.index-tokens-index.result c.index-tokens-index-in-loop-index.result (omega arith)
    (omega (arith, c.loop-index-test.true)) c.index-tokens-index.is c.index-tokens-index-in-loop-index.is
    ∙ ap (λ z. option_or (option_map (break_here AdjacentBoundary) z) later)
    (sym c.adjacent_span.ensures ∙ c.in-Some.is))

pub loop-index-preserved : goal.loop-index-preserved
loop-index-preserved c =
    let ts = c.args.tokens.now in
    let j = c.loop-index.index in
    let later : Option Break = head_of (adjacent_boundaries (trees (drop (j + 1 - 1) ts))) in
    sym (adjacent_step ts j c.index-tokens-index.result c.index-tokens-index-in-loop-index.result
    (omega arith) (omega (arith, c.loop-index-test.true)) c.index-tokens-index.is
    c.index-tokens-index-in-loop-index.is
    ∙ ap (λ z. option_or (option_map (break_here AdjacentBoundary) z) later)
    (sym c.adjacent_span.ensures ∙ c.in_default.is)) ∙ c.loop-index.invariant

pub returns : goal.returns
returns c =
    sym (adjacent_end c.args.tokens.now (c.loop-index.index - 1) (omega (arith, c.loop-index-test.false)))
    ∙ c.loop-index.invariant
