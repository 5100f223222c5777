use Rattle.std.proofs.Common.{◌+◌, drop, Option, sym, ◌∙◌, ap}
use Rattle.std.specs.Option.{option_or}
use Rattle.wax_facts.specs.{declared.rules.Break.Break, Rules.alternative_breaks}
use Rattle.wax_rule.specs.FirstBreak.{head_of}
use Rattle.wax_rule.proofs.Firsts.{alternatives_step}
use Rattle.wax_token.specs.Words.{trees}
use Rattle.wax_rule.proofs.rule.branch.alternative_break.Goals as goal

pub returns-in-Some : goal.returns-in-Some
returns-in-Some c =
    let i = c.loop-sub_glob.sub_glob-index in
    let later : Option Break = head_of (alternative_breaks c.args.span c.args.left c.args.right
    (trees (drop (i + 1) c.args.branches.now))) in
    sym (sym c.loop-sub_glob.invariant ∙ alternatives_step c.args.span c.args.left c.args.right
    c.args.branches.now i c.sub_glob-item.result c.loop-sub_glob-test.true c.sub_glob-item.is
    ∙ ap (λ z. option_or z later) (sym c.sub_glob_break.ensures ∙ c.in-Some.is))

pub loop-sub_glob-preserved : goal.loop-sub_glob-preserved
loop-sub_glob-preserved c =
    let i = c.loop-sub_glob.sub_glob-index in
    let later : Option Break = head_of (alternative_breaks c.args.span c.args.left c.args.right
    (trees (drop (i + 1) c.args.branches.now))) in
    sym (alternatives_step c.args.span c.args.left c.args.right c.args.branches.now i c.sub_glob-item.result
    c.loop-sub_glob-test.true c.sub_glob-item.is
    ∙ ap (λ z. option_or z later) (sym c.sub_glob_break.ensures ∙ c.in_default.is))
    ∙ c.loop-sub_glob.invariant
