use Rattle.std.proofs.Common.{◌∙◌, false, map, subst, sym}
use Rattle.wax_exclude.proofs.ListingLines.{ignored_split}
use Rattle.wax_exclude.specs.{inner.Numbers.KnowsLines, inner.Split.split_of}
use Rattle.wax_exclude.proofs.rules.IgnoreRuleCompared.selector.Goals as goal

pub returns-clause-selects : goal.returns-clause-selects
returns-clause-selects c text =
    let lines = c.args.self.now in
    let knows = subst (λ ls. KnowsLines (map split_of ls) c.self.inside.numbered) c.self.view_is
    c.self.invariant in
    let says = c.selector.ensures.selects (map split_of lines) knows text in
    let same = ignored_split lines false text in
    ((λ h. sym same ∙ says.0 h), (λ h. says.1 (same ∙ h)))
