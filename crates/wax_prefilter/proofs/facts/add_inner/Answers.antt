use Rattle.std.proofs.Common.{subst, IfSome}
use Rattle.wax_token.specs.{Meaning.Means, Words.trees}
use Rattle.wax_prefilter.specs.{Known.EachContainsOne, declared.needle.Anchor.TheVariants.Anywhere}
use Rattle.wax_prefilter.proofs.Holding.{more_facts, one_holds}
use Rattle.wax_prefilter.proofs.facts.add_inner.Goals as goal

pub returns : goal.returns
returns c =
    let tokens = c.args.tokens.now in
    let token = c.index-tokens-i.result in
    let needles = c.in-Some.needles.items in
    let known : EachContainsOne Anywhere needles (Means token) =
    subst (λ o. IfSome o (λ v. EachContainsOne Anywhere v.items (Means token))) c.in-Some.is
    c.in_ok-needles.ensures in
    rw c.in_ok-add.ensures (more_facts (trees tokens) c.args.facts.now.items Anywhere needles c.requires.facts
    (one_holds tokens c.args.i token needles c.requires.in_range c.index-tokens-i.is known))
