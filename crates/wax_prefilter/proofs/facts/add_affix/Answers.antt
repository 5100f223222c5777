use Rattle.std.proofs.Common.{subst, IfSome}
use Rattle.wax_token.specs.{Meaning.MeansEach, Words.trees}
use Rattle.wax_prefilter.specs.Known.{EachContainsOne}
use Rattle.wax_prefilter.proofs.Holding.{more_facts}
use Rattle.wax_prefilter.proofs.facts.add_affix.Goals as goal

pub returns : goal.returns
returns c =
    let tokens = trees c.args.tokens.now in
    let known : EachContainsOne c.args.anchor c.in-Some.needles.items (MeansEach tokens) =
    subst (λ o. IfSome o (λ v. EachContainsOne c.args.anchor v.items (MeansEach tokens))) c.in-Some.is
    c.in_ok-needles.ensures in
    rw c.in_ok-add.ensures
    (more_facts tokens c.args.facts.now.items c.args.anchor c.in-Some.needles.items c.requires known)
