use Rattle.std.proofs.Common.{IfSome, subst}
use Rattle.wax_prefilter.proofs.Holding.{members_hold}
use Rattle.wax_prefilter.specs.{Known.EachContainsOne, declared.needle.Anchor.TheVariants.Anywhere}
use Rattle.wax_token.specs.{Meaning.MeansEach, Words.trees}
use Rattle.wax_prefilter.proofs.literals.Literals.add.Goals as goal

pub returns-in_ok-append-in-Some-clause-adds : goal.returns-in_ok-append-in-Some-clause-adds
returns-in_ok-append-in-Some-clause-adds c = λ text meant.
    let ts = trees c.concatenation.result.now in
    let needles = c.in-Some.needles.items in
    let known : EachContainsOne Anywhere needles (MeansEach ts) =
    subst (λ o. IfSome o (λ v. EachContainsOne Anywhere v.items (MeansEach ts))) c.in-Some.is
    c.in_ok-needles.ensures in
    c.in_ok-append-in-Some.ensures.adds text
    (members_hold c.args.pattern.now ts needles c.concatenation.ensures known text meant)
