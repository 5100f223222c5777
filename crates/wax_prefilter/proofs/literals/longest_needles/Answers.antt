use Rattle.std.proofs.Common.{IfSome, subst, sym}
use Rattle.wax_prefilter.proofs.Holding.{one_holds}
use Rattle.wax_prefilter.proofs.literals.longest_needles.Goals.{then-len-greatest, else-len-greatest}
use Rattle.wax_prefilter.specs.{Known.EachContainsOne, declared.needle.Anchor.TheVariants.Anywhere}
use Rattle.wax_token.specs.{Meaning.{Means, MeansEach}, Words.trees}
use Rattle.wax_prefilter.proofs.literals.longest_needles.Goals as goal

pub loop-token-preserved : goal.loop-token-preserved
loop-token-preserved c =
    let tokens = c.args.tokens.now in
    let token = c.token-item.result in
    let needles = c.in-Some.needles.items in
    let known : EachContainsOne Anywhere needles (Means token) =
    subst (λ o. IfSome o (λ v. EachContainsOne Anywhere v.items (Means token))) c.in-Some.is
    c.in_ok-needles.ensures in
    elim c.if-len-greatest.branch [
      | then-len-greatest w ↦ subst (λ o.
          IfSome o (λ v. EachContainsOne Anywhere v.items (MeansEach (trees tokens)))) (sym w.longest-is)
          (one_holds tokens c.loop-token.token-index token needles c.loop-token-test.true
          c.token-item.is known)
      | else-len-greatest w ↦
          subst (λ o. IfSome o (λ v. EachContainsOne Anywhere v.items (MeansEach (trees tokens))))
          (sym w.longest-is) c.loop-token.invariant
    ]
