use Rattle.std.specs.Option.{IfSome}
use Rattle.wax_prefilter.specs.{Known.EachContainsOne, declared.needle.Anchor.TheVariants.Anywhere}
use Rattle.wax_token.specs.{Meaning.MeansEach, Words.trees}
use Rattle.wax_prefilter.proofs.literals.longest_needles.Given as goal

abbrev pub invariant-loop-token : goal.invariant-loop-token
invariant-loop-token l = IfSome l.longest (λ v. EachContainsOne Anywhere v.items (MeansEach (trees l.tokens)))
