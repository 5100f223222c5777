use Rattle.std.proofs.{Common.{ap, arith, length, subst, sym, []}, lemmas.Str.chars-nil}
use Rattle.wax_match.proofs.Lefts.{spelt_bare}
use Rattle.wax_match.specs.{declared.encode.left.Gap.TheVariants.Star, inner.Left.{AreSame, SpeltMeans}}
use Rattle.wax_token.specs.{Cost.leaf_cost, Meaning.LeafMeans, View.wildcard_leaf}
use Rattle.wax_match.proofs.encode.left.spelt_wildcard.Goals as goal

pub returns-in-ZeroOrMore-clause-means : goal.returns-in-ZeroOrMore-clause-means
returns-in-ZeroOrMore-clause-means c =
    subst (λ w. AreSame (SpeltMeans [] Star) (LeafMeans (wildcard_leaf w) c.args.sides.before
    c.args.sides.after)) (sym c.in-ZeroOrMore.is) (spelt_bare Star)

pub returns-in-ZeroOrMore-clause-cost : goal.returns-in-ZeroOrMore-clause-cost
returns-in-ZeroOrMore-clause-cost c =
    omega (arith, ap length chars-nil, ap (λ w. leaf_cost (wildcard_leaf w)) c.in-ZeroOrMore.is)
