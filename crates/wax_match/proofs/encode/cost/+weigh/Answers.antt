use Rattle.std.proofs.Common.{◌≡◌, ◌+◌, ◌*◌, List, [], ◌∷◌, length, arith, refl, ap, ◌∙◌, min}
use Rattle.wax_match.specs.inner.Limits.{longest}
use Rattle.wax_token.specs.{Cost.{branches_cost, costs}, Syntax.Tree, Words.trees}
use Rattle.wax_match.proofs.encode.cost.+weigh.Goals as goal

with_forks : {A : Type 0} (ts : List (Tree A)) → branches_cost (trees ts) ≡ costs (trees ts) + 2 * length ts
with_forks [] = refl
with_forks (t ∷ ts) = omega (arith, with_forks ts)

pub weigh_branches-returns-clause-cost : goal.weigh_branches-returns-clause-cost
weigh_branches-returns-clause-cost g t c =
    let ts = c.args.tokens.now in
    let n : 1 + costs (trees ts) + 2 * length ts ≡ 1 + branches_cost (trees ts) =
    omega (arith, with_forks ts) in
    c.with_forks.ensures.cost (costs (trees ts)) c.weigh_all.ensures.cost ∙ ap (λ z. min z longest) n
