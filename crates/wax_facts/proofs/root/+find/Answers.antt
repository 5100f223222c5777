use Rattle.std.proofs.Common.{arith, ◌∙◌, ap}
use Rattle.wax_query.specs.Whens.{certainty}
use Rattle.wax_facts.proofs.Commons.{root_put}
use Rattle.wax_facts.proofs.root.+find.Goals as goal

pub root_of_branches-loop-index-preserved : goal.root_of_branches-loop-index-preserved
root_of_branches-loop-index-preserved g t c = record {
  within = omega (arith, c.loop-index.invariant.within);
  common = root_put c.args.tokens.now c.loop-index.index c.index-tokens-index-in-loop-index.result
      c.loop-index.common c.certainty-common.result
      (omega (arith, c.loop-index-test.true)) c.loop-index.invariant.within
      c.index-tokens-index-in-loop-index.is c.loop-index.invariant.common
      (c.certainty-common.ensures.common ∙ ap (λ z. certainty z c.loop-index.common) c.root_of.ensures);
}
