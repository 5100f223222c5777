use Rattle.std.proofs.Common.{arith}
use Rattle.wax_components.proofs.Contexts.{all_each, all_some, each_put, some_put}
use Rattle.wax_components.proofs.depth_of.+measure.Goals as goal

pub each_profiles-loop-index-preserved : goal.each_profiles-loop-index-preserved
each_profiles-loop-index-preserved g t c = record {
  within = omega (arith, c.loop-index.invariant.within);
  profiles = each_put c.args.tokens.now c.loop-index.index c.index-tokens-index-in-loop-index.result
      c.token_profiles.result c.loop-index.all c.then-all.result
      (omega (arith, c.loop-index-test.true)) c.loop-index.invariant.within
      c.index-tokens-index-in-loop-index.is c.token_profiles.ensures
      c.loop-index.invariant.profiles c.then-all.ensures;
}

pub each_profiles-returns : goal.each_profiles-returns
each_profiles-returns g t c = all_each c.args.tokens.now c.loop-index.index c.loop-index.all
    (omega (arith, c.loop-index-test.false)) c.loop-index.invariant.profiles

pub some_profiles-loop-index-preserved : goal.some_profiles-loop-index-preserved
some_profiles-loop-index-preserved g t c = record {
  within = omega (arith, c.loop-index.invariant.within);
  profiles = some_put c.args.tokens.now c.loop-index.index c.index-tokens-index.result c.token_profiles.result
      c.loop-index.all c.union-all.result
      (omega (arith, c.loop-index-test.true)) c.loop-index.invariant.within c.index-tokens-index.is
      c.token_profiles.ensures c.loop-index.invariant.profiles c.union-all.ensures;
}

pub some_profiles-returns : goal.some_profiles-returns
some_profiles-returns g t c = all_some c.args.tokens.now c.loop-index.index c.loop-index.all
    (omega (arith, c.loop-index-test.false)) c.loop-index.invariant.profiles
