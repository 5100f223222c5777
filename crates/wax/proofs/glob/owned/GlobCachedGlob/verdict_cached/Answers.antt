use Rattle.std.proofs.Common.{◌+◌, ◌≤◌, ap, chars, length, subst, sym}
use Rattle.wax.specs.GlobView.{IsCompiledGlob}
use Rattle.wax_lazy.proofs.Costs.{verdict_within}
use Rattle.wax_lazy.specs.Cost.{first_visits, path_visits}
use Rattle.wax_prefilter.specs.Compiled.{IsCompiled}
use Rattle.wax_set.proofs.Matchers.{verdict_decides, verdict_onward}
use Rattle.wax.proofs.glob.owned.GlobCachedGlob.verdict_cached.Goals as goal

abbrev compiled : (c : goal.After-verdict_cached_metered)
    → IsCompiled c.args.self.now.tree c.self.inside.compiled
compiled c = subst (λ t. IsCompiled t c.self.inside.compiled) (ap (λ g. g.tree) c.self.view_is)
    c.self.invariant.compiled

pub invariant_of-self : goal.invariant_of-self
invariant_of-self c =
    subst (λ p. IsCompiledGlob c.self.inside.checked.token p c.self.inside.pieces)
    (sym c.verdict_cached_metered.ensures.same) c.self.invariant

pub returns-clause-decides : goal.returns-clause-decides
returns-clause-decides c =
    verdict_decides c.args.self.now.tree c.self.inside.compiled.0 (compiled c).accepts
    c.verdict_cached_metered.result
    c.args.most _ c.args.path.now c.as_str.ensures c.verdict_cached_metered.ensures.decides

pub returns-clause-onward : goal.returns-clause-onward
returns-clause-onward c =
    verdict_onward c.args.self.now.tree c.self.inside.compiled.0 (compiled c).accepts
    c.verdict_cached_metered.result
    c.args.most _ c.args.path.now c.as_str.ensures c.verdict_cached_metered.ensures.decides

pub returns-clause-above : goal.returns-clause-above
returns-clause-above c =
    let m = c.verdict_cached_metered in
    let old = c.args.meter.now in
    let most = c.args.most in
    let program = c.self.inside.compiled in
    let within = verdict_within program.0 program.1 (compiled c).longer most
    (length (chars c.as_str.result.now)) old m.new.meter m.ensures.above in
    let there = subst (λ n. m.new.meter ≤ old + first_visits program.1 most + path_visits program.1 n)
    (ap length c.as_str.ensures) within in
    subst (λ n. m.new.meter ≤ old + first_visits n most + path_visits n (length c.args.path.now))
    (compiled c).len there
