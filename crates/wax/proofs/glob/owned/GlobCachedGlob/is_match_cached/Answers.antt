use Rattle.std.proofs.Common.{◌↔◌, ◌+◌, ◌≤◌, IfOk, IsTrue, ap, chars, length, subst, sym}
use Rattle.wax.specs.GlobView.{IsCompiledGlob, IsMeant}
use Rattle.wax_lazy.proofs.Costs.{path_within}
use Rattle.wax_lazy.specs.Cost.{path_visits}
use Rattle.wax_prefilter.specs.Compiled.{IsCompiled}
use Rattle.wax_program.proofs.LastNames.{same_answer}
use Rattle.wax.proofs.glob.owned.GlobCachedGlob.is_match_cached.Goals as goal

pub invariant_of-self : goal.invariant_of-self
invariant_of-self c =
    subst (λ p. IsCompiledGlob c.self.inside.checked.token p c.self.inside.pieces)
    (sym c.is_match_cached_metered.ensures.same) c.self.invariant

pub returns-clause-means : goal.returns-clause-means
returns-clause-means c =
    let text = chars c.as_str.result.now in
    let compiled = subst (λ t. IsCompiled t c.self.inside.compiled) (ap (λ g. g.tree) c.self.view_is)
    c.self.invariant.compiled in
    let here =
    same_answer c.is_match_cached_metered.result _ _ (compiled.accepts text)
    c.is_match_cached_metered.ensures.decides in
    subst (λ z. IfOk c.is_match_cached_metered.result (λ b. IsTrue b ↔ IsMeant c.args.self.now z))
    c.as_str.ensures here

pub returns-clause-above : goal.returns-clause-above
returns-clause-above c =
    let m = c.is_match_cached_metered in
    let old = c.args.meter.now in
    let program = c.self.inside.compiled in
    let compiled = subst (λ t. IsCompiled t program) (ap (λ g. g.tree) c.self.view_is)
    c.self.invariant.compiled in
    let within = path_within program.0 program.1 compiled.longer (length (chars c.as_str.result.now)) old
    m.new.meter m.ensures.above in
    let there =
    subst (λ n. m.new.meter ≤ old + path_visits program.1 n) (ap length c.as_str.ensures) within in
    subst (λ n. m.new.meter ≤ old + path_visits n (length c.args.path.now)) compiled.len there
