use Rattle.std.proofs.Common.{◌+◌, ◌≤◌, None, ap, chars, length, subst}
use Rattle.wax_lazy.proofs.Costs.{verdict_within}
use Rattle.wax_lazy.specs.Cost.{first_visits, path_visits}
use Rattle.wax_prefilter.specs.Compiled.{IsCompiled}
use Rattle.wax_set.proofs.Matchers.{answers_below}
use Rattle.wax.proofs.glob.Glob.goes_on_metered.Goals as goal

abbrev compiled : (c : goal.After-goes_on_metered)
    → IsCompiled c.args.self.now.tree c.self.inside.compiled
compiled c = subst (λ t. IsCompiled t c.self.inside.compiled) (ap (λ g. g.tree) c.self.view_is)
    c.self.invariant.compiled

pub returns-clause-below : goal.returns-clause-below
returns-clause-below c =
    answers_below c.args.self.now.tree c.self.inside.compiled.0 (compiled c).accepts c.goes_on_metered.result
    _ c.args.path.now c.as_str.ensures c.goes_on_metered.ensures.below

pub returns-clause-above : goal.returns-clause-above
returns-clause-above c =
    let m = c.goes_on_metered in
    let old = c.args.meter.now in
    let program = c.self.inside.compiled in
    let within = verdict_within program.0 program.1 (compiled c).longer None
    (length (chars c.as_str.result.now)) old m.new.meter m.ensures.above in
    let there = subst (λ n. m.new.meter ≤ old + first_visits program.1 None + path_visits program.1 n)
    (ap length c.as_str.ensures) within in
    subst (λ n. m.new.meter ≤ old + first_visits n None + path_visits n (length c.args.path.now))
    (compiled c).len there
