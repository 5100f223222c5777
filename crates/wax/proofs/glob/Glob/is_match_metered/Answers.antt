use Rattle.std.proofs.Common.{◌↔◌, ◌≤◌, ◌*◌, ◌+◌, IfOk, IsTrue, ap, chars, length, min, subst}
use Rattle.wax_prefilter.specs.Compiled.{IsCompiled}
use Rattle.wax_prefilter.proofs.Deciding.{answers_tree}
use Rattle.wax_program.specs.Meter.{most_ticks}
use Rattle.wax.specs.GlobView.{IsMeant}
use Rattle.wax.proofs.glob.Glob.is_match_metered.Goals as goal

abbrev compiled_of : (c : goal.After-is_match_metered)
    → IsCompiled c.args.self.now.tree c.self.inside.compiled
compiled_of c = subst (λ t. IsCompiled t c.self.inside.compiled) (ap (λ g. g.tree) c.self.view_is)
    c.self.invariant.compiled

pub returns-clause-means : goal.returns-clause-means
returns-clause-means c =
    let r = c.is_match_metered.result in
    let here = answers_tree c.args.self.now.tree _ (compiled_of c) r
    (chars c.as_str.result.now) c.is_match_metered.ensures.decides in
    subst (λ s. IfOk r (λ answer. IsTrue answer ↔ IsMeant c.args.self.now s)) c.as_str.ensures here

pub returns-clause-above : goal.returns-clause-above
returns-clause-above c =
    let old = c.args.meter.now in
    let moved = subst
    (λ s. c.is_match_metered.new.meter ≤ old + c.self.inside.compiled.1 * (length s + 1)) c.as_str.ensures
    c.is_match_metered.ensures.above in
    subst (λ n. c.is_match_metered.new.meter ≤ old + n * (length c.args.path.now + 1))
    (compiled_of c).len moved

pub returns-clause-below : goal.returns-clause-below
returns-clause-below c =
    subst (λ s. IfOk c.is_match_metered.result (λ answer. IsTrue answer
    → min (c.args.meter.now + length s) most_ticks ≤ c.is_match_metered.new.meter)) c.as_str.ensures
    c.is_match_metered.ensures.below
