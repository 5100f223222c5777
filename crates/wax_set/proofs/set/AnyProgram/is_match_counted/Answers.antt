use Rattle.std.proofs.Common.{◌↔◌, ◌≤◌, ◌*◌, ◌+◌, IfOk, IsTrue, chars, length, subst}
use Rattle.wax_prefilter.specs.Compiled.{IsCompiled}
use Rattle.wax_prefilter.proofs.Deciding.{decides_tree, visits_tree}
use Rattle.wax_set.specs.Sets.{MeansText}
use Rattle.wax_token.specs.Cost.{program_length}
use Rattle.wax_set.proofs.set.AnyProgram.is_match_counted.Goals as goal

abbrev compiled_of : (c : goal.After-is_match_counted) → IsCompiled c.args.self.now c.self.inside.compiled
compiled_of c = subst (λ t. IsCompiled t c.self.inside.compiled) c.self.view_is c.self.invariant.compiled

pub returns-clause-decides : goal.returns-clause-decides
returns-clause-decides c =
    let r = c.is_match_counted.result in
    let t = c.args.self.now in
    let here =
    decides_tree t _ (compiled_of c) r (chars c.as_str.result.now) c.is_match_counted.ensures.decides in
    subst (λ s. IfOk r (λ answer. IsTrue answer.0 ↔ MeansText t s)) c.as_str.ensures here

pub returns-clause-above : goal.returns-clause-above
returns-clause-above c =
    let r = c.is_match_counted.result in
    let t = c.args.self.now in
    let here =
    visits_tree t _ (compiled_of c) r (chars c.as_str.result.now) c.is_match_counted.ensures.above in
    subst (λ s. IfOk r (λ answer. answer.1 ≤ program_length t * (length s + 1))) c.as_str.ensures here
