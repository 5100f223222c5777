use Rattle.std.proofs.Common.{◌≤◌, ◌∙◌, arith, subst, sym}
use Rattle.wax_components.specs.Depth.{Depth}
use Rattle.wax_query.specs.Ranges.{bounds}
use Rattle.wax_token.specs.Cost.{cost, program_length}
use Rattle.wax_set.proofs.set.AnyProgram.depth.Goals as goal

pub returns-clause-depth : goal.returns-clause-depth
returns-clause-depth c =
    let t = c.as_ref.result.now in
    let whole : program_length t ≤ 1048576 =
    subst (λ u. program_length u ≤ 1048576) (sym c.as_ref.ensures.same) c.self.invariant.compiled.fits in
    let fits : cost t ≤ 1048575 = omega (arith, whole) in
    subst (λ u. Depth u (bounds c.depth.result)) (c.as_ref.ensures.same ∙ c.self.view_is)
    (c.depth.ensures.depth fits)
