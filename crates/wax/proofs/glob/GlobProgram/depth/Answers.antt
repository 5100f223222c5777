use Rattle.std.proofs.Common.{◌≤◌, arith, subst}
use Rattle.wax_components.specs.Depth.{Depth}
use Rattle.wax_query.specs.Ranges.{bounds}
use Rattle.wax_token.specs.Cost.{cost}
use Rattle.wax.proofs.glob.GlobProgram.depth.Goals as goal

pub returns-clause-depth : goal.returns-clause-depth
returns-clause-depth c =
    let fits : cost c.token.result.now ≤ 1048575 = omega (arith, c.token.ensures.fits) in
    subst (λ u. Depth u (bounds c.depth.result)) c.token.ensures.same (c.depth.ensures.depth fits)
