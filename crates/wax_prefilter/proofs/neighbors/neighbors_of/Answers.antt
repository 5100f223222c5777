use Rattle.std.proofs.Common.{◌∙◌, arith, length-set, true}
use Rattle.wax_prefilter.proofs.NeighborNumbers.{neighbors_more}
use Rattle.wax_prefilter.proofs.neighbors.neighbors_of.Goals as goal

pub loop-position-preserved : goal.loop-position-preserved
loop-position-preserved c =
    let number = c.number_of.result in
    let flags = c.loop-position.neighbors in (
      length-set flags number true ∙ c.loop-position.invariant.0,
      neighbors_more c.args.text.now flags c.loop-position.position number
          (omega (arith, c.number_of.ensures.inside, c.loop-position.invariant.0))
          c.loop-position.auto.position c.number_of.ensures.number c.loop-position.invariant.1,
    )

pub returns : goal.returns
returns c = λ k lt. c.loop-position.invariant.1 k (omega (arith, lt, c.loop-position-test.false))
