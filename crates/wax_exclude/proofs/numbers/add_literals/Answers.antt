use Rattle.std.proofs.{Common.{List, arith, false, subst, ℕ}, lemmas.List.take_all}
use Rattle.wax_prefilter.specs.Literals.{MayPass}
use Rattle.wax_token.specs.Meaning.{Means}
use Rattle.wax_exclude.proofs.PassingLines.{alternative_passes}
use Rattle.wax_exclude.specs.inner.Numbers.{AlternativesPass}
use Rattle.wax_exclude.proofs.numbers.add_literals.Goals as goal

pub loop-alternative-preserved : goal.loop-alternative-preserved
loop-alternative-preserved c =
    let loop = c.loop-alternative in
    let keeps = c.in_ok-add.ensures.keeps in
    let adds = subst (λ t. (s : List ℕ) → Means t false false s → MayPass c.add.new.self s) c.token.ensures
    c.in_ok-add.ensures.adds in (
      (λ s pass. keeps s (loop.invariant.0 s pass)),
      alternative_passes c.args.alternatives.now loop.alternative-index c.alternative-item.result
          loop.literals c.add.new.self
          c.loop-alternative-test.true c.alternative-item.is keeps adds loop.invariant.1,
    )

pub returns-clause-adds : goal.returns-clause-adds
returns-clause-adds c =
    subst (λ ts. AlternativesPass ts c.loop-alternative.literals)
    (take_all c.loop-alternative.alternative-index c.args.alternatives.now
    (omega (arith, c.loop-alternative-test.false)))
    c.loop-alternative.invariant.1
