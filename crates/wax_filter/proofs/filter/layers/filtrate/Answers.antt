use Rattle.std.proofs.Common.{rules, refl, ap}
use Rattle.std.specs.Prelude.{Some, None, []}
use Rattle.wax_filter.proofs.Passing.{passed}
use Rattle.wax_filter.proofs.filter.layers.filtrate.Goals as goal

pub returns-in-Filtrate-clause-steps : goal.returns-in-Filtrate-clause-steps
returns-in-Filtrate-clause-steps g c =
    c.loop-separation.invariant.steps (Some c.into_inner.result) c.feed.new.self (
      [],
      c.loop-separation.filter,
      Some c.in-Some.separation,
      refl,
      c.in-Some.ensures.steps,
      rw c.in-Filtrate.is (ap Some c.into_inner.ensures),
    )

pub loop-separation-preserved-in-Residue : goal.loop-separation-preserved-in-Residue
loop-separation-preserved-in-Residue g c =
    record {
      can = search rules;
      ends = search rules;
      fewer = search rules;
      steps = λ r t h. c.loop-separation.invariant.steps r t
          (passed g.I.SeparatingFilter.feeds c.loop-separation.filter c.feed.new.self c.in-Residue.field-0 r t
          (rw c.in-Residue.is at c.in-Some.ensures.steps) h);
    }

pub returns-clause-steps : goal.returns-clause-steps
returns-clause-steps g c =
    c.loop-separation.invariant.steps None c.feed.new.self
    ([], c.loop-separation.filter, None, refl, c.in_default.ensures.steps, refl)
