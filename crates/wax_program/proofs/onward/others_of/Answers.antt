use Rattle.std.proofs.Common.{◌≡◌, ◌∙◌, ℕ, ◌+◌, ◌<◌, List, Bool, true, ap, length, length-set, arith, set}
use Rattle.std.proofs.Common.{subst, sym}
use Rattle.wax_program.proofs.Reading.{AreFirst, are_others, first_left, first_set}
use Rattle.wax_program.proofs.onward.others_of.Goals.{then-branch, else-branch}
use Rattle.wax_program.proofs.onward.others_of.Goals as goal

pub loop-at-init : goal.loop-at-init
loop-at-init c = record {
  above = omega arith;
  steady = omega arith;
  room = omega (arith, c.in_ok-others.ensures.room, c.size.ensures.size);
  first = record {
    none = λ k le h. c.in_ok-others.ensures.empty k h;
    are = λ k i t lt is has. absurd (omega (arith, lt));
  };
}

pub loop-at-preserved : goal.loop-at-preserved
loop-at-preserved c =
    let code = c.args.program.now.0 in
    let at : ℕ = c.loop-at.at in
    let flags : List Bool = c.loop-at.others in
    let held = c.loop-at.invariant in
    let here : at < length flags =
    omega (arith, held.room, c.loop-at-test.true, c.size-at-end.ensures.size) in
    let answer = c.in_ok-takes_other_at.field-0 in
    elim c.if-branch.branch [
      | then-branch w ↦
          let same : c.if-branch.others ≡ set flags at true = w.others-is ∙ w.insert.ensures in record {
            above = omega (arith, held.above, c.takes_other_at.ensures.above);
            steady = omega (arith, held.steady, c.takes_other_at.ensures.steady);
            room = omega (arith, held.room, ap length same, length-set flags at true);
            first = subst (λ z. AreFirst code z (at + 1)) (sym same)
                (first_set code flags at held.first here answer w.if-branch.true
                c.in_ok-takes_other_at.ensures.answer);
          }
      | else-branch w ↦ record {
        above = omega (arith, held.above, c.takes_other_at.ensures.above);
        steady = omega (arith, held.steady, c.takes_other_at.ensures.steady);
        room = omega (arith, held.room, ap length w.others-is);
        first = subst (λ z. AreFirst code z (at + 1)) (sym w.others-is)
            (first_left code flags at held.first answer w.if-branch.false
            c.in_ok-takes_other_at.ensures.answer);
      }
    ]

pub returns-clause-others : goal.returns-clause-others
returns-clause-others c = are_others c.args.program.now.0 c.loop-at.others c.loop-at.at
    c.loop-at.invariant.first (omega (arith, c.loop-at-test.false, c.size-at-end.ensures.size))
