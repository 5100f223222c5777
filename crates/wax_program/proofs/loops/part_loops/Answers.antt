use Rattle.std.proofs.{Common.{◌<◌, inl, inr, ℕ, List, length, get_or, arith}, lemmas.List.get_or_default}
use Rattle.wax_program.proofs.Lists.{parted_one, parted_other}
use Rattle.wax_program.proofs.loops.part_loops.Goals.{then-is_loop+in_ok-push, else-is_loop+in_ok-push-2}
use Rattle.wax_program.proofs.loops.part_loops.Goals as goal

pub returns-clause-parts : goal.returns-clause-parts
returns-clause-parts c = λ k.
    let held = c.loop-place.invariant.parted in
    let end = c.loop-place.auto.place-index-end in (
      (λ h. held.all h.0 k (omega (arith, h.1, c.loop-place-test.false)) h.2),
      (λ h. elim h [
        | inl g ↦ (let found = held.of_part k g in (found.0, omega (arith, found.1, end), found.2))
        | inr g ↦ (let found = held.of_other k g in (found.0, omega (arith, found.1, end), found.2))
      ]),
    )

pub loop-place-preserved : goal.loop-place-preserved
loop-place-preserved c =
    let places : List ℕ = c.args.places.now in
    let i : ℕ = c.loop-place.place-index in
    let within : i < length places = c.loop-place-test.true in
    let is = get_or_default places i 0 (get_or places i 0) within in
    let held = c.loop-place.invariant in
    record {
      parted = elim c.if-is_loop.branch [
        | then-is_loop+in_ok-push w ↦
            rw (w.loops-is, w.others-is, w.in_ok-push.ensures.items)
            (parted_one places i (get_or places i 0) within is c.loop-place.loops.items
            c.loop-place.others.items held.parted)
        | else-is_loop+in_ok-push-2 w ↦
            rw (w.loops-is, w.others-is, w.in_ok-push-2.ensures.items)
            (parted_other places i (get_or places i 0) within is c.loop-place.loops.items
            c.loop-place.others.items held.parted)
      ];
      above = omega (arith, held.above, c.is_loop.ensures.above);
      steady = omega (arith, held.steady, c.is_loop.ensures.steady);
    }
