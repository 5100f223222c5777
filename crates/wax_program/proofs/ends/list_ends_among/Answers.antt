use Rattle.std.proofs.{Common.{◌<◌, ℕ, List, length, get_or, arith}, lemmas.List.get_or_default}
use Rattle.wax_program.proofs.Marks.{ends_none, ends_step, ends_whole}
use Rattle.wax_program.proofs.ends.list_ends_among.Goals as goal

pub loop-place-init : goal.loop-place-init
loop-place-init c = record {
  ends = ends_none c.args.program.now.0 c.args.places.now _ c.clear.ensures.items;
  above = omega arith;
  steady = omega arith;
}

pub loop-place-preserved : goal.loop-place-preserved
loop-place-preserved c =
    let places : List ℕ = c.args.places.now in
    let i : ℕ = c.loop-place.place-index in
    let within : i < length places = c.loop-place-test.true in
    let held = c.loop-place.invariant in
    record {
      ends = ends_step c.args.program.now.0 places i (get_or places i 0) c.loop-place.numbers.items
          c.push_ends.new.numbers.items within
          (get_or_default places i 0 (get_or places i 0) within) c.in_ok-push_ends.ensures.ends held.ends;
      above = omega (arith, held.above, c.push_ends.ensures.above);
      steady = omega (arith, held.steady, c.push_ends.ensures.steady);
    }

pub returns-clause-ends : goal.returns-clause-ends
returns-clause-ends c =
    ends_whole c.args.program.now.0 c.args.places.now c.loop-place.place-index c.loop-place.numbers.items
    c.loop-place-test.false c.loop-place.auto.place-index-end c.loop-place.invariant.ends
