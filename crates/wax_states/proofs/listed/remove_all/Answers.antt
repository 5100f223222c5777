use Rattle.std.proofs.{Common.{get_or, arith}, lemmas.List.Elements.Contains-get_or}
use Rattle.wax_states.proofs.Listings.{removed_all}
use Rattle.wax_states.proofs.listed.remove_all.Goals as goal

pub remove-requires : goal.remove-requires
remove-requires c =
    let at = get_or c.args.places.now c.loop-place.place-index 0 in
    omega (
      arith,
      c.requires at (Contains-get_or c.args.places.now c.loop-place.place-index 0 c.loop-place-test.true),
      c.loop-place.invariant.room,
    )

pub returns : goal.returns
returns c =
    removed_all c.args.set.now c.loop-place.set c.args.places.now c.loop-place.place-index
    (omega (arith, c.loop-place-test.false)) c.loop-place.invariant
