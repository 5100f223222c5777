use Rattle.std.proofs.Common.{◌≡◌, ◌+◌, Some, ap, arith, length, map, refl, slice_get, subst, ◌∙◌}
use Rattle.std.proofs.{lemmas.List.length-map, lemmas.Option.{slice_get-map, slice_get_read}}
use Rattle.std.specs.Option.{option_map}
use Rattle.wax_states.specs.inner.Slots.{IsEntered, hash_of}
use Rattle.wax_states.proofs.Slots.{indexed_all, indexed_more}
use Rattle.wax_states.proofs.index.Index.grow.Goals as goal

pub loop-number-preserved : goal.loop-number-preserved
loop-number-preserved g c =
    let states = c.args.states.now in
    let places_of = g.S.HasPlaces.places_of in
    let number = c.loop-number.number in
    let state = c.index-states-number.result in
    let here : slice_get (map places_of states) number ≡ Some (places_of state) =
    slice_get-map places_of states number ∙ ap (option_map places_of)
    (slice_get_read states (length states) number state refl (omega (arith, c.loop-number-test.true))
    c.index-states-number.is) in
    let slots = c.enter.new.slots.items in
    let told = c.in_ok-enter.ensures in
    indexed_more c.loop-number.self-inside.slots.items slots (map places_of states) told.kept number
    (places_of state) here
    (subst (λ h. IsEntered slots h (number + 1)) (c.hash_of.ensures ∙ ap hash_of c.places.ensures)
    told.entered)
    c.loop-number.invariant

pub returns : goal.returns
returns g c =
    let states = c.args.states.now in
    let places_of = g.S.HasPlaces.places_of in
    indexed_all c.loop-number.self-inside.slots.items (map places_of states) c.loop-number.number
    (omega (arith, c.loop-number-test.false, length-map states places_of)) c.loop-number.invariant
