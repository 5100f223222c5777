use Rattle.std.proofs.Common.{◌≡◌, ◌<◌, Some, true≢false, length, map, slice_get, sym, ◌∙◌, ap, refl, arith}
use Rattle.std.proofs.{lemmas.Bool.Decides.Decides-eqb, lemmas.List.length-map}
use Rattle.std.proofs.lemmas.Option.{same_Some, slice_get-map, slice_get_read, slice_get_within}
use Rattle.std.proofs.lemmas.Slice.Eq.{slice_eq-Decides}
use Rattle.std.specs.Option.{option_map}
use Rattle.wax_states.proofs.index.has_places.Goals as goal

pub returns-then-number-states : goal.returns-then-number-states
returns-then-number-states g c = (
  (λ h. absurd (true≢false (sym h))),
  (λ is. let states = c.args.states.now in
      let places_of = g.S.HasPlaces.places_of in
      let within = slice_get_within (map places_of states) c.args.number c.args.places.now is in
      absurd (omega (arith, within, length-map states places_of, c.if-number-states.true))),
)

pub returns : goal.returns
returns g c =
    let states = c.args.states.now in
    let places_of = g.S.HasPlaces.places_of in
    let state = c.index-states-number.result in
    let within : c.args.number < length states = omega (arith, c.if-number-states.false) in
    let here : slice_get (map places_of states) c.args.number ≡ Some (places_of state) =
    slice_get-map places_of states c.args.number ∙ ap (option_map places_of)
    (slice_get_read states (length states) c.args.number state refl within c.index-states-number.is) in
    let told = slice_eq-Decides Decides-eqb _ _ _ c.eq.ensures in (
      (λ h. here ∙ ap Some (sym c.places.ensures ∙ told.0 h)),
      (λ is. told.1 (c.places.ensures ∙ same_Some (places_of state) c.args.places.now (sym here ∙ is))),
    )
