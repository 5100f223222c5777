use Rattle.std.proofs.Common.{◌≡◌, ◌<◌, ap, arith, inl, inr, length, map, slice_index, subst, ◌∙◌, sym}
use Rattle.std.proofs.lemmas.List.{get_or_default}
use Rattle.wax_states.specs.inner.Slots.{hash_of, slot_after, slot_index}
use Rattle.wax_states.proofs.Slots.{none_found}
use Rattle.wax_states.proofs.index.Index.find.Goals as goal

pub returns-then-slot-eq0 : goal.returns-then-slot-eq0
returns-then-slot-eq0 g c =
    let slots = c.self.inside.slots.items in
    let at = c.slot_index.result in
    let probe = c.loop-probe.probe in
    let places = c.args.places.now in
    let long : c.len.result ≡ length slots = omega (arith, c.len.ensures, c.self.inside.slots.ok.0) in
    let within : at < length slots = omega (arith, c.slot_index.ensures.within, long) in
    let is : at ≡ slot_index (length slots) (hash_of places) probe = c.slot_index.ensures.index
    ∙ ap (λ n. slot_index n c.hash_of-hash.result probe) long
    ∙ ap (λ h. slot_index (length slots) h probe) c.hash_of-hash.ensures in
    let empty : slot_after slots (hash_of places) probe ≡ 0 = ap (slice_index slots) (sym is)
    ∙ get_or_default slots at 0 c.index-slot.result.now within ∙ sym c.index-slot.ensures
    ∙ c.if-slot-eq0.true in
    none_found c.args.self.now (map g.S.HasPlaces.places_of c.args.states.now) places probe
    c.loop-probe.invariant (inl (subst (λ z. slot_after z (hash_of places) probe ≡ 0) c.self.view_is empty))

pub returns : goal.returns
returns g c =
    none_found c.args.self.now (map g.S.HasPlaces.places_of c.args.states.now) c.args.places.now
    c.loop-probe.probe c.loop-probe.invariant
    (inr (omega (
      arith,
      c.loop-probe-test.false,
      c.len-probe-end.ensures,
      c.self.inside.slots.ok.0,
      ap length c.self.view_is,
    )))
