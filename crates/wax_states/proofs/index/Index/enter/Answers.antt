use Rattle.std.proofs.{Common.{◌+◌, ap, length, map, subst, sym, ◌∙◌}, lemmas.List.length-map}
use Rattle.wax_states.specs.{Indexed.AreIndexed, inner.Slots.{IsEntered, hash_of}}
use Rattle.wax_states.proofs.Slots.{indexed_push}
use Rattle.wax_states.proofs.index.Index.enter.Goals.{else-states-len, then-states-len+in_ok-grow}
use Rattle.wax_states.proofs.index.Index.enter.Goals as goal

pub returns : goal.returns
returns g c = λ before.
    let lists = map g.S.HasPlaces.places_of c.args.states.now in
    let places = g.S.HasPlaces.places_of c.args.state.now in
    let mid : AreIndexed c.if-states-len.self lists = elim c.if-states-len.branch [
      | then-states-len+in_ok-grow w ↦ subst (λ z. AreIndexed z lists) (sym w.self-is) w.in_ok-grow.ensures
      | else-states-len w ↦ subst (λ z. AreIndexed z lists) (sym w.self-is) before
    ] in
    let told = c.in_ok-enter.ensures in
    let slots = c.enter.new.slots.items in
    let entered : IsEntered slots (hash_of places) (length lists + 1) =
    subst (λ n. IsEntered slots (hash_of places) (n + 1))
    (sym (length-map c.args.states.now g.S.HasPlaces.places_of))
    (subst (λ h. IsEntered slots h (length c.args.states.now + 1))
    (c.hash_of.ensures ∙ ap hash_of c.places.ensures)
    told.entered) in
    indexed_push c.self-2.inside.slots.items slots lists told.kept places entered
    (subst (λ z. AreIndexed z lists) (sym c.self-2.view_is) mid)
