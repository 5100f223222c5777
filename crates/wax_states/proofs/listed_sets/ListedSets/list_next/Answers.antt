use Rattle.std.proofs.Common.{◌≡◌, Contains, ap, arith, subst, take_all, ◌∙◌}
use Rattle.wax_states.proofs.listed_sets.ListedSets.list_next.Goals as goal

pub returns-clause-within : goal.returns-clause-within
returns-clause-within c = λ k h.
    let listed = c.places-place-items.result.now in
    let items : c.loop-place.places.items ≡ listed =
    c.loop-place.invariant ∙ take_all c.loop-place.place-index listed c.loop-place-test.false in
    let held = (c.places-place-items.ensures.all k).0 (subst (λ z. Contains z k) items h) in
    omega (arith, c.self.invariant.next_within k held, ap (λ p. p.size) c.self.view_is)
