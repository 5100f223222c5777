use Rattle.std.proofs.Common.{◌≡◌, ◌∙◌, Some, ap, arith, slice_get, subst, sym}
use Rattle.wax_states.specs.Indexed.{AreIndexed, HasNone}
use Rattle.wax_compare.specs.inner.Automata.{all_places}
use Rattle.wax_compare.proofs.Automata.{found_at}
use Rattle.wax_compare.proofs.automaton.Automaton.intern.Goals as goal

pub returns-in-Some-clause-zeroth : goal.returns-in-Some-clause-zeroth
returns-in-Some-clause-zeroth c = λ none.
    let states = c.args.self.now.states.items in
    let reached = c.args.self.now.reached.items in
    let number = c.in-Some.number in
    let found : slice_get (all_places states) number ≡ Some reached =
    subst (λ z. slice_get (all_places z) number ≡ Some reached) c.deref.ensures.value
    (c.in-Some.ensures ∙ ap Some c.deref-2.ensures.value) in
    let told = found_at states number reached found in
    let no : ⊥ = omega (arith, none, told.0) in
    absurd no

pub returns-in-Some-clause-within : goal.returns-in-Some-clause-within
returns-in-Some-clause-within c =
    let states = c.args.self.now.states.items in
    let reached = c.args.self.now.reached.items in
    let number = c.in-Some.number in
    let found : slice_get (all_places states) number ≡ Some reached =
    subst (λ z. slice_get (all_places z) number ≡ Some reached) c.deref.ensures.value
    (c.in-Some.ensures ∙ ap Some c.deref-2.ensures.value) in
    (found_at states number reached found).0

pub returns-in-Some-clause-places : goal.returns-in-Some-clause-places
returns-in-Some-clause-places c =
    let states = c.args.self.now.states.items in
    let reached = c.args.self.now.reached.items in
    let number = c.in-Some.number in
    let found : slice_get (all_places states) number ≡ Some reached =
    subst (λ z. slice_get (all_places z) number ≡ Some reached) c.deref.ensures.value
    (c.in-Some.ensures ∙ ap Some c.deref-2.ensures.value) in
    (found_at states number reached found).1

pub add-requires-clause-absent : goal.add-requires-clause-absent
add-requires-clause-absent c =
    let states = c.args.self.now.states.items in
    subst (HasNone (all_places states)) c.deref-2.ensures.value
    (subst (λ z. HasNone (all_places z) c.deref-2.result.now) c.deref.ensures.value
    (c.in-None.ensures (subst (λ z. AreIndexed c.args.self.now.index (all_places z))
    (sym c.deref.ensures.value) c.requires.automaton.index)))
