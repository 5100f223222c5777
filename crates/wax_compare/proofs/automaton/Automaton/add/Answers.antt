use Rattle.std.proofs.Common.{◌≡◌, ◌↔◌, ◌++◌, ◌∷◌, [], IsTrue, length, replicate, refl, sym, ◌∙◌, ap, arith}
use Rattle.std.proofs.Common.{subst}
use Rattle.wax_compare.specs.{declared.automaton.ProgramState.ProgramState, Limit.IsReachedState}
use Rattle.wax_compare.specs.{Selected.IsSelected, inner.Automata.{StatesStay, all_places, state_places}}
use Rattle.wax_compare.specs.inner.Distinctions.{MarksOthers}
use Rattle.wax_program.specs.Threads.{AnyAmong}
use Rattle.wax_states.specs.Indexed.{AreIndexed, HasNone}
use Rattle.wax_compare.proofs.Automata.{added, added_places, keeps_append, new_state}
use Rattle.wax_compare.proofs.automaton.Automaton.add.Goals as goal

pub returns-clause-automaton : goal.returns-clause-automaton
returns-clause-automaton c =
    let code = c.args.program.now.0 in
    let letters = c.args.letters.now in
    let old = c.args.self.now in
    let reached = old.reached.items in
    let s : ProgramState = record {
      places = c.in_ok-places.places;
      is_selected = c.in_ok-is_selected.is_selected;
      marked = c.in_ok-marked.marked;
      next = c.in_ok-next.next;
    } in
    let new = record old {
      states = c.push.new.self;
      stepper = c.selects.new.stepper;
      distinctions = c.mark.new.self;
      index = c.enter.new.self;
      numbers = c.selects.new.numbers;
      bytes = c.saturating_add-self.result;
      meter = c.selects.new.meter;
    } in
    let places : s.places.items ≡ reached =
    c.in_ok-places.ensures.items ∙ c.deref-3.ensures.value in
    let zeros : s.next.items ≡ replicate (length letters) 0 =
    c.in_ok-next.ensures.items_if_clones_equal (λ y e. e) in
    let ends : IsTrue s.is_selected ↔ IsSelected old.criterion (AnyAmong code reached) [] =
    subst (λ z. IsTrue s.is_selected ↔ IsSelected old.criterion (AnyAmong code z) []) c.deref.ensures.value
    c.in_ok-is_selected.ensures.selected in
    let marks : MarksOthers code letters reached s.marked.items =
    subst (λ z. MarksOthers code letters z s.marked.items) c.deref-2.ensures.value
    c.in_ok-marked.ensures.marked in
    added code letters old new s c.requires.automaton c.selects.ensures.same refl c.in_ok-marked.ensures.kept
    c.in_ok-push.ensures.items
    (new_state old.criterion code letters (old.states.items ++ s ∷ []) s
    (subst (IsReachedState code) (sym places) c.requires.state)
    (subst (λ z. IsTrue s.is_selected ↔ IsSelected old.criterion (AnyAmong code z) []) (sym places) ends)
    (subst (λ z. MarksOthers code letters z s.marked.items) (sym places) marks) (length letters) refl zeros)
    (subst (λ z. AreIndexed c.enter.new.self (all_places z ++ s.places.items ∷ [])) c.deref-4.ensures.value
    (c.in_ok-enter.ensures (subst (λ z. AreIndexed old.index (all_places z)) (sym c.deref-4.ensures.value)
    c.requires.automaton.index)))
    (subst (HasNone (all_places old.states.items)) (sym places) c.requires.absent)
    (omega (
      arith,
      c.saturating_add-self.ensures,
      c.bytes_of.ensures,
      c.len.ensures,
      old.reached.ok.0,
      ap length places,
    ))

pub returns-clause-kept : goal.returns-clause-kept
returns-clause-kept c =
    let s : ProgramState = record {
      places = c.in_ok-places.places;
      is_selected = c.in_ok-is_selected.is_selected;
      marked = c.in_ok-marked.marked;
      next = c.in_ok-next.next;
    } in
    subst (StatesStay c.args.self.now.states.items) (sym c.in_ok-push.ensures.items)
    (keeps_append c.args.self.now.states.items (s ∷ []))

pub returns-clause-places : goal.returns-clause-places
returns-clause-places c =
    let s : ProgramState = record {
      places = c.in_ok-places.places;
      is_selected = c.in_ok-is_selected.is_selected;
      marked = c.in_ok-marked.marked;
      next = c.in_ok-next.next;
    } in
    let old = c.args.self.now.states.items in
    let new = c.push.new.self.items in
    let told = added_places old new s c.in_ok-push.ensures.items in
    let number : c.len-number.result ≡ length old =
    omega (arith, c.len-number.ensures, c.args.self.now.states.ok.0) in
    subst (λ n. state_places new n ≡ c.args.self.now.reached.items) (sym number)
    (told.1 ∙ c.in_ok-places.ensures.items ∙ c.deref-3.ensures.value)
