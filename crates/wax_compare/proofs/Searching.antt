-- A step of two automata at once.
use Rattle.std.proofs.Common.{◌≡◌, ◌≢◌, ◌<◌, ◌↔◌, ℕ, List, [], ◌∷◌, None, length, slice_index, sym, subst}
use Rattle.std.proofs.Common.{inl, inr, refl}
use Rattle.wax_program.specs.{declared.instruction.Instruction.Instruction, Threads.AnyAmong}
use Rattle.wax_states.specs.States.{LeadOn}
use Rattle.wax_compare.specs.declared.automaton.ProgramState.{ProgramState}
use Rattle.wax_compare.specs.{declared.pairs.StatePair.StatePair, declared.wanted.Wanted.Wanted}
use Rattle.wax_compare.specs.{declared.wanted.Wanted.TheVariants.{Both, FirstOnly, OneOnly}, Cuts.StandsFor}
use Rattle.wax_compare.specs.{Limit.EndsSearch, inner.Going.{GoesOnAmong, IsAllowed, begun_after}}
use Rattle.wax_compare.specs.inner.Automata.{LeadsToState, StatesStay, state_places}
use Rattle.wax_compare.specs.inner.Reaching.{IsPairStep, OtherTakesNone, Readings, TakesNone}
use Rattle.wax_compare.specs.inner.Searching.{IsNextOrNone, IsNextPair}
use Rattle.wax_compare.proofs.Steps.{allowed_alike, goes_past, moved, none_among, stands_alike}

ends_by_first : (wanted : Wanted) (P Q : Type 0) → wanted ≢ OneOnly → P → EndsSearch wanted P Q
ends_by_first Both P Q other p = inl p
ends_by_first FirstOnly P Q other p = p
ends_by_first OneOnly P Q other p = absurd (other refl)

-- a letter that may not come next
pub next_not_allowed : (r : Readings) (letter : ℕ) (from : StatePair)
    → (IsAllowed r.task.texts from.may_end letter → ⊥) → IsNextOrNone r letter from None
next_not_allowed r letter from never c stands may =
    absurd (never (allowed_alike r from c letter (stands_alike r from letter c stands) may))

-- a letter after which the first program has no places
pub next_first : (r : Readings) (letter : ℕ) (from : StatePair) (to : ℕ)
    → LeadsToState r.task.code r.firsts (state_places r.firsts from.first) letter to
    → r.task.wanted ≢ OneOnly → state_places r.firsts to ≡ [] → IsNextOrNone r letter from None
next_first r letter from to one other e c stands may =
    let places = state_places r.firsts from.first in
    let none : TakesNone r from c = λ s h. none_among r.task.code s (subst (λ z. AnyAmong r.task.code z s) e
    ((moved r.task.code c letter stands.first places (state_places r.firsts to) one.1 s).0 h)) in
    ends_by_first r.task.wanted (TakesNone r from c) (OtherTakesNone r from c) other none

-- a letter after which the second program has none, though it has to select the text, too
pub next_second : (r : Readings) (letter : ℕ) (from : StatePair) (to : ℕ)
    → LeadsToState r.task.other r.seconds (state_places r.seconds from.second) letter to
    → r.task.wanted ≡ Both → state_places r.seconds to ≡ [] → IsNextOrNone r letter from None
next_second r letter from to two both e c stands may =
    let places = state_places r.seconds from.second in
    let none : OtherTakesNone r from c =
    λ s h. none_among r.task.other s (subst (λ z. AnyAmong r.task.other z s) e
    ((moved r.task.other c letter stands.second places (state_places r.seconds to) two.1 s).0 h)) in
    subst (λ w. EndsSearch w (TakesNone r from c) (OtherTakesNone r from c)) (sym both) (inr none)

module _ (r : Readings) (letter : ℕ) (from : StatePair) (to other : ℕ)
    (one : LeadsToState r.task.code r.firsts (state_places r.firsts from.first) letter to)
    (two : LeadsToState r.task.other r.seconds (state_places r.seconds from.second) letter other)
    (next : StatePair) (e : next.first ≡ to) (f : next.second ≡ other)
    (g : next.may_end ≡ begun_after r.task.texts from.may_end letter)
    (may : IsAllowed r.task.texts from.may_end letter) where
  first_on : (c : ℕ) → StandsFor r.task.code r.task.other letter c
      → LeadOn r.task.code c (state_places r.firsts from.first) (state_places r.firsts next.first)
  first_on c stands =
      subst (λ n. LeadOn r.task.code c (state_places r.firsts from.first) (state_places r.firsts n)) (sym e)
      (moved r.task.code c letter stands.first (state_places r.firsts from.first) (state_places r.firsts to)
      one.1)

  second_on : (c : ℕ) → StandsFor r.task.code r.task.other letter c
      → LeadOn r.task.other c (state_places r.seconds from.second) (state_places r.seconds next.second)
  second_on c stands =
      subst (λ n. LeadOn r.task.other c (state_places r.seconds from.second) (state_places r.seconds n))
      (sym f)
      (moved r.task.other c letter stands.second (state_places r.seconds from.second)
      (state_places r.seconds other) two.1)

  step_on : (c : ℕ) → StandsFor r.task.code r.task.other letter c → IsPairStep r from c next
  step_on c stands = record {
    first = first_on c stands;
    second = second_on c stands;
    among = λ s. subst (λ b. GoesOnAmong r.task.texts from.may_end (c ∷ s) ↔ GoesOnAmong r.task.texts b s)
        (sym g) (goes_past r.task.texts from.may_end c letter s stands.slash may);
  }

  pub next_pair : IsNextPair r letter from next
  next_pair = record {
    first = subst (λ n. n < length r.firsts) (sym e) one.0;
    second = subst (λ n. n < length r.seconds) (sym f) two.0;
    allowed = may;
    steps = step_on;
  }

-- a step that an automaton took, where its states stayed
pub step_here : (code : List Instruction) (old new : List ProgramState) (letters given : List ℕ)
    (number from to : ℕ) → StatesStay old new → from < length old → given ≡ letters
    → LeadsToState code new (state_places old from) (slice_index given number) to
    → LeadsToState code new (state_places new from) (slice_index letters number) to
step_here code old new letters given number from to keeps lt e step =
    subst (λ z. LeadsToState code new z (slice_index letters number) to) (sym (keeps from lt).1)
    (subst (λ ls. LeadsToState code new (state_places old from) (slice_index ls number) to) e step)
