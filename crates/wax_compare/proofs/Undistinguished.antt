-- Letters that lead from a pair where another one does.
use Rattle.std.proofs.Common.{◌≡◌, ◌+◌, ◌<◌, ℕ, List, Some, length, slice_get, slice_index, sym, ◌∙◌, ap}
use Rattle.std.proofs.{Common.{subst, inl, inr, arith}, lemmas.Bool.cases_lt, lemmas.Option.slice_get_cases}
use Rattle.wax_program.specs.declared.instruction.Instruction.{Instruction}
use Rattle.wax_compare.specs.{declared.automaton.Automaton.Automaton, declared.pairs.StatePair.StatePair}
use Rattle.wax_compare.specs.{declared.pairs.Reached.Reached, declared.search.Search.Search}
use Rattle.wax_compare.specs.inner.Automata.{IsAutomatonOf, option_marks, option_places, state_marks}
use Rattle.wax_compare.specs.{inner.Automata.state_places, inner.Distinctions.{IsUnmarked, MarksOthers}}
use Rattle.wax_compare.specs.inner.Reaching.{HasNext, IsFollowedBy, Readings}
use Rattle.wax_compare.specs.inner.Searching.{AreAutomataOf, IsSameSearch, IsUndistinguished, KeepsBoth}
use Rattle.wax_compare.specs.{inner.Searching.readings, inner.Visiting.IsVisited}
use Rattle.wax_compare.proofs.Steps.{AlikeFrom, alike_on, allowed_alike, ends_alike, stands_alike}
use Rattle.wax_compare.proofs.{Steps.{stands_itself, step_alike}, Visiting.some_same}

-- what the marks of a state say
marks_at : (code : List Instruction) (letters : List ℕ) (r : Automaton) (t : ℕ)
    → IsAutomatonOf code letters r → t < length r.states.items
    → MarksOthers code letters (state_places r.states.items t) (state_marks r.states.items t)
marks_at code letters r t is lt = elim (slice_get_cases r.states.items t).1 [
  | inl found ↦ (let row = is.rows t found.0 found.2 in
      subst (λ z. MarksOthers code letters z (state_marks r.states.items t)) (sym (ap option_places found.2))
      (subst (λ z. MarksOthers code letters found.0.places.items z)
      (sym (ap option_marks found.2)) row.marks))
  | inr none ↦ absurd (omega (arith, lt, none.0))
]

-- two letters that neither state marks
pub letters_alike : (code other : List Instruction) (s : Search) (p : StatePair) → AreAutomataOf code other s
    → p.first < length s.first.states.items → p.second < length s.second.states.items
    → (n m : ℕ) → n < length s.letters.items → m < length s.letters.items
    → IsUndistinguished s p n → IsUndistinguished s p m
    → AlikeFrom (readings code other s) p (slice_index s.letters.items n) (slice_index s.letters.items m)
letters_alike code other s p automata first second n m ltn ltm un um = record {
  first = marks_at code s.letters.items s.first p.first automata.one first n m ltn ltm un.first um.first;
  second = marks_at other s.letters.items s.second p.second automata.two second n m ltn ltm un.second
      um.second;
  slash = ((λ e. absurd (un.other e)), (λ e. absurd (um.other e)));
}

-- they stay so
pub stays_undistinguished : (old new : Search) (p : StatePair) (k : ℕ) → IsSameSearch old new
    → KeepsBoth old new → p.first < length old.first.states.items → p.second < length old.second.states.items
    → IsUndistinguished old p k → IsUndistinguished new p k
stays_undistinguished old new p k same keeps first second h = record {
  other = subst (λ v. slice_index v.items k ≡ 47 → ⊥) (sym same.letters) h.other;
  first = subst (λ z. IsUnmarked z k) (sym (keeps.firsts p.first first).2) h.first;
  second = subst (λ z. IsUnmarked z k) (sym (keeps.seconds p.second second).2) h.second;
}

-- a character that leads where one does by which the pair was followed
followed_alike : (r : Readings) (reached : List Reached) (x : Reached) (c d : ℕ) → AlikeFrom r x.pair c d
    → IsFollowedBy r reached x d → IsFollowedBy r reached x c
followed_alike r reached x c d alike followed may = elim (followed (allowed_alike r x.pair c d alike may)) [
  | inl ends ↦ inl (ends_alike r x.pair c d alike ends)
  | inr next ↦ (let on : HasNext r reached x c = record {
    at = next.at;
    next = next.next;
    is = next.is;
    near = next.near;
    step = step_alike r x.pair c d next.next.pair alike next.step;
  } in
      inr on)
]

pub visited_alike : (r : Readings) (reached : List Reached) (at : ℕ) (x : Reached)
    → slice_get reached at ≡ Some x → (known letter : ℕ) → AlikeFrom r x.pair letter known
    → IsVisited r reached at known → IsVisited r reached at letter
visited_alike r reached at x at_is known letter alike visited c y is stands =
    let same : y ≡ x = some_same (sym is ∙ at_is) in
    subst (λ z. IsFollowedBy r reached z c) (sym same) (followed_alike r reached x c known
    (alike_on r x.pair c letter known (stands_alike r x.pair letter c stands) alike)
    (visited known x at_is (stands_itself r.task.code r.task.other known)))

-- one more letter was followed, or didn't have to be
pub visited_more_letters : (r : Readings) (reached : List Reached) (at number : ℕ) (letters : List ℕ)
    → ((k : ℕ) → k < number → IsVisited r reached at (slice_index letters k))
    → IsVisited r reached at (slice_index letters number)
    → (k : ℕ) → k < number + 1 → IsVisited r reached at (slice_index letters k)
visited_more_letters r reached at number letters before now k lt = elim (cases_lt k number) [
  | inl less ↦ before k less
  | inr past ↦ (let same : number ≡ k = omega (arith, lt, past) in
      subst (λ n. IsVisited r reached at (slice_index letters n)) same now)
]
