-- What was reached when a search ends at its limit.
use Rattle.std.proofs.Common.{All, ◌≡◌, ◌<◌, ℕ, List, Some, ap, arith, get_or, inl, inr, length, slice_get}
use Rattle.std.proofs.{Common.{subst, sym, ◌∙◌}, lemmas.List.length-map, lemmas.List.Elements.All-map}
use Rattle.std.proofs.lemmas.Option.{same_Some, slice_get-get_or, slice_get_cases}
use Rattle.wax_program.specs.declared.instruction.Instruction.{Instruction}
use Rattle.wax_compare.specs.Limit.{AllDiffer, AreExplored, Explored, IsMoreThan, IsReachedPair}
use Rattle.wax_compare.specs.{Limit.{IsReachedState, ReachesMore}, declared.automaton.Automaton.Automaton}
use Rattle.wax_compare.specs.{declared.automaton.ProgramState.ProgramState, declared.pairs.Reached.Reached}
use Rattle.wax_compare.specs.declared.search.Search.{Search}
use Rattle.wax_compare.specs.inner.Automata.{IsAutomatonOf, all_places, option_places, state_places}
use Rattle.wax_compare.specs.{inner.Reaching.{AreSamePairs, Readings}, inner.Searching.readings}
use Rattle.wax_compare.specs.inner.Visiting.{IsHeld, IsOverLimit}
use Rattle.wax_compare.proofs.{Automata.same_number, Covering.{all_seen, seen_at}}
use Rattle.wax_compare.proofs.Leading.{begins_among, leads_to, seen}

-- ---- the states of a program
module _ (code : List Instruction) (letters : List ℕ) (r : Automaton)
    (held : IsAutomatonOf code letters r) where
  abbrev states : List ProgramState
  states = r.states.items

  -- each state is reached
  pub state_reached : (t : ℕ) → t < length states → IsReachedState code (state_places states t)
  state_reached t lt = elim (slice_get_cases states t).1 [
    | inl found ↦ subst (IsReachedState code) (sym (ap option_places found.2))
        (held.rows t found.0 found.2).reached
    | inr none ↦ (let no : ⊥ = omega (arith, lt, none.0) in absurd no)
  ]

  pub states_reached : All (IsReachedState code) (all_places states)
  states_reached = All-map (IsReachedState code) (λ s. s.places.items) states
      (λ k s lt. (held.rows k (get_or states k s) (slice_get-get_or states k s lt)).reached)

-- ---- the pairs, and what was reached at all
module _ (code other : List Instruction) (s : Search) (reached : List Reached) (at : ℕ)
    (held : IsHeld code other s reached at) where
  abbrev r : Readings
  r = readings code other s

  seen_here : (i : ℕ) → i < length reached → (x : Reached) × (slice_get reached i ≡ Some x)
      × (slice_get (all_seen r reached) i ≡ Some (seen r x.pair))
  seen_here i lt = elim (slice_get_cases reached i).1 [
    | inl found ↦ (found.0, found.2, seen_at r reached i found.0 found.2)
    | inr none ↦ (let no : ⊥ = omega (arith, lt, none.0) in absurd no)
  ]

  pairs_differ : AllDiffer (all_seen r reached)
  pairs_differ i j lt within same =
      let long : length (all_seen r reached) ≡ length reached = length-map reached (λ x. seen r x.pair) in
      let one = seen_here i (omega (arith, lt, within, long)) in
      let two = seen_here j (omega (arith, within, long)) in
      let equal : seen r one.0.pair ≡ seen r two.0.pair =
      same_Some (seen r one.0.pair) (seen r two.0.pair) (sym one.2 ∙ same ∙ two.2) in
      let first = held.pairs.placed i one.0 one.1 in
      let second = held.pairs.placed j two.0 two.1 in
      let pair : AreSamePairs one.0.pair two.0.pair = record {
        first = same_number r.firsts held.automata.one.differ one.0.pair.first two.0.pair.first
            first.0 second.0 (ap (λ p. p.first) equal);
        second = same_number r.seconds held.automata.two.differ one.0.pair.second two.0.pair.second
            first.1 second.1 (ap (λ p. p.second) equal);
        may_end = ap (λ p. p.may_end) equal;
      } in
      held.pairs.differ i j one.0 two.0 lt one.1 two.1 pair

  pair_reached : (i : ℕ) (x : Reached) → slice_get reached i ≡ Some x
      → IsReachedPair code other s.texts (seen r x.pair)
  pair_reached i x is =
      let placed = held.pairs.placed i x is in
      let led = held.pairs.led i x is in
      record {
        first = state_reached code s.letters.items s.first held.automata.one x.pair.first placed.0;
        second = state_reached other s.letters.items s.second held.automata.two x.pair.second placed.1;
        text = led.0;
        begins = begins_among r x.pair led.0 led.1 led.2;
        leads = leads_to r led.0 x.pair led.2;
      }

  pairs_reached : All (IsReachedPair code other s.texts) (all_seen r reached)
  pairs_reached = All-map (IsReachedPair code other s.texts) (λ x. seen r x.pair) reached
      (λ k x lt. pair_reached k (get_or reached k x) (slice_get-get_or reached k x lt))

  abbrev all : Explored
  all = record {
    letters = s.letters.items;
    firsts = all_places s.first.states.items;
    seconds = all_places s.second.states.items;
    pairs = all_seen r reached;
  }

  explored : AreExplored code other s.texts all
  explored = record {
    unlike = held.unlike;
    firsts_differ = held.automata.one.differ;
    firsts = states_reached code s.letters.items s.first held.automata.one;
    seconds_differ = held.automata.two.differ;
    seconds = states_reached other s.letters.items s.second held.automata.two;
    pairs_differ = pairs_differ;
    pairs = pairs_reached;
  }

  more_than : (most : ℕ) → IsOverLimit most s reached → IsMoreThan most all
  more_than most (inl many) = inl (omega (
    arith,
    many,
    length-map s.first.states.items (λ t. t.places.items),
    length-map s.second.states.items (λ t. t.places.items),
    length-map reached (λ x. seen r x.pair),
  ))
  more_than most (inr large) =
      inr (omega (arith, large, held.automata.one.bytes, held.automata.two.bytes))

  pub reaches_more : (most : ℕ) → IsOverLimit most s reached → ReachesMore code other s.texts most
  reaches_more most over = (all, explored, more_than most over)
