-- States that are added.
use Rattle.std.proofs.Common.{◌≡◌, ℕ, zero, suc, Contains, ◌-◌, ◌+◌, ◌*◌, ◌<◌, ◌≤◌, ◌↔◌, List, [], ◌∷◌, ◌++◌}
use Rattle.std.proofs.Common.{Some, IsTrue, length, get_or, set, length-set, get_or-set_same}
use Rattle.std.proofs.Common.{get_or-set_other, ◌≢◌, replicate, refl, sym, ◌∙◌, ap, append_assoc, arith}
use Rattle.std.proofs.Common.{slice_get, slice_index, length-append, subst, inl, inr}
use Rattle.std.proofs.lemmas.Bool.{cases_eq, cases_lt}
use Rattle.std.proofs.lemmas.List.{get_or_default, get_or-replicate, length-map, length-replicate, map-append}
use Rattle.std.proofs.lemmas.Option.{slice_get-map, slice_get_cases, slice_get_within}
use Rattle.std.specs.{Char.IsScalar, List.Sorted.IsStrictlyIncreasing, Option.option_map}
use Rattle.wax_program.specs.{Threads.AnyAmong, declared.instruction.Instruction.Instruction, Machine.Accepts}
use Rattle.wax_states.specs.{Indexed.{AreIndexed, HasNone}, Reached.{AreReached, AreWithin}}
use Rattle.wax_compare.specs.{declared.automaton.Automaton.Automaton, Selected.{CanSelect, IsSelected}}
use Rattle.wax_compare.specs.declared.automaton.ProgramState.{ProgramState}
use Rattle.wax_compare.specs.declared.wanted.Criterion.{Criterion}
use Rattle.wax_compare.specs.Limit.{AllDiffer, IsAtPlaces, IsReachedState, bytes_of_states}
use Rattle.wax_compare.specs.inner.Automata.{BeginsAsProgram, HasLearned, IsAutomatonOf, IsStateOf}
use Rattle.wax_compare.specs.inner.Automata.{LeadsToState, StatesStay, all_places, option_marks}
use Rattle.wax_compare.specs.inner.Automata.{option_places, state_marks, state_places}
use Rattle.wax_compare.specs.inner.Distinctions.{AreDistinctions, MarksOthers}
use Rattle.wax_states.proofs.Slots.{mapped_at}
use Rattle.wax_compare.proofs.{Blocks.scalars_push, Selecting.along}

slice_get_append : {X : Type 0} (xs ys : List X) (t : ℕ) → t < length xs
    → slice_get (xs ++ ys) t ≡ slice_get xs t
slice_get_append [] ys t h = absurd (omega (arith, h))
slice_get_append (x ∷ xs) ys zero h = refl
slice_get_append (x ∷ xs) ys (suc t) h = slice_get_append xs ys t (omega (arith, h))

slice_get_end : {X : Type 0} (xs : List X) (x : X) → slice_get (xs ++ x ∷ []) (length xs) ≡ Some x
slice_get_end [] x = refl
slice_get_end (y ∷ xs) x = slice_get_end xs x

some_same : {s r : ProgramState} → Some s ≡ Some r → s ≡ r
some_same e = cc

pub keeps_append : (states more : List ProgramState) → StatesStay states (states ++ more)
keeps_append states more t lt = (
  omega (arith, length-append states more, lt),
  ap option_places (slice_get_append states more t lt),
  ap option_marks (slice_get_append states more t lt),
)

pub keeps_same : (states : List ProgramState) → StatesStay states states
keeps_same states t lt = (lt, refl, refl)

pub keeps_more : (old mid new : List ProgramState) → StatesStay old mid
    → StatesStay mid new → StatesStay old new
keeps_more old mid new f g t lt = let one = f t lt in let two = g t one.0 in
    (two.0, two.1 ∙ one.1, two.2 ∙ one.2)

pub step_keeps : (code : List Instruction) (old new : List ProgramState) → StatesStay old new
    → (places : List ℕ) (c n : ℕ) → LeadsToState code old places c n → LeadsToState code new places c n
step_keeps code old new keeps places c n h =
    ((keeps n h.0).0, subst (AreReached code c places []) (sym (keeps n h.0).1) h.1)

pub state_keeps : (criterion : Criterion) (code : List Instruction) (letters : List ℕ)
    (old new : List ProgramState) → StatesStay old new → (s : ProgramState)
    → IsStateOf criterion code letters old s → IsStateOf criterion code letters new s
state_keeps criterion code letters old new keeps s h = record {
  reached = h.reached;
  ends = h.ends;
  marks = h.marks;
  room = h.room;
  says = λ k n lt e. step_keeps code old new keeps s.places.items (slice_index letters k) n (h.says k n lt e);
}

-- ---- states that differ

-- one more that none of them is
differ_push : {X : Type 0} (xs : List X) (x : X) → AllDiffer xs → ((t : ℕ) → slice_get xs t ≢ Some x)
    → AllDiffer (xs ++ x ∷ [])
differ_push xs x differ none i j lt within same = elim (cases_lt j (length xs)) [
  | inl inside ↦ differ i j lt inside (sym (slice_get_append xs (x ∷ []) i (omega (arith, lt, inside)))
      ∙ same ∙ slice_get_append xs (x ∷ []) j inside)
  | inr past ↦ (let last : j ≡ length xs = omega (arith, within, past, length-append xs (x ∷ [])) in
      none i (sym (slice_get_append xs (x ∷ []) i (omega (arith, lt, last))) ∙ same
      ∙ ap (slice_get (xs ++ x ∷ [])) last ∙ slice_get_end xs x))
]

pub placed_at : (states : List ProgramState) (t : ℕ) → t < length states
    → slice_get (all_places states) t ≡ Some (state_places states t)
placed_at states t lt = elim (slice_get_cases states t).1 [
  | inl found ↦ slice_get-map (λ s. s.places.items) states t
      ∙ ap (option_map (λ s. s.places.items)) found.2 ∙ ap Some (sym (ap option_places found.2))
  | inr none ↦ (let no : ⊥ = omega (arith, lt, none.0) in absurd no)
]

-- the number of a state that was found
pub found_at : (states : List ProgramState) (t : ℕ) (places : List ℕ)
    → slice_get (all_places states) t ≡ Some places
    → (t < length states) × (state_places states t ≡ places)
found_at states t places is = let found = mapped_at (λ s. s.places.items) states t places is in
    (slice_get_within states t found.0 found.1, ap option_places found.1 ∙ found.2)

-- states with the same places have the same number
pub same_number : (states : List ProgramState) → AllDiffer (all_places states) → (t u : ℕ)
    → t < length states → u < length states → state_places states t ≡ state_places states u → t ≡ u
same_number states differ t u lt ltu e = elim (cases_lt t u) [
  | inl less ↦ absurd (differ t u less (long u ltu) same)
  | inr past ↦ elim (cases_lt u t) [
    | inl more ↦ absurd (differ u t more (long t lt) (sym same))
    | inr least ↦ omega (arith, past, least)
  ]
]
  where
    long : (k : ℕ) → k < length states → k < length (all_places states)
    long k h = omega (arith, h, length-map states (λ s. s.places.items))

    same : slice_get (all_places states) t ≡ slice_get (all_places states) u
    same = placed_at states t lt ∙ ap Some e ∙ sym (placed_at states u ltu)

-- ---- the bytes of the states

pub bytes_push : (letters : ℕ) (states : List ProgramState) (s : ProgramState)
    → bytes_of_states letters (all_places (states ++ s ∷ []))
    ≡ bytes_of_states letters (all_places states) + (8 * length s.places.items + 5 * letters)
bytes_push letters [] s = omega arith
bytes_push letters (r ∷ states) s = omega (arith, bytes_push letters states s)

-- one more state
pub added : (code : List Instruction) (letters : List ℕ) (old new : Automaton) (s : ProgramState)
    → IsAutomatonOf code letters old → new.stepper ≡ old.stepper → new.criterion ≡ old.criterion
    → AreDistinctions code letters new.distinctions
    → new.states.items ≡ old.states.items ++ s ∷ []
    → IsStateOf old.criterion code letters (old.states.items ++ s ∷ []) s
    → AreIndexed new.index (all_places old.states.items ++ s.places.items ∷ [])
    → HasNone (all_places old.states.items) s.places.items
    → new.bytes ≤ old.bytes + (8 * length s.places.items + 5 * length letters)
    → IsAutomatonOf code letters new
added code letters old new s held stepper criterion distinctions e good index none bytes = record {
  size = stepper ∙ held.size;
  can_select = subst (λ v. CanSelect v code) (sym criterion) held.can_select;
  distinctions = distinctions;
  rows = λ t r is. subst (λ v. IsStateOf v code letters new.states.items r) (sym criterion)
      (subst (λ z. IsStateOf old.criterion code letters z r) (sym e)
      (row t r (subst (λ z. slice_get z t ≡ Some r) e is)));
  index = subst (AreIndexed new.index) (sym pushed) index;
  differ = subst AllDiffer (sym pushed)
      (differ_push (all_places old.states.items) s.places.items held.differ none);
  bytes = subst (λ z. new.bytes ≤ bytes_of_states (length letters) (all_places z)) (sym e)
      (omega (arith, bytes, held.bytes, bytes_push (length letters) old.states.items s));
}
  where
    pushed : all_places new.states.items ≡ all_places old.states.items ++ s.places.items ∷ []
    pushed = ap all_places e ∙ map-append (λ z. z.places.items) old.states.items (s ∷ [])

    row : (t : ℕ) (r : ProgramState) → slice_get (old.states.items ++ s ∷ []) t ≡ Some r
        → IsStateOf old.criterion code letters (old.states.items ++ s ∷ []) r
    row t r is = elim (cases_lt t (length old.states.items)) [
      | inl lt ↦ state_keeps old.criterion code letters old.states.items
          (old.states.items ++ s ∷ []) (keeps_append old.states.items (s ∷ [])) r
          (held.rows t r (sym (slice_get_append old.states.items (s ∷ []) t lt) ∙ is))
      | inr past ↦ (let within : t < length (old.states.items ++ s ∷ []) =
          slice_get_within (old.states.items ++ s ∷ []) t r is in
          let last : t ≡ length old.states.items =
          omega (arith, within, past, length-append old.states.items (s ∷ [])) in
          let same : s ≡ r = some_same (sym (slice_get_end old.states.items s)
          ∙ ap (slice_get (old.states.items ++ s ∷ [])) (sym last) ∙ is) in
          subst (IsStateOf old.criterion code letters (old.states.items ++ s ∷ [])) same good)
    ]

pub added_places : (old new : List ProgramState) (s : ProgramState) → new ≡ old ++ s ∷ []
    → (length old < length new) × (state_places new (length old) ≡ s.places.items)
added_places old new s e = (
  omega (arith, ap length e, length-append old (s ∷ [])),
  ap (λ z. option_places (slice_get z (length old))) e ∙ ap option_places (slice_get_end old s),
)

-- ---- a state of which nothing is known yet

pub new_state : (criterion : Criterion) (code : List Instruction) (letters : List ℕ)
    (states : List ProgramState) (s : ProgramState) → IsReachedState code s.places.items
    → (IsTrue s.is_selected ↔ IsSelected criterion (AnyAmong code s.places.items) [])
    → MarksOthers code letters s.places.items s.marked.items
    → (n : ℕ) → n ≡ length letters → s.next.items ≡ replicate n 0
    → IsStateOf criterion code letters states s
new_state criterion code letters states s state selects marks n e zeros = record {
  reached = state;
  ends = selects;
  marks = marks;
  room = ap length zeros ∙ length-replicate {A = ℕ} n 0 ∙ e;
  says = λ k m lt is. (let zeroth : get_or s.next.items k 0 ≡ 0 =
      ap (λ z. get_or z k 0) zeros ∙ get_or-replicate n k 0 0 (omega (arith, lt, e)) in
      let no : ⊥ = omega (arith, zeroth, is) in absurd no);
}

get_set_same : {X : Type 0} (xs : List X) (t : ℕ) (y : X) → t < length xs → slice_get (set xs t y) t ≡ Some y
get_set_same [] t y h = absurd (omega (arith, h))
get_set_same (x ∷ xs) zero y h = refl
get_set_same (x ∷ xs) (suc t) y h = get_set_same xs t y (omega (arith, h))

get_set_other : {X : Type 0} (xs : List X) (t u : ℕ) (y : X) → u ≢ t
    → slice_get (set xs t y) u ≡ slice_get xs u
get_set_other [] t u y h = refl
get_set_other (x ∷ xs) zero zero y h = absurd (h refl)
get_set_other (x ∷ xs) zero (suc u) y h = refl
get_set_other (x ∷ xs) (suc t) zero y h = refl
get_set_other (x ∷ xs) (suc t) (suc u) y h = get_set_other xs t u y (λ e. h (ap suc e))

-- a state in place of another with the same places
set_places : (states : List ProgramState) (t : ℕ) (was is : ProgramState) → slice_get states t ≡ Some was
    → is.places.items ≡ was.places.items → all_places (set states t is) ≡ all_places states
set_places [] t was is at same = refl
set_places (s ∷ states) zero was is at same =
    ap (λ z. z ∷ all_places states) (same ∙ sym (ap (λ r. r.places.items) (some_same at)))
set_places (s ∷ states) (suc t) was is at same =
    ap (λ z. s.places.items ∷ z) (set_places states t was is at same)

here_set : (xs : List ℕ) (i k y : ℕ) → k ≡ i → i < length xs → slice_index (set xs i y) k ≡ y
here_set xs i k y e lt = subst (λ n. slice_index (set xs i y) n ≡ y) (sym e) (get_or-set_same xs i y 0 lt)

-- where a letter leads is noted
module _ (old new : List ProgramState) (state number next : ℕ)
    (f : HasLearned old new state number next) where
  inside : state < length old
  inside = slice_get_within old state f.was f.at

  filled_at : slice_get new state ≡ Some f.is
  filled_at = ap (λ z. slice_get z state) f.set ∙ get_set_same old state f.is inside

  others : (t : ℕ) → t ≢ state → slice_get new t ≡ slice_get old t
  others t n = ap (λ z. slice_get z t) f.set ∙ get_set_other old state t f.is n

  pub fill_keeps : StatesStay old new
  fill_keeps t lt = (
    omega (arith, lt, ap length f.set, length-set old state f.is),
    elim (cases_eq t state) [
      | inr other ↦ ap option_places (others t other)
      | inl same ↦ subst (λ n. state_places new n ≡ state_places old n) (sym same)
          (ap option_places filled_at ∙ ap (λ v. v.items) f.places ∙ sym (ap option_places f.at))
    ],
    elim (cases_eq t state) [
      | inr other ↦ ap option_marks (others t other)
      | inl same ↦ subst (λ n. state_marks new n ≡ state_marks old n) (sym same)
          (ap option_marks filled_at ∙ ap (λ v. v.items) f.marked ∙ sym (ap option_marks f.at))
    ],
  )

  fill_places : all_places new ≡ all_places old
  fill_places = ap all_places f.set ∙ set_places old state f.was f.is f.at (ap (λ v. v.items) f.places)

  module _ (code : List Instruction) (letters : List ℕ)
      (step : LeadsToState code old (state_places old state) (slice_index letters number) next) where
    good_row : (criterion : Criterion) → IsStateOf criterion code letters old f.was
        → IsStateOf criterion code letters old f.is
    good_row criterion h = record {
      reached = subst (λ v. IsReachedState code v.items) (sym f.places) h.reached;
      ends = subst (λ v. IsTrue f.is.is_selected ↔ IsSelected criterion (AnyAmong code v.items) [])
          (sym f.places)
          (subst (λ b. IsTrue b ↔ IsSelected criterion (AnyAmong code f.was.places.items) [])
          (sym f.is_selected) h.ends);
      marks = subst (λ v. MarksOthers code letters v.items f.is.marked.items) (sym f.places)
          (subst (λ v. MarksOthers code letters f.was.places.items v.items) (sym f.marked) h.marks);
      room = elim f.row [
        | inl e ↦ ap length e ∙ h.room
        | inr e ↦ ap length e ∙ length-set f.was.next.items number (next + 1) ∙ h.room
      ];
      says = λ k n lt e. subst (λ v. LeadsToState code old v.items (slice_index letters k) n)
          (sym f.places) (said k n lt e);
    }
      where
        at_number : LeadsToState code old f.was.places.items (slice_index letters number) next
        at_number = subst (λ z. LeadsToState code old z (slice_index letters number) next)
            (ap option_places f.at) step

        said : (k n : ℕ) → k < length letters → slice_index f.is.next.items k ≡ n + 1
            → LeadsToState code old f.was.places.items (slice_index letters k) n
        said k n lt e = elim f.row [
          | inl same ↦ h.says k n lt (sym (ap (λ z. slice_index z k) same) ∙ e)
          | inr changed ↦ elim (cases_eq k number) [
            | inl here ↦ (let within : number < length f.was.next.items = omega (arith, here, lt, h.room) in
                let wrote : slice_index f.is.next.items k ≡ next + 1 = ap (λ z. slice_index z k) changed
                ∙ here_set f.was.next.items number k (next + 1) here within in
                let one : n ≡ next = omega (arith, e, wrote) in
                subst (λ z. LeadsToState code old f.was.places.items (slice_index letters k) z) (sym one)
                (subst (λ z. LeadsToState code old f.was.places.items (slice_index letters z) next)
                (sym here) at_number))
            | inr other ↦ h.says k n lt (sym (ap (λ z. slice_index z k) changed
                ∙ get_or-set_other f.was.next.items number k (next + 1) 0 other) ∙ e)
          ]
        ]

    pub filled : (before after : Automaton) → before.states.items ≡ old → after.states.items ≡ new
        → after.stepper ≡ before.stepper → after.distinctions ≡ before.distinctions
        → after.criterion ≡ before.criterion → after.index ≡ before.index → after.bytes ≡ before.bytes
        → IsAutomatonOf code letters before → IsAutomatonOf code letters after
    filled before after was is stepper distinctions criterion index bytes held = record {
      size = stepper ∙ held.size;
      can_select = subst (λ v. CanSelect v code) (sym criterion) held.can_select;
      distinctions = subst (AreDistinctions code letters) (sym distinctions) held.distinctions;
      rows = λ t r at. subst (λ v. IsStateOf v code letters after.states.items r) (sym criterion)
          (subst (λ z. IsStateOf before.criterion code letters z r) (sym is)
          (row t r (subst (λ z. slice_get z t ≡ Some r) is at)));
      index = subst (λ z. AreIndexed z (all_places after.states.items)) (sym index)
          (subst (AreIndexed before.index) same_all held.index);
      differ = subst AllDiffer same_all held.differ;
      bytes = subst (λ n. n ≤ bytes_of_states (length letters) (all_places after.states.items)) (sym bytes)
          (subst (λ z. before.bytes ≤ bytes_of_states (length letters) z) same_all held.bytes);
    }
      where
        same_all : all_places before.states.items ≡ all_places after.states.items
        same_all = ap all_places was ∙ sym fill_places ∙ ap all_places (sym is)

        held_row : (t : ℕ) (r : ProgramState) → slice_get old t ≡ Some r
            → IsStateOf before.criterion code letters old r
        held_row t r at = subst (λ z. IsStateOf before.criterion code letters z r) was
            (held.rows t r (subst (λ z. slice_get z t ≡ Some r) (sym was) at))

        row : (t : ℕ) (r : ProgramState) → slice_get new t ≡ Some r
            → IsStateOf before.criterion code letters new r
        row t r at = state_keeps before.criterion code letters old new fill_keeps r (elim (cases_eq t state) [
          | inr other ↦ held_row t r (sym (others t other) ∙ at)
          | inl same ↦ (let one : f.is ≡ r = some_same (sym filled_at ∙ ap (slice_get new) (sym same) ∙ at) in
              subst (IsStateOf before.criterion code letters old) one
              (good_row before.criterion (held_row state f.was f.at)))
        ])

-- ---- the state of the beginning

zeroth_only : (k : ℕ) → Contains (0 ∷ []) k → k ≡ 0
zeroth_only k (zero, lt, e) = sym e
zeroth_only k (suc j, lt, e) = absurd (omega (arith, lt))

at_beginning : (code : List Instruction) (s : List ℕ) → Accepts code 0 s ↔ AnyAmong code (0 ∷ []) s
at_beginning code s = (
  (λ h. (0, (0, omega arith, refl), h)),
  (λ h. subst (λ k. Accepts code k s) (zeroth_only h.0 h.1) h.2),
)

pub state_of_beginning : (code : List Instruction) → IsReachedState code (0 ∷ [])
state_of_beginning code = record {
  ascending = λ k lt. absurd (omega (arith, lt));
  within = λ k h. omega (arith, zeroth_only k h);
  text = [];
  scalars = refl;
  at = at_beginning code;
}

pub begins_at : (code : List Instruction) (states : List ProgramState) (n : ℕ) → n ≡ 0 → n < length states
    → state_places states n ≡ 0 ∷ [] → BeginsAsProgram code states
begins_at code states n e lt places = record {
  some = omega (arith, lt, e);
  accepts = λ s. subst (λ z. Accepts code 0 s ↔ AnyAmong code z s)
      (sym places ∙ ap (state_places states) e) (at_beginning code s);
}

-- ---- what a step reached

nothing_among : (code : List Instruction) (s : List ℕ) → AnyAmong code [] s → ⊥
nothing_among code s h = let no : ⊥ = omega (arith, h.1.1) in no

-- is a state
pub state_on : (code : List Instruction) (c : ℕ) (places reached : List ℕ) → IsScalar c
    → IsReachedState code places → AreReached code c places [] reached → IsStrictlyIncreasing reached
    → AreWithin code reached → IsReachedState code reached
state_on code c places reached scalar state step ascending within = record {
  ascending = ascending;
  within = within;
  text = state.text ++ c ∷ [];
  scalars = scalars_push state.text c state.scalars scalar;
  at = at;
}
  where
    on : (s : List ℕ) → AnyAmong code places (c ∷ s) ↔ AnyAmong code reached s
    on s = (
      (λ h. (step s).1 (inl h)),
      (λ h. elim ((step s).0 h) [ inl there ↦ there | inr none ↦ absurd (nothing_among code s none) ]),
    )

    at : IsAtPlaces code (state.text ++ c ∷ []) reached
    at s = subst (λ z. Accepts code 0 z ↔ AnyAmong code reached s) (sym (append_assoc state.text (c ∷ []) s))
        (along (state.at (c ∷ s)) (on s))

-- from a state to the one with the places that a step reached
pub step_to : (code : List Instruction) (old mid : List ProgramState) (state next c d : ℕ) (s : ProgramState)
    (places reached : List ℕ) → slice_get old state ≡ Some s → places ≡ s.places.items → c ≡ d
    → AreReached code c places [] reached → next < length mid → state_places mid next ≡ reached
    → LeadsToState code mid (state_places old state) d next
step_to code old mid state next c d s places reached at e is step within same = (
  within,
  subst (AreReached code d (state_places old state) []) (sym same)
      (subst (λ z. AreReached code d z [] reached) (e ∙ sym (ap option_places at))
      (subst (λ n. AreReached code n places [] reached) is step)),
)

-- what a state knows
pub known_step : (criterion : Criterion) (code : List Instruction) (letters : List ℕ)
    (states : List ProgramState) (state number known : ℕ) (s : ProgramState) → slice_get states state ≡ Some s
    → IsStateOf criterion code letters states s → number < length letters
    → known ≡ get_or s.next.items number known → known ≢ 0
    → LeadsToState code states (state_places states state) (slice_index letters number) (known - 1)
known_step criterion code letters states state number known s at row lt read positive =
    let is : slice_index s.next.items number ≡ known =
    get_or_default s.next.items number 0 known (omega (arith, lt, row.room)) ∙ sym read in
    let one : slice_index s.next.items number ≡ known - 1 + 1 = omega (arith, is, positive) in
    subst (λ z. LeadsToState code states z (slice_index letters number) (known - 1))
    (sym (ap option_places at)) (row.says number (known - 1) lt one)
