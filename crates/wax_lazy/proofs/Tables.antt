-- States that are added, and cells that are filled.
use Rattle.std.proofs.Common.{◌≡◌, ℕ, zero, suc, ◌+◌, ◌-◌, ◌*◌, ◌<◌, ◌≤◌, ◌⊎◌, ◌↔◌, ◌≢◌, inl, inr, Bool, true}
use Rattle.std.proofs.Common.{false, List, [], ◌∷◌, ◌++◌, Option, Some, None, IfSome, IsTrue, is_some}
use Rattle.std.proofs.Common.{true≢false, Contains, length, get_or, set, replicate, refl, sym, ◌∙◌, ap, subst}
use Rattle.std.proofs.Common.{arith, slice_get, length-append, length-set, get_or-set_same, get_or-set_other}
use Rattle.std.proofs.lemmas.Bool.{cases_eq, cases_lt}
use Rattle.std.proofs.lemmas.List.{get_or_append_left, get_or-append_right, get_or-replicate}
use Rattle.std.proofs.{lemmas.List.length-replicate, lemmas.Option.{slice_get_cases, slice_get_within}}
use Rattle.std.specs.Global.{Vec}
use Rattle.wax_states.specs.{declared.table.State.State, declared.table.WideCell.WideCell}
use Rattle.wax_states.specs.declared.table.Next.{Next}
use Rattle.wax_states.specs.declared.table.Next.TheVariants.{To, Nothing, Everything}
use Rattle.wax_states.specs.States.{AreEmpty, HasWide, IsWrittenWide, cell_of_next, IsDead, IsSettled}
use Rattle.wax_states.specs.States.{HasState, IsTransition, LeadOn, LeadsNext, LeadsTo, TakesAll, state_of}
use Rattle.wax_states.specs.States.{places_at, places_in, places_or_none, with_said}
use Rattle.wax_states.specs.Reached.{AreReached, taken_if}
use Rattle.wax_lazy.specs.Cost.{most_kept}
use Rattle.wax_lazy.specs.inner.Table.{AreNumbersOf, AreWideCells, BeginsTexts, IsFailureState, IsState}
use Rattle.wax_lazy.specs.inner.Table.{IsTable, IsJoinOf, KeepsStates, Leads, known_numbers, numbers_in}
use Rattle.wax_lazy.specs.inner.Table.{own_at, own_in}
use Rattle.wax_program.specs.{declared.instruction.Instruction.Instruction, Machine.Accepts}
use Rattle.wax_program.specs.Threads.{AnyAmong, AreParts}

-- ---- lists
pub slice_get_append : {X : Type 0} (xs ys : List X) (t : ℕ) → t < length xs
    → slice_get (xs ++ ys) t ≡ slice_get xs t
slice_get_append [] ys t h = absurd (omega (arith, h))
slice_get_append (x ∷ xs) ys zero h = refl
slice_get_append (x ∷ xs) ys (suc t) h = slice_get_append xs ys t (omega (arith, h))

pub slice_get_end : {X : Type 0} (xs : List X) (x : X) → slice_get (xs ++ x ∷ []) (length xs) ≡ Some x
slice_get_end [] x = refl
slice_get_end (y ∷ xs) x = slice_get_end xs x

slice_get_set_same : {X : Type 0} (xs : List X) (t : ℕ) (y : X) → t < length xs
    → slice_get (set xs t y) t ≡ Some y
slice_get_set_same [] t y h = absurd (omega (arith, h))
slice_get_set_same (x ∷ xs) zero y h = refl
slice_get_set_same (x ∷ xs) (suc t) y h = slice_get_set_same xs t y (omega (arith, h))

slice_get_set_other : {X : Type 0} (xs : List X) (t u : ℕ) (y : X) → u ≢ t
    → slice_get (set xs t y) u ≡ slice_get xs u
slice_get_set_other [] t u y h = refl
slice_get_set_other (x ∷ xs) zero zero y h = absurd (h refl)
slice_get_set_other (x ∷ xs) zero (suc u) y h = refl
slice_get_set_other (x ∷ xs) (suc t) zero y h = refl
slice_get_set_other (x ∷ xs) (suc t) (suc u) y h = slice_get_set_other xs t u y (λ e. h (ap suc e))

some_same : {s r : State} → Some s ≡ Some r → s ≡ r
some_same e = cc

none_some : {s : State} → None ≡ Some s → ⊥
none_some e = cc

-- ---- states that keep their numbers
pub keeps_append : (states more : List State) → KeepsStates states (states ++ more)
keeps_append states more t lt = (
  omega (arith, length-append states more, lt),
  ap places_in (slice_get_append states more t lt),
  ap own_in (slice_get_append states more t lt),
)

pub keeps_same : (states : List State) → KeepsStates states states
keeps_same states t lt = (lt, refl, refl)

pub keeps_more : (old mid new : List State) → KeepsStates old mid → KeepsStates mid new → KeepsStates old new
keeps_more old mid new f g t lt =
    ((g t (f t lt).0).0, (g t (f t lt).0).1 ∙ (f t lt).1, (g t (f t lt).0).2 ∙ (f t lt).2)

module _ (old new : List State) (keeps : KeepsStates old new) where
  pub placed_keeps : (at : ℕ) → HasState old at → HasState new at
  placed_keeps at p = (keeps at p).0

  pub places_keep : (at : ℕ) → HasState old at → places_at new at ≡ places_at old at
  places_keep at p = (keeps at p).1

  pub leads_to_keeps : (code : List Instruction) (place : List ℕ) (c at : ℕ) → LeadsTo code old place c at
      → LeadsTo code new place c at
  leads_to_keeps code place c at l = record {
    has_state = placed_keeps at l.has_state;
    leads = subst (LeadOn code c place) (sym (places_keep at l.has_state)) l.leads;
  }

  pub cell_keeps : (code : List Instruction) (place : List ℕ) (c cell : ℕ)
      → IsTransition code old place c cell → IsTransition code new place c cell
  cell_keeps code place c cell (inl e) = inl e
  cell_keeps code place c cell (inr (inl h)) = inr (inl h)
  cell_keeps code place c cell (inr (inr (inl h))) = inr (inr (inl h))
  cell_keeps code place c cell (inr (inr (inr h))) =
      inr (inr (inr (h.0, h.1, leads_to_keeps code place c h.0 h.2)))

  pub begins_keeps : (code : List Instruction) (start at : ℕ) → BeginsTexts code old start at
      → BeginsTexts code new start at
  begins_keeps code start at b = record {
    has_state = placed_keeps at b.has_state;
    accepts = λ s. subst (λ z. Accepts code start s ↔ AnyAmong code z s)
        (sym (places_keep at b.has_state)) (b.accepts s);
  }

  pub failure_keeps : (code : List Instruction) (places others : List ℕ) (failure : Option ℕ)
      → IfSome failure (IsFailureState code old places others)
      → IfSome failure (IsFailureState code new places others)
  failure_keeps code places others (Some at) r = record {
    has_state = placed_keeps at r.has_state;
    union = subst (λ z. IsJoinOf code places z others) (sym (places_keep at r.has_state)) r.union;
  }
  failure_keeps code places others None r = tt

  pub state_keeps : (code : List Instruction) (s : State) → IsState code old s → IsState code new s
  state_keeps code s good = record {
    ends = good.ends;
    numbers = good.numbers;
    failure = failure_keeps code s.places.items s.own.items s.failure good.failure;
  }

-- ---- tables
pub table_empty : (code : List Instruction) → IsTable code [] []
table_empty code = record {
  few = omega arith;
  room = refl;
  rows = λ t s e. absurd (none_some e);
  says = λ t k lt low. absurd (omega (arith, lt));
}

module _ (code : List Instruction) (states : List State) (cells : List ℕ)
    (table : IsTable code states cells) where
  module _ (s : State) (good : IsState code states s) where
    longer : length (states ++ s ∷ []) ≡ length states + 1
    longer = length-append states (s ∷ [])

    row_kept : (r : State) → IsState code states r → IsState code (states ++ s ∷ []) r
    row_kept = state_keeps states (states ++ s ∷ []) (keeps_append states (s ∷ [])) code

    row_pushed : (t : ℕ) (r : State) → slice_get (states ++ s ∷ []) t ≡ Some r
        → IsState code (states ++ s ∷ []) r
    row_pushed t r e = elim (cases_lt t (length states)) [
      | inl lt ↦ row_kept r (table.rows t r (sym (slice_get_append states (s ∷ []) t lt) ∙ e))
      | inr ge ↦ (let within : t < length (states ++ s ∷ []) = slice_get_within (states ++ s ∷ []) t r e in
          let last : t ≡ length states = omega (arith, within, ge, longer) in
          let same : s ≡ r =
          some_same (sym (slice_get_end states s) ∙ ap (slice_get (states ++ s ∷ [])) (sym last) ∙ e) in
          subst (IsState code (states ++ s ∷ [])) same (row_kept s good))
    ]

    cell_pushed : (t k : ℕ) → t < length (states ++ s ∷ []) → k < 128
        → IsTransition code (states ++ s ∷ []) (places_at (states ++ s ∷ []) t) k
        (get_or (cells ++ replicate 128 0) (128 * t + k) 0)
    cell_pushed t k within low = elim (cases_lt t (length states)) [
      | inl lt ↦ (let inside : 128 * t + k < length cells = omega (arith, table.room, lt, low) in
          let was : IsTransition code states (places_at states t) k (get_or cells (128 * t + k) 0) =
          table.says t k lt low in
          let kept : IsTransition code (states ++ s ∷ []) (places_at states t) k
          (get_or cells (128 * t + k) 0) =
          cell_keeps states (states ++ s ∷ []) (keeps_append states (s ∷ [])) code (places_at states t) k
          (get_or cells (128 * t + k) 0) was in
          let set : places_at (states ++ s ∷ []) t ≡ places_at states t =
          (keeps_append states (s ∷ []) t lt).1 in
          let cell : get_or (cells ++ replicate 128 0) (128 * t + k) 0 ≡ get_or cells (128 * t + k) 0 =
          get_or_append_left cells (replicate 128 0) 0 (128 * t + k) inside in
          subst (λ z. IsTransition code (states ++ s ∷ []) z k
          (get_or (cells ++ replicate 128 0) (128 * t + k) 0)) (sym set)
          (subst (IsTransition code (states ++ s ∷ []) (places_at states t) k) (sym cell) kept))
      | inr ge ↦ (let last : t ≡ length states = omega (arith, within, ge, longer) in
          let past : length cells ≤ 128 * t + k = omega (arith, table.room, last) in
          let few : 128 * t + k - length cells < 128 = omega (arith, table.room, last, low) in
          inl (get_or-append_right cells (replicate 128 0) (length cells) (128 * t + k) 0 refl past
          ∙ get_or-replicate 128 (128 * t + k - length cells) 0 0 few))
    ]

    pub table_push : length states < most_kept → IsTable code (states ++ s ∷ []) (cells ++ replicate 128 0)
    table_push fits = record {
      few = omega (arith, longer, fits);
      room = omega
          (arith, longer, length-append cells (replicate 128 0), length-replicate {A = ℕ} 128 0, table.room);
      rows = row_pushed;
      says = cell_pushed;
    }

  module _ (t k cell : ℕ) (lt : t < length states) (low : k < 128)
      (filled : IsTransition code states (places_at states t) k cell) where
    cell_written : (u j : ℕ) → u < length states → j < 128
        → IsTransition code states (places_at states u) j
        (get_or (set cells (128 * t + k) cell) (128 * u + j) 0)
    cell_written u j within small = elim (cases_eq (128 * u + j) (128 * t + k)) [
      | inl same ↦ (let number : u ≡ t = omega (arith, same, small, low) in
          let column : j ≡ k = omega (arith, same, small, low) in
          let inside : 128 * t + k < length cells = omega (arith, table.room, lt, low) in
          let e : get_or (set cells (128 * t + k) cell) (128 * u + j) 0 ≡ cell =
          ap (λ i. get_or (set cells (128 * t + k) cell) i 0) same
          ∙ get_or-set_same cells (128 * t + k) cell 0 inside in
          subst (IsTransition code states (places_at states u) j) (sym e)
          (subst (λ i. IsTransition code states (places_at states u) i cell) (sym column)
          (subst (λ i. IsTransition code states (places_at states i) k cell) (sym number) filled)))
      | inr other ↦
          subst (IsTransition code states (places_at states u) j)
          (sym (get_or-set_other cells (128 * t + k) (128 * u + j) cell 0 other))
          (table.says u j within small)
    ]

    pub table_write : IsTable code states (set cells (128 * t + k) cell)
    table_write = record {
      few = table.few;
      room = length-set cells (128 * t + k) cell ∙ table.room;
      rows = table.rows;
      says = cell_written;
    }

-- ---- more is known of the texts that end in a state
module _ (old new : List State) (t : ℕ) (accepts : State → Option Bool) (numbers : State → Option (Vec ℕ))
    (settled : IsSettled old new t accepts numbers) where
  abbrev said : State
  said = with_said settled.0 (accepts settled.0) (numbers settled.0)

  here : slice_get new t ≡ Some said
  here = ap (λ z. slice_get z t) settled.2
      ∙ slice_get_set_same old t said (slice_get_within old t settled.0 settled.1)

  others : (u : ℕ) → u ≢ t → slice_get new u ≡ slice_get old u
  others u apart = ap (λ z. slice_get z u) settled.2 ∙ slice_get_set_other old t u said apart

  count : length new ≡ length old
  count = ap length settled.2 ∙ length-set old t said

  pub settled_numbers : numbers_in (slice_get new t) ≡ known_numbers (numbers settled.0)
  settled_numbers = ap numbers_in here

  pub settled_keeps : KeepsStates old new
  settled_keeps u lt = (
    omega (arith, lt, count),
    elim (cases_eq u t) [
      | inl same ↦ subst (λ k. places_at new k ≡ places_at old k) (sym same)
          (ap places_in here ∙ sym (ap places_in settled.1))
      | inr other ↦ ap places_in (others u other)
    ],
    elim (cases_eq u t) [
      | inl same ↦
          subst (λ k. own_at new k ≡ own_at old k) (sym same) (ap own_in here ∙ sym (ap own_in settled.1))
      | inr other ↦ ap own_in (others u other)
    ],
  )

  pub table_settled : (code : List Instruction) (cells : List ℕ) → IsTable code old cells
      → IfSome (accepts settled.0) (λ b. IsTrue b ↔ AnyAmong code settled.0.places.items [])
      → IfSome (numbers settled.0) (λ v. AreNumbersOf code settled.0.places.items v.items)
      → IsTable code new cells
  table_settled code cells table ends are = record {
    few = omega (arith, table.few, count);
    room = omega (arith, table.room, count);
    rows = λ u r e. elim (cases_eq u t) [
      | inl same ↦ (let is : said ≡ r = some_same (sym here ∙ ap (slice_get new) (sym same) ∙ e) in
          let was : IsState code old settled.0 = table.rows t settled.0 settled.1 in
          subst (IsState code new) is (record {
            ends = ends;
            numbers = are;
            failure = failure_keeps old new settled_keeps code settled.0.places.items settled.0.own.items
                settled.0.failure was.failure;
          }))
      | inr other ↦ state_keeps old new settled_keeps code r (table.rows u r (sym (others u other) ∙ e))
    ];
    says = λ u k lt low. (let within : u < length old = omega (arith, lt, count) in
        subst (λ z. IsTransition code new z k (get_or cells (128 * u + k) 0)) (sym (settled_keeps u within).1)
        (cell_keeps old new settled_keeps code (places_at old u) k (get_or cells (128 * u + k) 0)
        (table.says u k within low)));
  }

-- numbers that are known are right
pub known_are : (code : List Instruction) (places : List ℕ) (known : Option (Vec ℕ)) → is_some known ≡ true
    → IfSome known (λ v. AreNumbersOf code places v.items)
    → AreNumbersOf code places (known_numbers known)
known_are code places (Some v) is are = are
known_are code places None is are = absurd (true≢false (sym is))

-- ---- cells of a state
pub cell_inside : (states : List State) (cells : List ℕ) (at c : ℕ) → length cells ≡ 128 * length states
    → at < length states → c < 128
    → 128 * at + c < length cells
cell_inside states cells at c room has low = omega (arith, room, has, low)

pub leads_known : (code : List Instruction) (states : List State) (place : List ℕ) (c : ℕ) (next : Next)
    → LeadsNext code states place c next
    → (next ≡ Everything → ⊥) → Leads code states place c (state_of next)
leads_known code states place c (To at) l h = l
leads_known code states place c Nothing dead h = dead
leads_known code states place c Everything all h = absurd (h refl)

pub table_filled : (code : List Instruction) (states : List State) (cells written : List ℕ) (at c cell : ℕ)
    → IsTable code states cells
    → HasState states at → IsTransition code states (places_at states at) c cell
    → (c < 128 → written ≡ set cells (128 * at + c) cell) → (128 ≤ c → written ≡ cells)
    → IsTable code states written
table_filled code states cells written at c cell table p says filled unfilled = elim (cases_lt c 128) [
  | inl low ↦
      subst (IsTable code states) (sym (filled low))
      (table_write code states cells table at c cell p low says)
  | inr high ↦ subst (IsTable code states) (sym (unfilled high)) table
]

-- ---- places
-- one place accepts what the program does from there on
pub one_place : (code : List Instruction) (start : ℕ) (s : List ℕ)
    → Accepts code start s ↔ AnyAmong code (start ∷ []) s
one_place code start s = (
  (λ h. (start, (0, omega arith, refl), h)),
  (λ h. subst (λ k. Accepts code k s) (only h.0 h.1) h.2),
)
  where
    only : (k : ℕ) → Contains (start ∷ []) k → k ≡ start
    only k (zero, lt, e) = sym e
    only k (suc i, lt, e) = absurd (omega (arith, lt))

pub no_place : (code : List Instruction) (s : List ℕ) → AnyAmong code [] s → ⊥
no_place code s h = absurd (let lt : h.1.0 < 0 = h.1.1 in omega (arith, lt))

-- places that lead to none are dead
pub dead_of_none : (code : List Instruction) (c : ℕ) (places others : List ℕ) → LeadOn code c places others
    → others ≡ [] → IsDead code places c
dead_of_none code c places others a none s h =
    no_place code s (subst (λ z. AnyAmong code z s) none ((a s).0 h))

-- a step from all places
pub all_leads : (code : List Instruction) (c : ℕ) (places reached : List ℕ) (leads : Bool)
    → AreReached code c places (taken_if leads []) reached
    → LeadOn code c places reached
all_leads code c places reached true a s = (
  (λ h. (a s).1 (inl h)),
  (λ h. elim ((a s).0 h) [ inl g ↦ g | inr g ↦ absurd (no_place code s g) ]),
)
all_leads code c places reached false a s = (
  (λ h. (a s).1 (inl h)),
  (λ h. elim ((a s).0 h) [ inl g ↦ g | inr g ↦ absurd (no_place code s g) ]),
)

-- places in two parts
pub union_of_parts : (code : List Instruction) (places part other : List ℕ) → AreParts places part other
    → IsJoinOf code places part other
union_of_parts code places part other parts s = (
  (λ h. elim ((parts h.0).0 h.1) [ inl g ↦ inl (h.0, g, h.2) | inr g ↦ inr (h.0, g, h.2) ]),
  (λ h. elim h [ inl g ↦ (g.0, (parts g.0).1 (inl g.1), g.2) | inr g ↦ (g.0, (parts g.0).1 (inr g.1), g.2) ]),
)

-- a step from the one part, where it is known to what the other leads
pub parts_lead : (code : List Instruction) (c : ℕ) (places part other also reached : List ℕ)
    → IsJoinOf code places part other → LeadOn code c part also
    → ((s : List ℕ) → AnyAmong code reached s ↔ (AnyAmong code other (c ∷ s) ⊎ AnyAmong code also s))
    → LeadOn code c places reached
parts_lead code c places part other also reached parts leads a s = (
  (λ h. elim ((parts (c ∷ s)).0 h) [
    | inl g ↦ (a s).1 (inr ((leads s).0 g))
    | inr g ↦ (a s).1 (inl g)
  ]),
  (λ h. elim ((a s).0 h) [
    | inl g ↦ (parts (c ∷ s)).1 (inr g)
    | inr g ↦ (parts (c ∷ s)).1 (inl ((leads s).1 g))
  ]),
)

-- what was reached from the one part, and that to which the other leads, are all that was reached
pub parts_reached : (code : List Instruction) (c : ℕ) (own also reached others : List ℕ)
    → ((s : List ℕ) → AnyAmong code reached s ↔ (AnyAmong code own (c ∷ s) ⊎ AnyAmong code also s))
    → LeadOn code c own others → IsJoinOf code reached also others
parts_reached code c own also reached others a leads s = (
  (λ h. elim ((a s).0 h) [ inl g ↦ inr ((leads s).0 g) | inr g ↦ inl g ]),
  (λ h. elim h [ inl g ↦ (a s).1 (inr g) | inr g ↦ (a s).1 (inl ((leads s).1 g)) ]),
)

-- if the one part leads nowhere, all places lead to where the other part does
module _ (code : List Instruction) (c : ℕ) (places part other : List ℕ)
    (parts : IsJoinOf code places part other) (dead : IsDead code other c) where
  as_part : (s : List ℕ) → AnyAmong code places (c ∷ s) ↔ AnyAmong code part (c ∷ s)
  as_part s = (
    (λ h. elim ((parts (c ∷ s)).0 h) [ inl g ↦ g | inr g ↦ absurd (dead s g) ]),
    (λ h. (parts (c ∷ s)).1 (inl h)),
  )

  led_as_part : (states : List State) (at : ℕ) → LeadsTo code states part c at
      → LeadsTo code states places c at
  led_as_part states at l = record {
    has_state = l.has_state;
    leads = λ s. ((λ h. (l.leads s).0 ((as_part s).0 h)), (λ h. (as_part s).1 ((l.leads s).1 h)));
  }

  pub leads_as_part : (states : List State) (next : Next) → LeadsNext code states part c next
      → LeadsNext code states places c next
  leads_as_part states (To at) l = led_as_part states at l
  leads_as_part states Nothing none = λ s h. none s ((as_part s).0 h)
  leads_as_part states Everything all = λ s. (as_part s).1 (all s)

  pub cell_as_part : (states : List State) (cell : ℕ) → IsTransition code states part c cell
      → IsTransition code states places c cell
  cell_as_part states cell (inl e) = inl e
  cell_as_part states cell (inr (inl h)) = inr (inl (h.0, (λ s g. h.1 s ((as_part s).0 g))))
  cell_as_part states cell (inr (inr (inl h))) = inr (inr (inl (h.0, (λ s. (as_part s).1 (h.1 s)))))
  cell_as_part states cell (inr (inr (inr h))) = inr (inr (inr (h.0, h.1, led_as_part states h.0 h.2)))

-- places that lead to no places are dead
pub nowhere_dead : (code : List Instruction) (c : ℕ) (places : List ℕ) → AreReached code c places [] []
    → IsDead code places c
nowhere_dead code c places dead s h = no_place code s ((dead s).1 (inl h))

-- where one part takes all, all places do
pub part_takes_all : (code : List Instruction) (c : ℕ) (places part other : List ℕ)
    → IsJoinOf code places part other → TakesAll code part c → TakesAll code places c
part_takes_all code c places part other parts all s = (parts (c ∷ s)).1 (inl (all s))

-- if every text is accepted from the places that follow, every text is that begins with the character
pub takes_all : (code : List Instruction) (c : ℕ) (places others : List ℕ) → LeadOn code c places others
    → ((s : List ℕ) → AnyAmong code others s)
    → TakesAll code places c
takes_all code c places others a all s = (a s).1 (all s)

pub target_leads : (code : List Instruction) (states : List State) (places : List ℕ) (c : ℕ)
    (target : Option ℕ) → Leads code states places c target
    → LeadOn code c places (places_or_none states target)
target_leads code states places c (Some at) l = l.leads
target_leads code states places c None dead =
    λ s. ((λ h. absurd (dead s h)), (λ h. absurd (no_place code s h)))

pub state_at : (states : List State) (t : ℕ) → t < length states → (s : State) × (slice_get states t ≡ Some s)
state_at states t lt = found (slice_get_cases states t).1
  where
    found : ((x : State) × (t < length states) × (slice_get states t ≡ Some x) × (get_or states t x ≡ x))
        ⊎ ((length states ≤ t) × (slice_get states t ≡ None)) → (s : State) × (slice_get states t ≡ Some s)
    found (inl h) = (h.0, h.2)
    found (inr h) = absurd (let past : length states ≤ t = h.0 in omega (arith, past, lt))

pub begun : (code : List Instruction) (states : List State) (start t : ℕ) → t < length states
    → places_at states t ≡ start ∷ []
    → BeginsTexts code states start t
begun code states start t lt e = record {
  has_state = lt;
  accepts = λ s. subst (λ z. Accepts code start s ↔ AnyAmong code z s) (sym e) (one_place code start s);
}

-- where places led to others, their state leads to the state of the others
pub leads_to : (code : List Instruction) (states : List State) (from places others : List ℕ) (c t : ℕ)
    → from ≡ places → t < length states
    → places_at states t ≡ others → LeadOn code c places others → LeadsTo code states from c t
leads_to code states from places others c t same lt e a = record {
  has_state = lt;
  leads = subst (λ z. LeadOn code c z (places_at states t)) (sym same)
      (subst (LeadOn code c places) (sym e) a);
}

-- ---- cells of characters past ASCII
pub wide_empty : (code : List Instruction) (states : List State) (ws : List WideCell) → AreEmpty ws
    → AreWideCells code states ws
wide_empty code states ws empty i w is = inl (empty i w is)

pub wide_keeps : (code : List Instruction) (old new : List State) (ws : List WideCell) → KeepsStates old new
    → AreWideCells code old ws → AreWideCells code new ws
wide_keeps code old new ws keeps held i w is = elim (held i w is) [
  | inl e ↦ inl e
  | inr h ↦ inr (
    placed_keeps old new keeps w.state h.0,
    subst (λ z. IsTransition code new z w.character w.cell) (sym (places_keep old new keeps w.state h.0))
        (cell_keeps old new keeps code (places_at old w.state) w.character w.cell h.1),
  )
]

pub wide_written : (code : List Instruction) (states : List State) (old new : List WideCell) (at c cell : ℕ)
    → AreWideCells code states old → HasState states at
    → IsTransition code states (places_at states at) c cell → IsWrittenWide old new at c cell
    → AreWideCells code states new
wide_written code states old new at c cell held p says written i w is = elim (written i w is) [
  | inl e ↦ held i w e
  | inr h ↦ inr (
    subst (HasState states) (sym h.0) p,
    subst (λ a. IsTransition code states (places_at states a) w.character w.cell) (sym h.0)
        (subst (λ k. IsTransition code states (places_at states at) k w.cell) (sym h.1)
        (subst (IsTransition code states (places_at states at) c) (sym h.2) says)),
  )
]

pub wide_says : (code : List Instruction) (states : List State) (ws : List WideCell) (at c cell : ℕ)
    → AreWideCells code states ws → (cell ≡ 0) ⊎ HasWide ws at c cell
    → IsTransition code states (places_at states at) c cell
wide_says code states ws at c cell held (inl e) = inl e
wide_says code states ws at c cell held (inr (i, w, is, (state, character, says))) = elim (held i w is) [
  | inl e ↦ inl (sym says ∙ e)
  | inr h ↦ subst (λ a. IsTransition code states (places_at states a) c cell) state
      (subst (λ k. IsTransition code states (places_at states w.state) k cell) character
      (subst (IsTransition code states (places_at states w.state) w.character) says h.1))
]

-- the cell of a character that leads there says so
pub cell_says : (code : List Instruction) (states : List State) (places : List ℕ) (c : ℕ) (next : Next)
    → LeadsNext code states places c next
    → IsTransition code states places c (cell_of_next next)
cell_says code states places c (To at) l = inr (inr (inr (at, refl, l)))
cell_says code states places c Nothing dead = inr (inl (refl, dead))
cell_says code states places c Everything all = inr (inr (inl (refl, all)))

pub next_within : (code : List Instruction) (states : List State) (places : List ℕ) (c : ℕ) (next : Next)
    (most : ℕ) → LeadsNext code states places c next
    → length states ≤ most → IfSome (state_of next) (λ at. at < most)
next_within code states places c (To at) most l few = let has : at < length states = l.has_state in
    omega (arith, has, few)
next_within code states places c Nothing most l few = tt
next_within code states places c Everything most l few = tt

-- ---- failure states
pub only_item : (xs : List ℕ) → length xs ≡ 1 → xs ≡ get_or xs 0 0 ∷ []
only_item [] e = absurd (omega (arith, e))
only_item (x ∷ []) e = refl
only_item (x ∷ y ∷ xs) e = absurd (omega (arith, e))

pub failure_at : (code : List Instruction) (states : List State) (cells : List ℕ) (at : ℕ) (s : State)
    (failure : ℕ) → IsTable code states cells
    → slice_get states at ≡ Some s → s.failure ≡ Some failure
    → IsFailureState code states (places_at states at) (own_at states at) failure
failure_at code states cells at s failure table is has =
    let good = (table.rows at s is).failure in
    let held = subst (λ o. IfSome o (IsFailureState code states s.places.items s.own.items)) has good in
    subst (λ z. IsFailureState code states z (own_at states at) failure) (sym (ap places_in is))
    (subst (λ z. IsFailureState code states s.places.items z failure) (sym (ap own_in is)) held)

-- the failure state of a state, among more states
pub failure_later : (code : List Instruction) (old new : List State) (cells : List ℕ) (at : ℕ) (s : State)
    (failure : ℕ) → IsTable code old cells
    → HasState old at → slice_get old at ≡ Some s → s.failure ≡ Some failure → KeepsStates old new
    → IsFailureState code new (places_at old at) (own_at new at) failure
failure_later code old new cells at s failure table here is has keeps =
    let r = failure_at code old cells at s failure table is has in
    record {
      has_state = placed_keeps old new keeps failure r.has_state;
      union = subst (λ z. IsJoinOf code (places_at old at) z (own_at new at))
          (sym (places_keep old new keeps failure r.has_state))
          (subst (λ z. IsJoinOf code (places_at old at) (places_at old failure) z)
          (sym (keeps at here).2) r.union);
    }

-- where the failure state of a state leads, among more states
pub leads_later : (code : List Instruction) (old new : List State) (cells : List ℕ) (at : ℕ) (s : State)
    (failure c : ℕ) (next : Next) → IsTable code old cells
    → slice_get old at ≡ Some s → s.failure ≡ Some failure → KeepsStates old new
    → LeadsNext code new (places_at old failure) c next
    → LeadsNext code new (places_at new failure) c next
leads_later code old new cells at s failure c next table is has keeps leads =
    let r = failure_at code old cells at s failure table is has in
    subst (λ z. LeadsNext code new z c next) (sym (places_keep old new keeps failure r.has_state)) leads

pub target_parted : (code : List Instruction) (states : List State) (part : List ℕ) (c : ℕ)
    (own reached others : List ℕ) (target : Option ℕ) → Leads code states part c target
    → ((s : List ℕ) → AnyAmong code reached s
    ↔ (AnyAmong code own (c ∷ s) ⊎ AnyAmong code (places_or_none states target) s))
    → LeadOn code c own others
    → IfSome target (IsFailureState code states reached others)
target_parted code states part c own reached others (Some at) l a o =
    record {
      has_state = l.has_state;
      union = parts_reached code c own (places_at states at) reached others a o;
    }
target_parted code states part c own reached others None l a o = tt
