-- The ends that a round reads.
use Rattle.std.proofs.Common.{Contains, ◌++◌, ◌↔◌, get_or, ◌≡◌, ℕ, zero, suc, ◌+◌, ◌-◌, ◌<◌, ◌≤◌, ◌⊎◌, Bool}
use Rattle.std.proofs.Common.{List, [], ◌∷◌, length, Some, slice_get, refl, sym, ◌∙◌, ap, subst, inl, inr}
use Rattle.std.proofs.{Common.arith, lemmas.Bool.cases_lt, lemmas.List.get_or_default}
use Rattle.std.proofs.lemmas.List.Elements.{Contains-append_left, Contains-push, Contains-push_cases}
use Rattle.std.proofs.lemmas.Option.{slice_get_within}
use Rattle.wax_program.specs.{Places.HoldsPlace, declared.instruction.Instruction.Instruction}
use Rattle.wax_program.specs.declared.instruction.Instruction.TheVariants.{Check, Repeat, Components, Fork}
use Rattle.wax_program.specs.declared.instruction.Instruction.TheVariants.{Jump, Back, End}
use Rattle.wax_program.specs.Closed.{LeadsWithin, IsClosed, AreEndsAt, IsEndAt, ReadsEnd}
use Rattle.wax_program.specs.Machine.{Moves, AcceptsIn, mark}
use Rattle.wax_program.specs.Threads.{AnyOf, IsDone, IsReached, Led, Position, Round}
use Rattle.wax_program.proofs.Advancing.{in_range, was_read}

some_same : {i j : Instruction} → Some i ≡ Some j → i ≡ j
some_same e = cc

nil_cons : {b : ℕ} {t : List ℕ} → [] ≡ b ∷ t → ⊥
nil_cons e = cc

head_same : {a b : ℕ} {t u : List ℕ} → a ∷ t ≡ b ∷ u → a ≡ b
head_same e = cc

pub closed_at : (code : List Instruction) (k : ℕ) (i : Instruction) → IsClosed code
    → slice_get code k ≡ Some i → LeadsWithin i (length code - k - 1)
closed_at [] k i closed is = absurd (omega (arith, slice_get_within [] k i is))
closed_at (j ∷ js) zero i closed is =
    let e : length js ≡ length (j ∷ js) - 0 - 1 = omega arith in
    subst (λ z. LeadsWithin z (length (j ∷ js) - 0 - 1)) (some_same is) (subst (LeadsWithin j) e closed.0)
closed_at (j ∷ js) (suc k) i closed is =
    let e : length js - k - 1 ≡ length (j ∷ js) - suc k - 1 = omega arith in
    subst (LeadsWithin i) e (closed_at js k i closed.1 is)

module _ (code : List Instruction) (closed : IsClosed code) where
  nil_moves : (n k : ℕ) (i : Instruction) → k < length code → LeadsWithin i (length code - k - 1)
      → ((x : ℕ) → x < length code → AcceptsIn code n x [] → ⊥) → Moves i (AcceptsIn code n) k [] → ⊥
  nil_moves n k (Check t) lt in_code again m = m
  nil_moves n k (Repeat t) lt in_code again m = again (k + 1) (omega (arith, lt, in_code)) m
  nil_moves n k Components lt in_code again m = m
  nil_moves n k (Fork b) lt in_code again (inl m) = again (k + 1) (omega (arith, lt, in_code)) m
  nil_moves n k (Fork b) lt in_code again (inr m) = again (k + 1 + b) (omega (arith, lt, in_code)) m
  nil_moves n k (Jump b) lt in_code again m = again (k + 1 + b) (omega (arith, lt, in_code)) m
  nil_moves n k (Back b) lt in_code again m = again (k - b) (omega (arith, lt)) m
  nil_moves n k (End i j) lt in_code again m = nil_cons m.3

  -- no place accepts the empty text
  pub never_nil : (n k : ℕ) → k < length code → AcceptsIn code n k [] → ⊥
  never_nil zero k lt h = h
  never_nil (suc n) k lt (inl h) = omega (arith, lt, h.0)
  never_nil (suc n) k lt (inr h) =
      nil_moves n k h.0 lt (closed_at code k h.0 closed h.1) (λ x l m. never_nil n x l m) h.2

  nil_end : (x : List ℕ) (c : ℕ) → x ++ c ∷ [] ≡ [] → ⊥
  nil_end [] c e = nil_cons (sym e)
  nil_end (d ∷ x) c e = nil_cons (sym e)

  tail_same : {a b : ℕ} {t u : List ℕ} → a ∷ t ≡ b ∷ u → t ≡ u
  tail_same e = cc

  plain_moves : (n k : ℕ) (i : Instruction) (x : List ℕ) (c : ℕ) → c < 1114112 → slice_get code k ≡ Some i
      → ((y : ℕ) (z : List ℕ) → AcceptsIn code n y (z ++ c ∷ []) → ⊥)
      → Moves i (AcceptsIn code n) k (x ++ c ∷ []) → ⊥
  plain_moves n k (Check t) [] c low is again m =
      let lt : k < length code = slice_get_within code k (Check t) is in
      never_nil n (k + 1) (omega (arith, lt, closed_at code k (Check t) closed is)) m.1
  plain_moves n k (Check t) (d ∷ x) c low is again m = again (k + 1) x m.1
  plain_moves n k (Repeat t) [] c low is again (inl m) = again (k + 1) [] m
  plain_moves n k (Repeat t) [] c low is again (inr m) =
      never_nil n k (slice_get_within code k (Repeat t) is) m.1
  plain_moves n k (Repeat t) (d ∷ x) c low is again (inl m) = again (k + 1) (d ∷ x) m
  plain_moves n k (Repeat t) (d ∷ x) c low is again (inr m) = again k x m.1
  plain_moves n k Components [] c low is again (inl m) =
      never_nil n k (slice_get_within code k Components is) m
  plain_moves n k Components [] c low is again (inr m) =
      let lt : k < length code = slice_get_within code k Components is in
      never_nil n (k + 1) (omega (arith, lt, closed_at code k Components closed is)) m.1
  plain_moves n k Components (d ∷ x) c low is again (inl m) = again k x m
  plain_moves n k Components (d ∷ x) c low is again (inr m) = again (k + 1) x m.1
  plain_moves n k (Fork b) x c low is again (inl m) = again (k + 1) x m
  plain_moves n k (Fork b) x c low is again (inr m) = again (k + 1 + b) x m
  plain_moves n k (Jump b) x c low is again m = again (k + 1 + b) x m
  plain_moves n k (Back b) x c low is again m = again (k - b) x m
  plain_moves n k (End i j) [] c low is again m = omega (arith, low, head_same m.3)
  plain_moves n k (End i j) (d ∷ x) c low is again m = nil_end x c (tail_same m.3)

  -- no place accepts a text that ends with a character
  pub never_plain : (n k : ℕ) (x : List ℕ) (c : ℕ) → c < 1114112 → AcceptsIn code n k (x ++ c ∷ []) → ⊥
  never_plain zero k x c low h = h
  never_plain (suc n) k x c low (inl h) = nil_end x c h.1
  never_plain (suc n) k x c low (inr h) =
      plain_moves n k h.0 x c low h.1 (λ y z m. never_plain n y z c low m) h.2

  module _ (old : List Bool) (p : Position) (sized : p.size ≡ length code) (done : IsDone p)
      (d : Round code 47 old p) where
    below : (n k : ℕ) (s : List ℕ) → AcceptsIn code n k s → k ≤ p.size
    below n k s a = omega (arith, in_range code n k s a, sized)

    mark_moves : (j n k : ℕ) (i : Instruction) → slice_get code k ≡ Some i
        → HoldsPlace p.read k → Led i 47 k p
        → ((x : ℕ) → IsReached p x → AcceptsIn code n x (mark j ∷ []) → ReadsEnd code p j)
        → Moves i (AcceptsIn code n) k (mark j ∷ []) → ReadsEnd code p j
    mark_moves j n k (Check t) is read led again m =
        let lt : k < length code = slice_get_within code k (Check t) is in
        absurd (never_nil n (k + 1) (omega (arith, lt, closed_at code k (Check t) closed is)) m.1)
    mark_moves j n k (Repeat t) is read led again (inl m) =
        again (k + 1) (led.0 (below n (k + 1) (mark j ∷ []) m)) m
    mark_moves j n k (Repeat t) is read led again (inr m) =
        absurd (never_nil n k (slice_get_within code k (Repeat t) is) m.1)
    mark_moves j n k Components is read led again (inl m) =
        absurd (never_nil n k (slice_get_within code k Components is) m)
    mark_moves j n k Components is read led again (inr m) =
        let lt : k < length code = slice_get_within code k Components is in
        absurd (never_nil n (k + 1) (omega (arith, lt, closed_at code k Components closed is)) m.1)
    mark_moves j n k (Fork b) is read led again (inl m) =
        again (k + 1) (led.0 (below n (k + 1) (mark j ∷ []) m)) m
    mark_moves j n k (Fork b) is read led again (inr m) =
        again (k + 1 + b) (led.1 (below n (k + 1 + b) (mark j ∷ []) m)) m
    mark_moves j n k (Jump b) is read led again m =
        again (k + 1 + b) (led (below n (k + 1 + b) (mark j ∷ []) m)) m
    mark_moves j n k (Back b) is read led again m = again (k - b) (led (below n (k - b) (mark j ∷ []) m)) m
    mark_moves j n k (End low high) is read led again m =
        let same : m.0 ≡ j = omega (arith, head_same m.3) in
        (k, read, (low, high, is, omega (arith, same, m.1), omega (arith, same, m.2)))

    finds : (j n k : ℕ) → IsReached p k → AcceptsIn code n k (mark j ∷ []) → ReadsEnd code p j
    finds j zero k h a = absurd a
    finds j (suc n) k h (inl a) = absurd (nil_cons (sym a.1))
    finds j (suc n) k h (inr a) =
        let read : HoldsPlace p.read k =
        was_read code 47 old p sized done d k h (slice_get_within code k a.0 a.1) in
        mark_moves j n k a.0 a.1 read (d.handled k read a.0 a.1) (λ x g b. finds j n x g b) a.2

    pub end_found : (j : ℕ) → AnyOf code old (mark j ∷ []) → ReadsEnd code p j
    end_found j h = finds j h.2.0 h.0 (d.begins h.0 h.1) h.2.1

    pub end_accepts : (j : ℕ) → ReadsEnd code p j → AnyOf code old (mark j ∷ [])
    end_accepts j h =
        d.no_more h.0 (inr h.1) (mark j ∷ []) (1, inr (End h.2.0 h.2.1, h.2.2, (j, h.2.3, h.2.4, refl)))

-- a round by `/` from a set of places reads exactly the ends whose marks some place of the set accepts
pub ends_read : (code : List Instruction) (p q : Position) → IsClosed code → q.size ≡ length code → IsDone q
    → Round code 47 p.pending q → (number : ℕ) → AnyOf code p.pending (mark number ∷ [])
    ↔ ReadsEnd code q number
ends_read code p q closed sized done d j = (
  (λ h. end_found code closed p.pending q sized done d j h),
  (λ h. end_accepts code closed p.pending q sized done d j h),
)

-- ---- the ends at places before an index
abbrev pub AreEndsBefore : List Instruction → List ℕ → ℕ → List ℕ → Type 0
AreEndsBefore code places i numbers = (number : ℕ) → Contains numbers number
    ↔ ((k : ℕ) × ((j : ℕ) × (j < i) × (get_or places j k ≡ k)) × IsEndAt code k number)

pub ends_step : (code : List Instruction) (places : List ℕ) (i x : ℕ) (old new : List ℕ) → i < length places
    → x ≡ get_or places i x
    → ((number : ℕ) → Contains new number ↔ (Contains old number ⊎ IsEndAt code x number))
    → AreEndsBefore code places i old → AreEndsBefore code places (i + 1) new
ends_step code places i x old new lt is more before = λ number. (
  (λ h. elim ((more number).0 h) [
    | inl was ↦ (let f = (before number).0 was in (f.0, (f.1.0, omega (arith, f.1.1), f.1.2), f.2))
    | inr here ↦ (x, (i, omega arith, sym is), here)
  ]),
  (λ h. elim (cases_lt h.1.0 i) [
    | inl lower ↦ (more number).1 (inl ((before number).1 (h.0, (h.1.0, lower, h.1.2), h.2)))
    | inr past ↦ (let same : h.1.0 ≡ i = omega (arith, h.1.1, past) in
        let one : get_or places i h.0 ≡ h.0 = subst (λ n. get_or places n h.0 ≡ h.0) same h.1.2 in
        let here : h.0 ≡ x = sym (is ∙ get_or_default places i x h.0 lt ∙ one) in
        (more number).1 (inr (subst (λ n. IsEndAt code n number) here h.2)))
  ]),
)

pub ends_none : (code : List Instruction) (places numbers : List ℕ) → numbers ≡ []
    → AreEndsBefore code places 0 numbers
ends_none code places numbers none number = (
  (λ h. absurd (let lt : h.0 < length numbers = h.1 in omega (arith, lt, ap length none))),
  (λ h. absurd (omega (arith, h.1.1))),
)

pub ends_whole : (code : List Instruction) (places : List ℕ) (i : ℕ) (numbers : List ℕ)
    → length places ≤ i → i ≤ length places
    → AreEndsBefore code places i numbers → AreEndsAt code places numbers
ends_whole code places i numbers past within before number = (
  (λ h. (let f = (before number).0 h in (f.0, (f.1.0, omega (arith, f.1.1, within), f.1.2), f.2))),
  (λ h. (before number).1 (h.0, (h.1.0, omega (arith, h.1.1, past), h.1.2), h.2)),
)

-- ---- the numbers of a range
pub range_nothing : (low high : ℕ) (old : List ℕ) → high < low
    → (number : ℕ) → Contains old number ↔ (Contains old number ⊎ ((low ≤ number) × (number ≤ high)))
range_nothing low high old lt number = (
  (λ h. inl h),
  (λ h. elim h [ inl was ↦ was | inr g ↦ absurd (omega (arith, lt, g.0, g.1)) ]),
)

abbrev pub HasRange : ℕ → ℕ → List ℕ → List ℕ → Type 0
HasRange low end old new = (number : ℕ) → Contains new number
    ↔ (Contains old number ⊎ ((low ≤ number) × (number < end)))

pub range_begins : (low : ℕ) (old : List ℕ) → HasRange low low old old
range_begins low old number = (
  (λ h. inl h),
  (λ h. elim h [ inl was ↦ was | inr g ↦ absurd (omega (arith, g.0, g.1)) ]),
)

pub range_step : (low end : ℕ) (old new : List ℕ) → low ≤ end → HasRange low end old new
    → HasRange low (end + 1) old (new ++ end ∷ [])
range_step low end old new le range number = (
  (λ h. elim (Contains-push_cases new end number h) [
    | inl was ↦ elim ((range number).0 was) [ inl g ↦ inl g | inr g ↦ inr (g.0, omega (arith, g.1)) ]
    | inr here ↦ inr (omega (arith, here, le), omega (arith, here))
  ]),
  (λ h. elim h [
    | inl was ↦ Contains-append_left new (end ∷ []) number ((range number).1 (inl was))
    | inr g ↦ elim (cases_lt number end) [
      | inl lt ↦ Contains-append_left new (end ∷ []) number ((range number).1 (inr (g.0, lt)))
      | inr past ↦ (let same : end ≡ number = omega (arith, past, g.1) in
          subst (Contains (new ++ end ∷ [])) same (Contains-push new end))
    ]
  ]),
)

pub range_whole : (low high end : ℕ) (old new : List ℕ) → end ≡ high + 1 → HasRange low end old new
    → (number : ℕ) → Contains new number ↔ (Contains old number ⊎ ((low ≤ number) × (number ≤ high)))
range_whole low high end old new ends range number = (
  (λ h. elim ((range number).0 h) [ inl g ↦ inl g | inr g ↦ inr (g.0, omega (arith, g.1, ends)) ]),
  (λ h. (range number).1 (elim h [ inl g ↦ inl g | inr g ↦ inr (g.0, omega (arith, g.1, ends)) ])),
)

some_end : {low high from to : ℕ} → Some (End low high) ≡ Some (End from to) → (low ≡ from) × (high ≡ to)
some_end e = (cc, cc)

-- what a range adds is what the end with it takes
pub ends_of_range : (code : List Instruction) (k low high : ℕ) (old new : List ℕ)
    → slice_get code k ≡ Some (End low high)
    → ((number : ℕ) → Contains new number ↔ (Contains old number ⊎ ((low ≤ number) × (number ≤ high))))
    → (number : ℕ) → Contains new number ↔ (Contains old number ⊎ IsEndAt code k number)
ends_of_range code k low high old new is range number = (
  (λ h. elim ((range number).0 h) [ inl g ↦ inl g | inr g ↦ inr (low, high, is, g.0, g.1) ]),
  (λ h. (range number).1 (elim h [
    | inl g ↦ inl g
    | inr (from, to, at, least, most) ↦ (let e = some_end (sym at ∙ is) in
        inr (omega (arith, least, e.0), omega (arith, most, e.1)))
  ])),
)
