-- What a program accepts whose ends take no marks.
use Rattle.std.proofs.Common.{◌≡◌, ◌<◌, ◌+◌, ◌-◌, ◌++◌, ◌∷◌, ◌∙◌, ◌↔◌, ◌⊎◌, ℕ, zero, suc, List, [], Some}
use Rattle.std.proofs.Common.{get_or, ap, arith, inl, inr, length, refl, slice_get, subst, sym}
use Rattle.std.proofs.lemmas.Option.{slice_get-get_or, slice_get_within}
use Rattle.wax_program.specs.Closed.{AcceptsMarked, IsClosed, LeadsWithin}
use Rattle.wax_program.specs.Machine.{Accepts, AcceptsIn, Moves, mark}
use Rattle.wax_program.specs.declared.instruction.Instruction.{Instruction}
use Rattle.wax_program.specs.declared.instruction.Instruction.TheVariants.{Check, Repeat, Components, Fork}
use Rattle.wax_program.specs.declared.instruction.Instruction.TheVariants.{Jump, Back, End}
use Rattle.wax_program.specs.inner.Unmarked.{ReplaceEach, Replaces, ReplacesAt}
use Rattle.wax_program.proofs.Marks.{closed_at, never_nil}
use Rattle.wax_program.proofs.Steps.{after_any, after_back, after_fork, after_jump, after_last, after_one}
use Rattle.wax_program.proofs.Steps.{after_slash, after_test}

nil_cons : {b : ℕ} {t : List ℕ} → [] ≡ b ∷ t → ⊥
nil_cons e = cc

nil_end : (x : List ℕ) (c : ℕ) → x ++ c ∷ [] ≡ [] → ⊥
nil_end [] c e = nil_cons (sym e)
nil_end (d ∷ x) c e = nil_cons (sym e)

tail_same : {a b : ℕ} {t u : List ℕ} → a ∷ t ≡ b ∷ u → t ≡ u
tail_same e = cc

module _ (code new : List Instruction) (closed : IsClosed code) (size : length new ≡ length code)
    (each : ReplaceEach code new) where
  -- the text is accepted with some mark after it
  abbrev Marked : ℕ → List ℕ → Type 0
  Marked k s = (number : ℕ) × Accepts code k (s ++ mark number ∷ [])

  at_end : (n : ℕ) (s : List ℕ) → AcceptsIn new n (length code) s → s ≡ []
  at_end zero s h = absurd h
  at_end (suc n) s (inl h) = h.1
  at_end (suc n) s (inr (j, there, m)) =
      absurd (omega (arith, slice_get_within new (length code) j there, size))

  -- ---- what is accepted without a mark
  step : (n k : ℕ) (i j : Instruction) (s : List ℕ) → slice_get code k ≡ Some i
      → LeadsWithin i (length code - k - 1) → Replaces (length code) k i j
      → ((x : ℕ) (t : List ℕ) → x < length code → AcceptsIn new n x t → Marked x t)
      → Moves j (AcceptsIn new n) k s → Marked k s
  step n k (Check t) j [] here within is again m =
      absurd (subst (λ z. Moves z (AcceptsIn new n) k []) is m)
  step n k (Check t) j (c ∷ s) here within is again m =
      let lt = slice_get_within code k (Check t) here in
      let (p, a) = subst (λ z. Moves z (AcceptsIn new n) k (c ∷ s)) is m in
      let (number, b) = again (k + 1) s (omega (arith, lt, within)) a in
      (number, after_test t code k c (s ++ mark number ∷ []) here p b)
  step n k (Repeat t) j [] here within is again m =
      let lt = slice_get_within code k (Repeat t) here in
      let (number, b) = again (k + 1) [] (omega (arith, lt, within))
      (subst (λ z. Moves z (AcceptsIn new n) k []) is m) in
      (number, after_last t code k (mark number ∷ []) here b)
  step n k (Repeat t) j (c ∷ s) here within is again m =
      let lt = slice_get_within code k (Repeat t) here in
      elim (subst (λ z. Moves z (AcceptsIn new n) k (c ∷ s)) is m) [
        | inl a ↦
            let (number, b) = again (k + 1) (c ∷ s) (omega (arith, lt, within)) a in
            (number, after_last t code k (c ∷ (s ++ mark number ∷ [])) here b)
        | inr (p, a) ↦
            let (number, b) = again k s lt a in
            (number, after_one t code k c (s ++ mark number ∷ []) here p b)
      ]
  step n k Components j [] here within is again m =
      absurd (subst (λ z. Moves z (AcceptsIn new n) k []) is m)
  step n k Components j (c ∷ s) here within is again m =
      let lt = slice_get_within code k Components here in
      elim (subst (λ z. Moves z (AcceptsIn new n) k (c ∷ s)) is m) [
        | inl a ↦
            let (number, b) = again k s lt a in
            (number, after_any code k c (s ++ mark number ∷ []) here b)
        | inr (e, a) ↦
            let (number, b) = again (k + 1) s (omega (arith, lt, within)) a in
            (number, after_slash code k c (s ++ mark number ∷ []) here e b)
      ]
  step n k (Fork d) j s here within is again m =
      let lt = slice_get_within code k (Fork d) here in
      elim (subst (λ z. Moves z (AcceptsIn new n) k s) is m) [
        | inl a ↦
            let (number, b) = again (k + 1) s (omega (arith, lt, within)) a in
            (number, after_fork d code k (s ++ mark number ∷ []) here (inl b))
        | inr a ↦
            let (number, b) = again (k + 1 + d) s (omega (arith, lt, within)) a in
            (number, after_fork d code k (s ++ mark number ∷ []) here (inr b))
      ]
  step n k (Jump d) j s here within is again m =
      let lt = slice_get_within code k (Jump d) here in
      let (number, b) = again (k + 1 + d) s (omega (arith, lt, within))
      (subst (λ z. Moves z (AcceptsIn new n) k s) is m) in
      (number, after_jump d code k (s ++ mark number ∷ []) here b)
  step n k (Back d) j s here within is again m =
      let lt = slice_get_within code k (Back d) here in
      let (number, b) = again (k - d) s (omega (arith, lt))
      (subst (λ z. Moves z (AcceptsIn new n) k s) is m) in
      (number, after_back d code k (s ++ mark number ∷ []) here b)
  step n k (End low high) j s here within (inl (le, d, is, ends)) again m =
      let there = subst (λ x. AcceptsIn new n x s) ends (subst (λ z. Moves z (AcceptsIn new n) k s) is m) in
      let nothing = at_end n s there in (
        low,
        (
          suc zero,
          inr (
            End low high,
            here,
            (low, omega arith, le, ap (λ z. z ++ mark low ∷ []) nothing),
          ),
        ),
      )
  step n k (End low high) j [] here within (inr (gt, is)) again m =
      absurd (subst (λ z. Moves z (AcceptsIn new n) k []) is m)
  step n k (End low high) j (c ∷ s) here within (inr (gt, is)) again m =
      absurd ((subst (λ z. Moves z (AcceptsIn new n) k (c ∷ s)) is m).0)

  to_marked : (n k : ℕ) (s : List ℕ) → k < length code → AcceptsIn new n k s → Marked k s
  to_marked zero k s lt h = absurd h
  to_marked (suc n) k s lt (inl h) = absurd (omega (arith, lt, h.0, size))
  to_marked (suc n) k s lt (inr (j, there, m)) =
      let i : Instruction = get_or code k j in
      let here : slice_get code k ≡ Some i = slice_get-get_or code k j lt in
      step n k i j s here (closed_at code k i closed here) (each k j there i here)
      (λ x t l a. to_marked n x t l a) m

  -- ---- what is accepted with a mark
  back : (number n k : ℕ) (i j : Instruction) (s : List ℕ) → k < length code → slice_get new k ≡ Some j
      → LeadsWithin i (length code - k - 1) → Replaces (length code) k i j
      → ((x : ℕ) (t : List ℕ) → AcceptsIn code n x (t ++ mark number ∷ []) → Accepts new x t)
      → Moves i (AcceptsIn code n) k (s ++ mark number ∷ []) → Accepts new k s
  back number n k (Check t) j [] lt there within is again m =
      absurd (never_nil code closed n (k + 1) (omega (arith, lt, within)) m.1)
  back number n k (Check t) j (c ∷ s) lt there within is again m =
      after_test t new k c s (there ∙ ap Some is) m.0 (again (k + 1) s m.1)
  back number n k (Repeat t) j [] lt there within is again (inl a) =
      after_last t new k [] (there ∙ ap Some is) (again (k + 1) [] a)
  back number n k (Repeat t) j [] lt there within is again (inr (p, a)) =
      absurd (never_nil code closed n k lt a)
  back number n k (Repeat t) j (c ∷ s) lt there within is again (inl a) =
      after_last t new k (c ∷ s) (there ∙ ap Some is) (again (k + 1) (c ∷ s) a)
  back number n k (Repeat t) j (c ∷ s) lt there within is again (inr (p, a)) =
      after_one t new k c s (there ∙ ap Some is) p (again k s a)
  back number n k Components j [] lt there within is again (inl a) = absurd (never_nil code closed n k lt a)
  back number n k Components j [] lt there within is again (inr (e, a)) =
      absurd (never_nil code closed n (k + 1) (omega (arith, lt, within)) a)
  back number n k Components j (c ∷ s) lt there within is again (inl a) =
      after_any new k c s (there ∙ ap Some is) (again k s a)
  back number n k Components j (c ∷ s) lt there within is again (inr (e, a)) =
      after_slash new k c s (there ∙ ap Some is) e (again (k + 1) s a)
  back number n k (Fork d) j s lt there within is again (inl a) =
      after_fork d new k s (there ∙ ap Some is) (inl (again (k + 1) s a))
  back number n k (Fork d) j s lt there within is again (inr a) =
      after_fork d new k s (there ∙ ap Some is) (inr (again (k + 1 + d) s a))
  back number n k (Jump d) j s lt there within is again a =
      after_jump d new k s (there ∙ ap Some is) (again (k + 1 + d) s a)
  back number n k (Back d) j s lt there within is again a =
      after_back d new k s (there ∙ ap Some is) (again (k - d) s a)
  back number n k (End low high) j [] lt there within (inl (le, d, is, ends)) again m =
      after_jump d new k [] (there ∙ ap Some is) (suc zero, inl (omega (arith, ends, size), refl))
  back number n k (End low high) j [] lt there within (inr (gt, is)) again (taken, from, to, e) =
      absurd (omega (arith, gt, from, to))
  back number n k (End low high) j (c ∷ s) lt there within is again (taken, from, to, e) =
      absurd (nil_end s (mark number) (tail_same e))

  from_marked : (number n k : ℕ) (s : List ℕ) → AcceptsIn code n k (s ++ mark number ∷ []) → Accepts new k s
  from_marked number zero k s h = absurd h
  from_marked number (suc n) k s (inl h) = absurd (nil_end s (mark number) h.1)
  from_marked number (suc n) k s (inr (i, here, m)) =
      let lt : k < length code = slice_get_within code k i here in
      let there = slice_get-get_or new k i (omega (arith, lt, size)) in
      back number n k i (get_or new k i) s lt there (closed_at code k i closed here)
      (each k (get_or new k i) there i here) (λ x t a. from_marked number n x t a) m

  pub accepts_marked : 0 < length code → (s : List ℕ)
      → Accepts new 0 s ↔ AcceptsMarked code s
  accepts_marked some s = (
    (λ (n, a). to_marked n 0 s some a),
    (λ (number, (n, a)). from_marked number n 0 s a),
  )

-- ---- one more instruction
some_same : {i j : Instruction} → Some i ≡ Some j → i ≡ j
some_same e = cc

pushed : (items : List Instruction) (i j : Instruction) (k : ℕ) → slice_get (items ++ i ∷ []) k ≡ Some j
    → (slice_get items k ≡ Some j) ⊎ ((k ≡ length items) × (i ≡ j))
pushed [] i j zero here = inr (refl, some_same here)
pushed [] i j (suc k) here = absurd (omega (arith, slice_get_within [] k j here))
pushed (x ∷ items) i j zero here = inl here
pushed (x ∷ items) i j (suc k) here =
    elim (pushed items i j k here) [ inl h ↦ inl h | inr (e, same) ↦ inr (ap suc e, same) ]

pub replace_more : (code items : List Instruction) (i : Instruction) → ReplaceEach code items
    → ReplacesAt code (length items) i → ReplaceEach code (items ++ i ∷ [])
replace_more code items i each at k j here = elim (pushed items i j k here) [
  | inl h ↦ each k j h
  | inr (e, same) ↦ subst (ReplacesAt code k) same (subst (λ x. ReplacesAt code x i) (sym e) at)
]
