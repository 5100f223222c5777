-- Whether a program accepts a text that begins with a given one and goes on in a
-- given way, as a decided fact.
use Rattle.std.proofs.Common.{◌≡◌, ◌↔◌, ◌⊎◌, ℕ, zero, suc, ◌+◌, ◌-◌, ◌<◌, ◌≤◌, Bool, true, false, List, []}
use Rattle.std.proofs.Common.{◌∷◌, ◌++◌, Option, Some, None, length, set, slice_get, slice_index_or, inl, inr}
use Rattle.std.proofs.Common.{refl, sym, ◌∙◌, ap, subst, true≢false, length-set, arith}
use Rattle.std.proofs.{lemmas.Bool.{cases_eq, cases_lt}, lemmas.List.get_or_past}
use Rattle.std.proofs.lemmas.Option.{slice_get_within}
use Rattle.wax_program.specs.{Places.{HoldsPlace, member_count}, declared.instruction.Instruction.Instruction}
use Rattle.wax_program.specs.declared.instruction.Instruction.TheVariants.{Check, Repeat, Components, Fork}
use Rattle.wax_program.specs.declared.instruction.Instruction.TheVariants.{Jump, Back, End}
use Rattle.wax_program.specs.{declared.instruction.Test.Test, declared.onward.Ahead.Ahead}
use Rattle.wax_program.specs.Machine.{PassesTest, Moves, AcceptsIn, Accepts, mark}
use Rattle.wax_program.specs.Onward.{IsAhead, flags_for}
use Rattle.wax_program.proofs.{Members.{added_only, members_set, members_within}, Finding.flags_found}
use Rattle.wax_program.proofs.Steps.{after_test, after_last, after_one, after_any, after_slash, after_fork}
use Rattle.wax_program.proofs.{Steps.{after_jump, after_back}, Tested.{decided_by, passes_decided}}
use Rattle.wax_token.specs.Decided.{Decided, both, either, is_true}

-- ---- sets of places that are closed
none_of : (n : ℕ) → (s : List Bool) × (length s ≡ n) × ((k : ℕ) → HoldsPlace s k → ⊥)
none_of zero = ([], refl, (λ k h. true≢false (sym h)))
none_of (suc n) = let (s, e, none) = none_of n in (false ∷ s, ap suc e, none_in s none)
  where
    none_in : (s : List Bool) → ((k : ℕ) → HoldsPlace s k → ⊥) → (k : ℕ) → HoldsPlace (false ∷ s) k → ⊥
    none_in s none zero h = true≢false (sym h)
    none_in s none (suc k) h = none k h

held_inside : (s : List Bool) (k : ℕ) → HoldsPlace s k → k < length s
held_inside s k h = elim (cases_lt k (length s)) [
  | inl lt ↦ lt
  | inr past ↦ absurd (true≢false (sym h ∙ get_or_past s k false past))
]

module _ (size : ℕ) (P : ℕ → Type 0) (Derives : List Bool → ℕ → Type 0)
    (decide : (s : List Bool) (k : ℕ) → Decided (Derives s k))
    (sound : (s : List Bool) → ((k : ℕ) → HoldsPlace s k → P k) → (k : ℕ) → Derives s k → P k) where
  abbrev Missing : List Bool → ℕ → Type 0
  Missing s n = (k : ℕ) × (k < n) × (HoldsPlace s k → ⊥) × Derives s k

  abbrev Full : List Bool → ℕ → Type 0
  Full s n = (k : ℕ) → k < n → Derives s k → HoldsPlace s k

  full_more : (s : List Bool) (n : ℕ) → Full s n → (Derives s n → HoldsPlace s n) → Full s (suc n)
  full_more s n full here k lt d = elim (cases_eq k n) [
    | inl e ↦ subst (HoldsPlace s) (sym e) (here (subst (Derives s) e d))
    | inr ne ↦ full k (omega (arith, lt, ne)) d
  ]

  find : (s : List Bool) (n : ℕ) → Missing s n ⊎ Full s n
  find s zero = inr (λ k lt d. absurd (omega (arith, lt)))
  find s (suc n) = elim (find s n) [
    | inl (k, lt, none, d) ↦ inl (k, omega (arith, lt), none, d)
    | inr full ↦ elim (is_true (slice_index_or s n false)) [
      | inl h ↦ inr (full_more s n full (λ _. h))
      | inr none ↦ elim (decide s n) [
        | inl d ↦ inl (n, omega arith, none, d)
        | inr never ↦ inr (full_more s n full (λ d. absurd (never d)))
      ]
    ]
  ]

  abbrev Closed : Type 0
  Closed = (s : List Bool) × ((k : ℕ) → HoldsPlace s k → P k) × Full s size

  no_more : (s : List Bool) (k : ℕ) → length s ≡ size → size ≤ member_count s → k < size
      → (HoldsPlace s k → ⊥) → ⊥
  no_more s k e many lt none =
      let bigger = members_set s k (omega (arith, lt, e)) none in
      let within = members_within (length (set s k true)) (set s k true) (held_inside (set s k true)) in
      omega (arith, bigger, within, length-set s k true, e, many)

  sound_more : (s : List Bool) (k : ℕ) → ((x : ℕ) → HoldsPlace s x → P x) → P k → (x : ℕ)
      → HoldsPlace (set s k true) x → P x
  sound_more s k all here x h = elim (added_only s k x h) [ inl g ↦ all x g | inr e ↦ subst P (sym e) here ]

  close : (left : ℕ) (s : List Bool) → length s ≡ size → size ≤ member_count s + left
      → ((k : ℕ) → HoldsPlace s k → P k) → Closed
  close zero s e many all = elim (find s size) [
    | inr full ↦ (s, all, full)
    | inl (k, lt, none, d) ↦ absurd (no_more s k e (omega (arith, many)) lt none)
  ]
  close (suc left) s e many all = elim (find s size) [
    | inr full ↦ (s, all, full)
    | inl (k, lt, none, d) ↦ close left (set s k true) (length-set s k true ∙ e)
        (omega (arith, many, members_set s k (omega (arith, lt, e)) none))
        (sound_more s k all (sound s all k d))
  ]

  closed : Closed
  closed = let (s, e, none) = none_of size in close size s e (omega arith) (λ k h. absurd (none k h))

-- ---- the places from which texts that begin in a given way are accepted
le_decided : (m n : ℕ) → Decided (m ≤ n)
le_decided m n = elim (cases_lt n m) [ inl lt ↦ inr (λ h. omega (arith, lt, h)) | inr le ↦ inl le ]

some_same : {i j : Instruction} → Some i ≡ Some j → i ≡ j
some_same e = cc

none_some : {i : Instruction} → None ≡ Some i → ⊥
none_some e = cc

module _ (code : List Instruction) where
  abbrev Exact : (List ℕ → Type 0) → List Bool → Type 0
  Exact Q s = (k : ℕ) → HoldsPlace s k ↔ ((t : List ℕ) × Q t × Accepts code k t)

  -- a character, and then a text of another kind
  abbrev Then : ℕ → (List ℕ → Type 0) → List ℕ → Type 0
  Then d Q [] = ⊥
  Then d Q (c ∷ t) = (c ≡ d) × Q t

  module _ (d : ℕ) (Q : List ℕ → Type 0) (onto : List Bool) (are : Exact Q onto) where
    abbrev By : Test → ℕ → Type 0
    By t x = PassesTest t d × HoldsPlace onto x

    abbrev To : Instruction → List Bool → ℕ → Type 0
    To (Check t) s k = By t (k + 1)
    To (Repeat t) s k = HoldsPlace s (k + 1) ⊎ By t k
    To Components s k = HoldsPlace onto k ⊎ ((d ≡ 47) × HoldsPlace onto (k + 1))
    To (Fork n) s k = HoldsPlace s (k + 1) ⊎ HoldsPlace s (k + 1 + n)
    To (Jump n) s k = HoldsPlace s (k + 1 + n)
    To (Back n) s k = HoldsPlace s (k - n)
    To (End low high) s k = (mark low ≤ d) × ((d ≤ mark high) × HoldsPlace onto (length code))

    abbrev Derives : List Bool → ℕ → Type 0
    Derives s k = (i : Instruction) × (slice_get code k ≡ Some i) × To i s k

    held : (s : List Bool) (k : ℕ) → Decided (HoldsPlace s k)
    held s k = is_true (slice_index_or s k false)

    to_decided : (i : Instruction) (s : List Bool) (k : ℕ) → Decided (To i s k)
    to_decided (Check t) s k = both (passes_decided t d) (held onto (k + 1))
    to_decided (Repeat t) s k = either (held s (k + 1)) (both (passes_decided t d) (held onto k))
    to_decided Components s k = either (held onto k) (both (cases_eq d 47) (held onto (k + 1)))
    to_decided (Fork n) s k = either (held s (k + 1)) (held s (k + 1 + n))
    to_decided (Jump n) s k = held s (k + 1 + n)
    to_decided (Back n) s k = held s (k - n)
    to_decided (End low high) s k =
        both (le_decided (mark low) d) (both (le_decided d (mark high)) (held onto (length code)))

    at_decided : (s : List Bool) (k : ℕ) (o : Option Instruction) → slice_get code k ≡ o
        → Decided (Derives s k)
    at_decided s k None e = inr (λ (i, is, h). none_some (sym e ∙ is))
    at_decided s k (Some i) e = elim (to_decided i s k) [
      | inl h ↦ inl (i, e, h)
      | inr never ↦ inr (λ (j, is, h). never (subst (λ z. To z s k) (some_same (sym is ∙ e)) h))
    ]

    derives_decided : (s : List Bool) (k : ℕ) → Decided (Derives s k)
    derives_decided s k = at_decided s k (slice_get code k) refl

    abbrev Goes : ℕ → Type 0
    Goes k = (t : List ℕ) × Then d Q t × Accepts code k t

    -- the program's end accepts nothing but the empty text
    nothing_left : (n : ℕ) (t : List ℕ) → AcceptsIn code n (length code) t → t ≡ []
    nothing_left zero t a = absurd a
    nothing_left (suc n) t (inl (e, none)) = none
    nothing_left (suc n) t (inr (i, is, a)) = absurd (omega (arith, slice_get_within code (length code) i is))

    as_mark : (low : ℕ) (r : List ℕ) → mark low ≤ d → r ≡ [] → d ∷ r ≡ mark (d - 1114112) ∷ []
    as_mark low r least none = let e : d ≡ mark (d - 1114112) = omega (arith, least) in cc

    module _ (s : List Bool) (all : (k : ℕ) → HoldsPlace s k → Goes k) where
      on_soundly : (k x : ℕ) → ((r : List ℕ) → Accepts code x r → Accepts code k (d ∷ r))
          → HoldsPlace onto x → Goes k
      on_soundly k x on h = let (r, q, a) = (are x).0 h in (d ∷ r, (refl, q), on r a)

      from_soundly : (k x : ℕ) → ((r : List ℕ) → Accepts code x r → Accepts code k r)
          → HoldsPlace s x → Goes k
      from_soundly k x on h = let (r, q, a) = all x h in (r, q, on r a)

      to_soundly : (i : Instruction) (k : ℕ) → slice_get code k ≡ Some i → To i s k → Goes k
      to_soundly (Check t) k is (p, h) = on_soundly k (k + 1) (λ r a. after_test t code k d r is p a) h
      to_soundly (Repeat t) k is (inl h) = from_soundly k (k + 1) (λ r a. after_last t code k r is a) h
      to_soundly (Repeat t) k is (inr (p, h)) = on_soundly k k (λ r a. after_one t code k d r is p a) h
      to_soundly Components k is (inl h) = on_soundly k k (λ r a. after_any code k d r is a) h
      to_soundly Components k is (inr (e, h)) = on_soundly k (k + 1) (λ r a. after_slash code k d r is e a) h
      to_soundly (Fork n) k is (inl h) = from_soundly k (k + 1) (λ r a. after_fork n code k r is (inl a)) h
      to_soundly (Fork n) k is (inr h) =
          from_soundly k (k + 1 + n) (λ r a. after_fork n code k r is (inr a)) h
      to_soundly (Jump n) k is h = from_soundly k (k + 1 + n) (λ r a. after_jump n code k r is a) h
      to_soundly (Back n) k is h = from_soundly k (k - n) (λ r a. after_back n code k r is a) h
      to_soundly (End low high) k is (least, (most, h)) =
          let (r, q, a) = (are (length code)).0 h in (
            d ∷ r,
            (refl, q),
            (
              1,
              inr (
                End low high,
                is,
                (
                  d - 1114112,
                  omega (arith, least),
                  omega (arith, most),
                  as_mark low r least (nothing_left a.0 r a.1),
                ),
              ),
            ),
          )

      soundly : (k : ℕ) → Derives s k → Goes k
      soundly k (i, is, h) = to_soundly i k is h

    module _ (s : List Bool) (full : (k : ℕ) → k < length code → Derives s k → HoldsPlace s k) where
      heads : {a b : ℕ} {u v : List ℕ} → a ∷ u ≡ b ∷ v → a ≡ b
      heads e = cc

      tails : {a b : ℕ} {u v : List ℕ} → a ∷ u ≡ b ∷ v → u ≡ v
      tails e = cc

      on_held : (n x : ℕ) (t : List ℕ) → Q t → AcceptsIn code n x t → HoldsPlace onto x
      on_held n x t q a = (are x).1 (t, q, (n, a))

      moved : (n k : ℕ) (i : Instruction) (t : List ℕ)
          → ((x : ℕ) (r : List ℕ) → AcceptsIn code n x r → Then d Q r → HoldsPlace s x)
          → Then d Q t → Moves i (AcceptsIn code n) k t → To i s k
      moved n k (Check u) [] again h g = absurd g
      moved n k (Check u) (c ∷ t) again (e, q) (p, a) = (subst (PassesTest u) e p, on_held n (k + 1) t q a)
      moved n k (Repeat u) [] again h a = absurd h
      moved n k (Repeat u) (c ∷ t) again h (inl a) = inl (again (k + 1) (c ∷ t) a h)
      moved n k (Repeat u) (c ∷ t) again (e, q) (inr (p, a)) =
          inr (subst (PassesTest u) e p, on_held n k t q a)
      moved n k Components [] again h g = absurd g
      moved n k Components (c ∷ t) again (e, q) (inl a) = inl (on_held n k t q a)
      moved n k Components (c ∷ t) again (e, q) (inr (f, a)) = inr (sym e ∙ f, on_held n (k + 1) t q a)
      moved n k (Fork b) t again h (inl a) = inl (again (k + 1) t a h)
      moved n k (Fork b) t again h (inr a) = inr (again (k + 1 + b) t a h)
      moved n k (Jump b) t again h a = again (k + 1 + b) t a h
      moved n k (Back b) t again h a = again (k - b) t a h
      moved n k (End low high) [] again h a = absurd h
      moved n k (End low high) (c ∷ t) again (e, q) (number, least, most, same) =
          let m : c ≡ mark number = heads same in (
            omega (arith, m, e, least),
            (
              omega (arith, m, e, most),
              (are (length code)).1 ([], subst Q (tails same) q, (1, inl (refl, refl))),
            ),
          )

      all_held : (n k : ℕ) (t : List ℕ) → AcceptsIn code n k t → Then d Q t → HoldsPlace s k
      all_held zero k t a h = absurd a
      all_held (suc n) k t (inl (e, none)) h = absurd (subst (Then d Q) none h)
      all_held (suc n) k t (inr (i, is, a)) h =
          full k (slice_get_within code k i is) (i, is, moved n k i t (λ x r b g. all_held n x r b g) h a)

    then_exact : (s : List Bool) × Exact (Then d Q) s
    then_exact =
        let (s, all, full) = closed (length code) Goes Derives derives_decided soundly in
        (s, (λ k. (all k, (λ (t, h, a). all_held s full a.0 k t a.1 h))))

  abbrev After : List ℕ → (List ℕ → Type 0) → List ℕ → Type 0
  After [] Q t = Q t
  After (d ∷ text) Q t = Then d (After text Q) t

  after_exact : (text : List ℕ) (Q : List ℕ → Type 0) (s : List Bool) → Exact Q s
      → (s : List Bool) × Exact (After text Q) s
  after_exact [] Q s are = (s, are)
  after_exact (d ∷ text) Q s are = let (r, is) = after_exact text Q s are in then_exact d (After text Q) r is

  after_append : (text : List ℕ) (Q : List ℕ → Type 0) (t : List ℕ) → Q t → After text Q (text ++ t)
  after_append [] Q t q = q
  after_append (d ∷ text) Q t q = (refl, after_append text Q t q)

  after_split : (text : List ℕ) (Q : List ℕ → Type 0) (t : List ℕ) → After text Q t
      → (r : List ℕ) × (t ≡ text ++ r) × Q r
  after_split [] Q t h = (t, refl, h)
  after_split (d ∷ text) Q [] h = absurd h
  after_split (d ∷ text) Q (c ∷ t) (e, h) = let (r, f, q) = after_split text Q t h in (r, pair e f, q)
    where
      pair : {a b : ℕ} {x y : List ℕ} → a ≡ b → x ≡ y → a ∷ x ≡ b ∷ y
      pair e f = cc

  -- some text of the kind is accepted after the given one
  pub ahead_decided : (most : Option ℕ) (m : Ahead) (start : ℕ) (text : List ℕ)
      → Decided ((s : List ℕ) × IsAhead most m s × Accepts code start (text ++ s))
  ahead_decided most m start text =
      let (f, are) = flags_found code most in
      let (r, is) = after_exact text (IsAhead most m) (flags_for m f) (are m) in
      decided_by (
        (λ h. (let (t, g, a) = (is start).0 h in
            let (rest, e, q) = after_split text (IsAhead most m) t g in
            (rest, q, subst (Accepts code start) e a))),
        (λ (rest, q, a). (is start).1 (text ++ rest, after_append text (IsAhead most m) rest q, a)),
      ) (is_true (slice_index_or r start false))
