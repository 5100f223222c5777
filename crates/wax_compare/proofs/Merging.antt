-- Letters that stand for others that pass the same tests.
use Rattle.std.proofs.Common.{◌≡◌, ◌↔◌, ◌⊎◌, ◌+◌, ◌<◌, ◌≤◌, ◌==◌, ℕ, zero, suc, Bool, true, false, List, ◌∷◌}
use Rattle.std.proofs.Common.{[], ◌++◌, Some, IsTrue, IfSome, Contains, add-one, ap, length, length-append}
use Rattle.std.proofs.Common.{slice_get, slice_index, refl, sym, ◌∙◌, subst, inl, inr, arith}
use Rattle.std.proofs.{Math.Bool.{beq, not}, lemmas.Bool.{cases_lt, eq-eqb, eqb-true}}
use Rattle.std.proofs.lemmas.List.{get_or_append_left, get_or_default, get_or_push}
use Rattle.std.proofs.lemmas.List.Elements.{Contains-get_or}
use Rattle.std.proofs.lemmas.Option.{IfSome_then, same_Some, slice_get_cases, slice_get_within}
use Rattle.std.specs.Char.{IsScalar}
use Rattle.wax_program.specs.declared.instruction.Instruction.{Instruction}
use Rattle.wax_program.specs.declared.instruction.Instruction.TheVariants.{Check, Repeat, Components, Fork}
use Rattle.wax_program.specs.declared.instruction.Instruction.TheVariants.{Jump, Back, End}
use Rattle.wax_program.specs.{Machine.PassesTest, Steady.Alike, declared.instruction.Test.Test}
use Rattle.wax_program.specs.Tests.{IsTestAt, test_of}
use Rattle.wax_states.specs.Alike.{AreAlike}
use Rattle.wax_compare.specs.{Cuts.{AreLetters, HasStandIn, StandsFor}, inner.Cutting.AreKept}
use Rattle.wax_compare.specs.inner.Merging.{AgreeAt, AgreeBefore, AreKeptLetters, AreMerged, IsDigestBefore}
use Rattle.wax_compare.specs.inner.Merging.{IsDigestOf, PassesAt, stirred}
use Rattle.wax_compare.proofs.Blocks.{no_mark, scalars_push}
use Rattle.wax_states.proofs.Replaced.{same_alike}

both_on : {P Q R : Type 0} → P ↔ Q → Q ↔ R → P ↔ R
both_on f g = ((λ p. g.0 (f.0 p)), (λ r. f.1 (g.1 r)))

-- ---- what an instruction does by three characters
alike_on : (i : Instruction) (c d e : ℕ) → Alike i c d → Alike i d e → Alike i c e
alike_on (Check t) c d e f g = both_on f g
alike_on (Repeat t) c d e f g = both_on f g
alike_on Components c d e f g = both_on f g
alike_on (Fork n) c d e f g = tt
alike_on (Jump n) c d e f g = tt
alike_on (Back n) c d e f g = tt
alike_on (End low high) c d e f g = λ number. both_on (f number) (g number)

stands_on : (code other : List Instruction) (c d e : ℕ) → StandsFor code other d c → StandsFor code other e d
    → StandsFor code other e c
stands_on code other c d e f g = record {
  first = λ k i is. alike_on i c d e (f.first k i is) (g.first k i is);
  second = λ k i is. alike_on i c d e (f.second k i is) (g.second k i is);
  slash = both_on f.slash g.slash;
}

-- ---- characters that pass the same tests
agree_alike : (i : Instruction) (c d : ℕ) → c < 1114112 → d < 1114112 → (c ≡ 47) ↔ (d ≡ 47)
    → IfSome (test_of i) (λ t. PassesTest t c ↔ PassesTest t d) → Alike i c d
agree_alike (Check t) c d small other slash h = h
agree_alike (Repeat t) c d small other slash h = h
agree_alike Components c d small other slash h = slash
agree_alike (Fork n) c d small other slash h = tt
agree_alike (Jump n) c d small other slash h = tt
agree_alike (Back n) c d small other slash h = tt
agree_alike (End low high) c d small other slash h =
    λ number. (no_mark c d number small, no_mark d c number other)

all_alike : (code : List Instruction) (c d : ℕ) → c < 1114112 → d < 1114112 → (c ≡ 47) ↔ (d ≡ 47)
    → AgreeBefore code (length code) c d → AreAlike code c d
all_alike code c d small other slash h k i is =
    agree_alike i c d small other slash (h k (slice_get_within code k i is) i is)

pub agree_stands : (code other : List Instruction) (c letter : ℕ) → c < 1114112 → letter < 1114112
    → (c ≡ 47) ↔ (letter ≡ 47) → AgreeBefore code (length code) c letter
    → AgreeBefore other (length other) c letter → StandsFor code other letter c
agree_stands code other c letter small low slash f g = record {
  first = all_alike code c letter small low slash f;
  second = all_alike other c letter small low slash g;
  slash = slash;
}

-- ---- letters that are kept
pub itself : (code other : List Instruction) (letters : List ℕ) (c : ℕ) → Contains letters c
    → HasStandIn code other letters c
itself code other letters c h =
    let stands : StandsFor code other c c = record {
      first = same_alike code c;
      second = same_alike other c;
      slash = ((λ e. e), (λ e. e));
    } in
    (c, h, stands)

pub merged_more : (code other : List Instruction) (letters : List ℕ) (n : ℕ) (old new : List ℕ)
    → AreKept old new → AreMerged code other letters n old → HasStandIn code other new (slice_index letters n)
    → AreMerged code other letters (n + 1) new
merged_more code other letters n old new kept before now k lt = elim (cases_lt k n) [
  | inl less ↦ (let h = before k less in (h.0, kept h.0 h.1, h.2))
  | inr past ↦ (let same : n ≡ k = omega (arith, lt, past) in
      subst (λ i. HasStandIn code other new (slice_index letters i)) same now)
]

pub merged_all : (code other : List Instruction) (letters : List ℕ) (n : ℕ) (kept : List ℕ) → length letters
    ≤ n → AreMerged code other letters n kept → (c : ℕ) → Contains letters c → HasStandIn code other kept c
merged_all code other letters n kept all h c has =
    let is : slice_index letters has.0 ≡ c = get_or_default letters has.0 0 c has.1 ∙ has.2 in
    subst (HasStandIn code other kept) is (h has.0 (omega (arith, has.1, all)))

pub letters_merged : (code other : List Instruction) (letters kept : List ℕ) → AreLetters code other letters
    → ((c : ℕ) → Contains letters c → HasStandIn code other kept c) → AreLetters code other kept
letters_merged code other letters kept stand merged c scalar =
    let one = stand c scalar in
    let two = merged one.0 one.1 in
    (two.0, two.1, stands_on code other c one.0 two.0 one.2 two.2)

-- both characters are `/` or neither, where the tests for it agree
same_bools : (a b : Bool) → not (beq a b) ≡ false → a ≡ b
same_bools true true e = refl
same_bools true false e = cc
same_bools false true e = cc
same_bools false false e = refl

pub same_slashes : (c d : ℕ) → not (beq (c == 47) (d == 47)) ≡ false → (c ≡ 47) ↔ (d ≡ 47)
same_slashes c d e =
    let same = same_bools (c == 47) (d == 47) e in
    ((λ h. eqb-true d 47 (sym same ∙ eq-eqb c 47 h)), (λ h. eqb-true c 47 (same ∙ eq-eqb d 47 h)))

-- ---- characters that pass the same tests have the same digest

agree_turned : (code : List Instruction) (at c d : ℕ) → AgreeAt code at c d → AgreeAt code at d c
agree_turned code at c d agree i is = IfSome_then (test_of i) (agree i is) (λ t h. (h.1, h.0))

passes_alike : (code : List Instruction) (at c d : ℕ) → AgreeAt code at c d → PassesAt code at c
    → PassesAt code at d
passes_alike code at c d agree h =
    let both = subst (λ o. IfSome o (λ t. PassesTest t c ↔ PassesTest t d)) h.3 (agree h.0 h.2) in
    (h.0, h.1, h.2, h.3, both.0 h.4)

same_digest : (code : List Instruction) (c d seed other : ℕ) → seed ≡ other → (n : ℕ) → AgreeBefore code n c d
    → (x y : ℕ) → IsDigestBefore code c seed n x → IsDigestBefore code d other n y → x ≡ y
same_digest code c d seed other e zero agree x y h g = h ∙ e ∙ sym g
same_digest code c d seed other e (suc at) agree x y h g =
    let before : h.0 ≡ g.0 = same_digest code c d seed other e at
    (λ k lt. agree k (omega (arith, lt))) h.0 g.0 h.1 g.1 in
    let here : AgreeAt code at c d = agree at (omega arith) in
    elim h.2 [
      | inl p ↦ elim g.2 [
        | inl q ↦ p.1 ∙ ap (λ z. stirred z at) before ∙ sym q.1
        | inr q ↦ absurd (q.0 (passes_alike code at c d here p.0))
      ]
      | inr p ↦ elim g.2 [
        | inl q ↦ absurd (p.0 (passes_alike code at d c (agree_turned code at c d here) q.0))
        | inr q ↦ p.1 ∙ before ∙ sym q.1
      ]
    ]

alike_agree : (i : Instruction) (c d : ℕ) → Alike i c d
    → IfSome (test_of i) (λ t. PassesTest t c ↔ PassesTest t d)
alike_agree (Check t) c d h = h
alike_agree (Repeat t) c d h = h
alike_agree Components c d h = tt
alike_agree (Fork n) c d h = tt
alike_agree (Jump n) c d h = tt
alike_agree (Back n) c d h = tt
alike_agree (End low high) c d h = tt

pub alike_before : (code : List Instruction) (c d n : ℕ) → AreAlike code c d → AgreeBefore code n c d
alike_before code c d n alike k lt i is = alike_agree i c d (alike k i is)

pub stands_digest : (code other : List Instruction) (letter c x y : ℕ) → StandsFor code other letter c
    → IsDigestOf code other c x → IsDigestOf code other letter y → x ≡ y
stands_digest code other letter c x y stands h g =
    let middle : h.0 ≡ g.0 = same_digest code c letter 1 1 refl (length code)
    (alike_before code c letter (length code) stands.first) h.0 g.0 h.1 g.1 in
    same_digest other c letter h.0 g.0 middle (length other)
    (alike_before other c letter (length other) stands.second) x y h.2 g.2

-- a digest with a place more
pub digest_more : (code : List Instruction) (c seed at before digest : ℕ)
    → IsDigestBefore code c seed at before
    → (PassesAt code at c × (digest ≡ stirred before at)) ⊎ ((PassesAt code at c → ⊥) × (digest ≡ before))
    → IsDigestBefore code c seed (at + 1) digest
digest_more code c seed at before digest h how =
    subst (λ n. IsDigestBefore code c seed n digest) (sym (add-one at)) (before, h, how)

-- ---- a letter that is kept

index_left : (xs : List ℕ) (x i : ℕ) → i < length xs → slice_index (xs ++ x ∷ []) i ≡ slice_index xs i
index_left xs x i lt = get_or_append_left xs (x ∷ []) 0 i lt

index_end : (xs : List ℕ) (x i : ℕ) → i ≡ length xs → slice_index (xs ++ x ∷ []) i ≡ x
index_end xs x i e = get_or_push xs x 0 i (sym e)

module _ (code other : List Instruction) (kept digests : List ℕ) (letter digest : ℕ)
    (held : AreKeptLetters code other kept digests) (by : IsDigestOf code other letter digest)
    (scalar : IsScalar letter) (none : HasStandIn code other kept letter → ⊥) where
  none_stands : (i j : ℕ) → i < j → j < length (kept ++ letter ∷ [])
      → StandsFor code other (slice_index (kept ++ letter ∷ []) i) (slice_index (kept ++ letter ∷ []) j) → ⊥
  none_stands i j lt within stands =
      let first : i < length kept = omega (arith, lt, within, length-append kept (letter ∷ [])) in
      elim (cases_lt j (length kept)) [
        | inl less ↦ held.unlike.unlike i j lt less (subst (λ c. StandsFor code other (slice_index kept i) c)
            (index_left kept letter j less)
            (subst (λ d. StandsFor code other d (slice_index (kept ++ letter ∷ []) j))
            (index_left kept letter i first) stands))
        | inr past ↦ (let last : j ≡ length kept =
            omega (arith, past, within, length-append kept (letter ∷ [])) in
            none (
              slice_index kept i,
              Contains-get_or kept i 0 first,
              subst (λ c. StandsFor code other (slice_index kept i) c) (index_end kept letter j last)
                  (subst (λ d. StandsFor code other d (slice_index (kept ++ letter ∷ []) j))
                  (index_left kept letter i first) stands),
            ))
      ]

  digests_more : (k : ℕ) → k < length (kept ++ letter ∷ [])
      → IsDigestOf code other (slice_index (kept ++ letter ∷ []) k) (slice_index (digests ++ digest ∷ []) k)
  digests_more k within = elim (cases_lt k (length kept)) [
    | inl less ↦ subst (λ c. IsDigestOf code other c (slice_index (digests ++ digest ∷ []) k))
        (sym (index_left kept letter k less))
        (subst (IsDigestOf code other (slice_index kept k))
        (sym (index_left digests digest k (omega (arith, less, held.long)))) (held.of k less))
    | inr past ↦ (let last : k ≡ length kept =
        omega (arith, past, within, length-append kept (letter ∷ [])) in
        subst (λ c. IsDigestOf code other c (slice_index (digests ++ digest ∷ []) k))
        (sym (index_end kept letter k last))
        (subst (IsDigestOf code other letter)
        (sym (index_end digests digest k (omega (arith, last, held.long)))) by))
  ]

  pub kept_more : AreKeptLetters code other (kept ++ letter ∷ []) (digests ++ digest ∷ [])
  kept_more = record {
    unlike = record {
      scalars = scalars_push kept letter held.unlike.scalars scalar;
      unlike = none_stands;
    };
    long = omega (arith, held.long, length-append kept (letter ∷ []), length-append digests (digest ∷ []));
    of = digests_more;
  }

pub kept_none : (code other : List Instruction) → AreKeptLetters code other [] []
kept_none code other = record {
  unlike = record {
    scalars = refl;
    unlike = λ i j lt within stands. (let no : ⊥ = omega (arith, within) in no);
  };
  long = refl;
  of = λ k lt. absurd (let no : ⊥ = omega (arith, lt) in no);
}

-- one of both characters is `/`, where the tests for it differ
pub other_slashes : (c d : ℕ) → not (beq (c == 47) (d == 47)) ≡ true → (c ≡ 47) ↔ (d ≡ 47) → ⊥
other_slashes c d e same = differ (c == 47) (d == 47) e (λ h. eq-eqb d 47 (same.0 (eqb-true c 47 h)))
    (λ h. eq-eqb c 47 (same.1 (eqb-true d 47 h)))
  where
    differ : (a b : Bool) → not (beq a b) ≡ true → (a ≡ true → b ≡ true) → (b ≡ true → a ≡ true) → ⊥
    differ true true e f g = cc
    differ true false e f g = (let no : false ≡ true = f refl in cc)
    differ false true e f g = (let no : false ≡ true = g refl in cc)
    differ false false e f g = cc

-- ---- the test of an instruction, if it has one
module _ (code : List Instruction) (at : ℕ) (within : at < length code) (t : Test)
    (is : IsTestAt code at (Some t))
  where
    instruction_at : (i : Instruction) × (slice_get code at ≡ Some i)
    instruction_at = elim (slice_get_cases code at).1 [
      | inl found ↦ (found.0, found.2)
      | inr none ↦ (let no : ⊥ = omega (arith, within, none.0) in absurd no)
    ]

    pub test_passes : (c : ℕ) (b : Bool) → IsTrue b ↔ PassesTest t c → IsTrue b ↔ PassesAt code at c
    test_passes c b by = (
      (λ h. (instruction_at.0, t, instruction_at.1, sym (is instruction_at.0 instruction_at.1), by.0 h)),
      (λ h. by.1 (subst (λ u. PassesTest u c) (sym (same_Some t h.1 (is h.0 h.2 ∙ h.3))) h.4)),
    )

    pub test_agrees : (c d : ℕ) (b : Bool) → IsTrue b ↔ (PassesTest t c ↔ PassesTest t d)
        → IsTrue b ↔ AgreeAt code at c d
    test_agrees c d b by = (
      (λ h i at_i. subst (λ o. IfSome o (λ u. PassesTest u c ↔ PassesTest u d)) (is i at_i) (by.0 h)),
      (λ agree. by.1 (subst (λ o. IfSome o (λ u. PassesTest u c ↔ PassesTest u d))
          (sym (is instruction_at.0 instruction_at.1)) (agree instruction_at.0 instruction_at.1))),
    )
