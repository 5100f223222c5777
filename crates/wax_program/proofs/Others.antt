-- Which tests some character other than `/` passes.
use Rattle.std.proofs.Common.{◌≡◌, ◌≢◌, ◌↔◌, ◌⊎◌, ℕ, ◌+◌, ◌<◌, ◌≤◌, ◌==◌, ◌&&◌, ◌||◌, not, nat_le, Bool, true}
use Rattle.std.proofs.Common.{false, List, [], ◌∷◌, IsTrue, length, get_or, zero, suc, inl, inr, refl, sym}
use Rattle.std.proofs.{Common.{subst, take, take_all, true≢false, ◌∙◌, arith}, lemmas.Bool.cases_eq}
use Rattle.std.proofs.{lemmas.Bool.Decides.nat_tests, lemmas.List.Elements.{All-head, All-more, All-tail}}
use Rattle.std.proofs.lemmas.List.Folds.{list_any_at}
use Rattle.std.specs.{Char.IsScalar, List.{list_any, list_all}, Prelude.All}
use Rattle.wax_token.specs.{Meaning.{in_archetype, is_forward}, declared.token.Archetype.Archetype}
use Rattle.wax_token.specs.declared.token.Archetype.TheVariants.{Character, Range}
use Rattle.wax_program.proofs.Scalars.{and_parts, both_true}
use Rattle.wax_program.specs.Onward.{HoldsOther, IsOther, LeavesOther, ListsOther}

-- ---- truth values
or_parts : (a b : Bool) → (a || b) ≡ true → (a ≡ true) ⊎ (b ≡ true)
or_parts true b e = inl refl
or_parts false b e = inr e

not_true : (a : Bool) → a ≡ false → not a ≡ true
not_true true e = absurd (let g : ⊥ = cc in g)
not_true false e = refl

is_not : (a : Bool) → not a ≡ true → a ≡ false
is_not true e = absurd (let g : ⊥ = cc in g)
is_not false e = refl

not_same : (c d : ℕ) → c ≢ d → not (c == d) ≡ true
not_same c d ne = grind (arith, nat_tests)

at_most : (c d : ℕ) → c ≤ d → nat_le c d ≡ true
at_most c d e = grind (arith, nat_tests)

most_at : (c d : ℕ) → nat_le c d ≡ true → c ≤ d
most_at c d e = grind (arith, nat_tests)

same_test : (c : ℕ) → (c == c) ≡ true
same_test c = grind (arith, nat_tests)

same_as : (c d : ℕ) → (c == d) ≡ true → c ≡ d
same_as c d e = grind (arith, nat_tests)

-- ---- one archetype

-- it has a character other than `/`
abbrev pub HasOther : Archetype → Type 0
HasOther x = (c : ℕ) × IsOther c × (in_archetype c x ≡ true)

pub character_other : (d : ℕ) (b : Bool) → IsScalar d → (IsTrue b ↔ (d ≢ 47))
    → IsTrue b ↔ HasOther (Character d)
character_other d b scalar is = (
  (λ t. (d, (scalar, is.0 t), same_test d)),
  (λ (c, other, h). is.1 (λ e. other.1 (same_as c d h ∙ e))),
)

pub low_other : (low high : ℕ) → IsScalar low → low ≢ 47 → nat_le low high ≡ true → HasOther (Range low high)
low_other low high scalar ne f = (low, (scalar, ne), both_true _ _ (at_most low low (omega arith)) f)

pub high_other : (low high : ℕ) → IsScalar high → high ≢ 47 → nat_le low high ≡ true
    → HasOther (Range low high)
high_other low high scalar ne f = (high, (scalar, ne), both_true _ _ f (at_most high high (omega arith)))

pub slash_alone : (low high : ℕ) → ¬ (low ≢ 47) → HasOther (Range low high) → high ≢ 47
slash_alone low high is (c, other, h) e =
    let (a, b) = and_parts (nat_le low c) (nat_le c high) h in
    elim (cases_eq low 47) [
      | inr ne ↦ is ne
      | inl f ↦ other.1 (omega (arith, most_at low c a, most_at c high b, e, f))
    ]

-- ---- all of them

pub none_listed : (xs : List Archetype) → All (λ x. ¬ (HasOther x)) xs → ListsOther xs → ⊥
none_listed [] all (c, other, h) = let g : ⊥ = cc in g
none_listed (x ∷ xs) all (c, other, h) =
    elim (or_parts (in_archetype c x) (list_any (in_archetype c) xs) h) [
      | inl a ↦ All-head (λ x. ¬ (HasOther x)) x xs all (c, other, a)
      | inr a ↦ none_listed xs (All-tail (λ x. ¬ (HasOther x)) x xs all) (c, other, a)
    ]

-- ---- classes

pub plain_other : (xs : List Archetype) → list_all is_forward xs ≡ true → ListsOther xs ↔ HoldsOther false xs
plain_other xs f = (
  (λ (c, other, h). (
    c,
    other,
    both_true (not (c == 47) && list_all is_forward xs) (list_any (in_archetype c) xs)
        (both_true (not (c == 47)) (list_all is_forward xs) (not_same c 47 other.1) f) h,
  )),
  (λ (c, other, h).
      (c, other, (and_parts (not (c == 47) && list_all is_forward xs) (list_any (in_archetype c) xs) h).1)),
)

pub negated_other : (xs : List Archetype) → list_all is_forward xs ≡ true
    → LeavesOther xs ↔ HoldsOther true xs
negated_other xs f = (
  (λ (c, other, h). (
    c,
    other,
    both_true (not (c == 47) && list_all is_forward xs) (not (list_any (in_archetype c) xs))
        (both_true (not (c == 47)) (list_all is_forward xs) (not_same c 47 other.1) f)
        (not_true (list_any (in_archetype c) xs) h),
  )),
  (λ (c, other, h). (
    c,
    other,
    is_not (list_any (in_archetype c) xs)
        (and_parts (not (c == 47) && list_all is_forward xs) (not (list_any (in_archetype c) xs)) h).1,
  )),
)

pub none_reversed : (negated : Bool) (xs : List Archetype) → list_all is_forward xs ≡ false
    → HoldsOther negated xs → ⊥
none_reversed true xs e (c, other, h) =
    let (a, b) = and_parts (not (c == 47) && list_all is_forward xs) (not (list_any (in_archetype c) xs)) h in
    let (p, q) = and_parts (not (c == 47)) (list_all is_forward xs) a in cc
none_reversed false xs e (c, other, h) =
    let (a, b) = and_parts (not (c == 47) && list_all is_forward xs) (list_any (in_archetype c) xs) h in
    let (p, q) = and_parts (not (c == 47)) (list_all is_forward xs) a in cc

-- ---- a loop over the archetypes

all_at : (p : Archetype → Bool) (xs : List Archetype) (i : ℕ) (d : Archetype) → i < length xs
    → list_all p xs ≡ true → p (get_or xs i d) ≡ true
all_at p [] i d lt h = absurd (omega (arith, lt))
all_at p (x ∷ xs) zero d lt h = (and_parts (p x) (list_all p xs) h).0
all_at p (x ∷ xs) (suc i) d lt h = all_at p xs i d (omega (arith, lt)) (and_parts (p x) (list_all p xs) h).1

module _ (xs : List Archetype) (i : ℕ) (d : Archetype) (b : Bool) (lt : i < length xs)
    (forward : list_all is_forward xs ≡ true)
    (says : is_forward (get_or xs i d) ≡ true → IsTrue b ↔ HasOther (get_or xs i d)) where
  its_answer : IsTrue b ↔ HasOther (get_or xs i d)
  its_answer = says (all_at is_forward xs i d lt forward)

  pub none_more : b ≡ false → All (λ x. ¬ (HasOther x)) (take i xs)
      → All (λ x. ¬ (HasOther x)) (take (i + 1) xs)
  none_more fails all =
      All-more (λ x. ¬ (HasOther x)) xs i d lt all
      (λ h. true≢false (sym (its_answer.1 h) ∙ fails))

  pub one_found : b ≡ true → ListsOther xs
  one_found holds =
      let (c, other, h) = its_answer.0 holds in
      (c, other, list_any_at (in_archetype c) xs i d lt h)

pub none_found : (xs : List Archetype) (i : ℕ) → length xs ≤ i → All (λ x. ¬ (HasOther x)) (take i xs)
    → ListsOther xs → ⊥
none_found xs i le all h =
    none_listed xs (subst (All (λ x. ¬ (HasOther x))) (take_all i xs le) all) h
