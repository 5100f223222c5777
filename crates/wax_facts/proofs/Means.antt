-- A token means a text where one of its alternatives does.
use Rattle.std.proofs.Common.{◌≡◌, ℕ, ◌≤◌, ◌==◌, ◌⊎◌, Bool, true, false, List, [], ◌∷◌, ◌++◌, Option, Some}
use Rattle.std.proofs.Common.{None, if◌then◌else◌, refl, sym, subst, inl, inr, arith, eqb-true}
use Rattle.std.proofs.lemmas.Bool.{and_parts}
use Rattle.wax_query.specs.Ranges.{AtMost}
use Rattle.wax_token.specs.Meaning.{Copies, Means, MeansEach, MeansSome}
use Rattle.wax_token.specs.Syntax.{Tree, leaf, alternation, concatenation, repetition, Trees, none, more}
use Rattle.wax_token.specs.Words.{members, trees}
use Rattle.wax_facts.specs.Alternatives.{MeansOneOf, alternatives, beside, is_exactly_one, joined, levels}
use Rattle.wax_facts.specs.Alternatives.{levels_each}

-- ---- what is within a token
pub as_members : {A : Type 0} (t : Tree A) (b a : Bool) (s : List ℕ) → Means t b a s
    → MeansEach (members t) b a s
as_members (leaf x l) b a s h = h
as_members (alternation x ts) b a s h = h
as_members (concatenation x ts) b a s h = h
as_members (repetition x t low high) b a s h = h

pub of_members : {A : Type 0} (t : Tree A) (b a : Bool) (s : List ℕ)
    → MeansEach (members t) b a s → Means t b a s
of_members (leaf x l) b a s h = h
of_members (alternation x ts) b a s h = h
of_members (concatenation x ts) b a s h = h
of_members (repetition x t low high) b a s h = h

-- ---- alternatives
both_one : (low n : ℕ) → is_exactly_one low (Some n) ≡ true → (low ≡ 1) × (n ≡ 1)
both_one low n e =
    let p : ((low == 1) ≡ true) × ((n == 1) ≡ true) = and_parts (low == 1) (n == 1) e in
    (eqb-true low 1 p.0, eqb-true n 1 p.1)

module _ {A : Type 0} (before after : Bool) (s : List ℕ) where
  -- one of the tokens means the text
  abbrev Of : List (Tree A) → Type 0
  Of ts = MeansSome (trees ts) before after s

  -- as many copies of the token
  abbrev Repeats : Tree A → ℕ → Option ℕ → Type 0
  Repeats t low high = (k : ℕ) × (low ≤ k) × AtMost k high × Copies k (Means t) before after s

  left : (ts us : List (Tree A)) → Of ts → Of (ts ++ us)
  left [] us h = absurd h
  left (t ∷ ts) us (inl h) = inl h
  left (t ∷ ts) us (inr h) = inr (left ts us h)

  right : (ts us : List (Tree A)) → Of us → Of (ts ++ us)
  right [] us h = h
  right (t ∷ ts) us h = inr (right ts us h)

  split : (ts us : List (Tree A)) → Of (ts ++ us) → Of ts ⊎ Of us
  split [] us h = inr h
  split (t ∷ ts) us (inl h) = inl (inl h)
  split (t ∷ ts) us (inr h) = elim (split ts us h) [ inl k ↦ inl (inr k) | inr k ↦ inr k ]

  beside_left : (xs ys : List (List (Tree A))) → Of (joined xs) → Of (joined (beside xs ys))
  beside_left [] ys h = absurd h
  beside_left (x ∷ xs) [] h = h
  beside_left (x ∷ xs) (y ∷ ys) h = elim (split x (joined xs) h) [
    | inl k ↦ left (x ++ y) (joined (beside xs ys)) (left x y k)
    | inr k ↦ right (x ++ y) (joined (beside xs ys)) (beside_left xs ys k)
  ]

  beside_right : (xs ys : List (List (Tree A))) → Of (joined ys) → Of (joined (beside xs ys))
  beside_right [] ys h = h
  beside_right (x ∷ xs) [] h = absurd h
  beside_right (x ∷ xs) (y ∷ ys) h = elim (split y (joined ys) h) [
    | inl k ↦ left (x ++ y) (joined (beside xs ys)) (right x y k)
    | inr k ↦ right (x ++ y) (joined (beside xs ys)) (beside_right xs ys k)
  ]

  beside_split : (xs ys : List (List (Tree A))) → Of (joined (beside xs ys)) → Of (joined xs) ⊎ Of (joined ys)
  beside_split [] ys h = inr h
  beside_split (x ∷ xs) [] h = inl h
  beside_split (x ∷ xs) (y ∷ ys) h = elim (split (x ++ y) (joined (beside xs ys)) h) [
    | inl k ↦ elim (split x y k) [
      | inl m ↦ inl (left x (joined xs) m)
      | inr m ↦ inr (left y (joined ys) m)
    ]
    | inr k ↦ elim (beside_split xs ys k) [
      | inl m ↦ inl (right x (joined xs) m)
      | inr m ↦ inr (right y (joined ys) m)
    ]
  ]

  -- exactly one copy is the token itself
  once : (t : Tree A) (low : ℕ) (high : Option ℕ) → is_exactly_one low high ≡ true →
      Repeats t low high → Means t before after s
  once t low None e h = absurd (let n : ⊥ = cc in n)
  once t low (Some n) e h =
      let k : h.0 ≡ 1 = omega (arith, h.1, h.2, both_one low n e) in
      subst (λ z. Copies z (Means t) before after s) k h.3

  one_copy : (t : Tree A) (low : ℕ) (high : Option ℕ) → is_exactly_one low high ≡ true →
      Means t before after s → Repeats t low high
  one_copy t low None e h = absurd (let n : ⊥ = cc in n)
  one_copy t low (Some n) e h = (1, omega (arith, both_one low n e), omega (arith, both_one low n e), h)

  mutual
    into : (t : Tree A) → Means t before after s → Of (joined (levels t))
    into (leaf a l) h = inl h
    into (alternation a none) h = absurd h
    into (alternation a (more t none)) h = elim h [ inl k ↦ into t k | inr k ↦ absurd k ]
    into (alternation a (more t (more u us))) h = into_each (more t (more u us)) h
    into (concatenation a none) h = inl h
    into (concatenation a (more t none)) h = into t h
    into (concatenation a (more t (more u us))) h = inl h
    into (repetition a t low high) h = elim (is_exactly_one low high) as
        (λ r. is_exactly_one low high ≡ r
        → Of (joined (if r then levels t else (repetition a t low high ∷ []) ∷ []))) [
          | true ↦ λ e. into t (once t low high e h)
          | false ↦ λ e. inl h
        ] refl

    into_each : (ts : Trees A) → MeansSome ts before after s → Of (joined (levels_each ts))
    into_each none h = absurd h
    into_each (more t ts) (inl h) = beside_left (levels t) (levels_each ts) (into t h)
    into_each (more t ts) (inr h) = beside_right (levels t) (levels_each ts) (into_each ts h)

  sole : (t : Tree A) → Of (joined ((t ∷ []) ∷ [])) → Means t before after s
  sole t h = elim h [ inl k ↦ k | inr k ↦ absurd k ]

  mutual
    back : (t : Tree A) → Of (joined (levels t)) → Means t before after s
    back (leaf a l) h = sole (leaf a l) h
    back (alternation a none) h = absurd h
    back (alternation a (more t none)) h = inl (back t h)
    back (alternation a (more t (more u us))) h = back_each (more t (more u us)) h
    back (concatenation a none) h = sole (concatenation a none) h
    back (concatenation a (more t none)) h = back t h
    back (concatenation a (more t (more u us))) h = sole (concatenation a (more t (more u us))) h
    back (repetition a t low high) h = elim (is_exactly_one low high) as
        (λ r. is_exactly_one low high ≡ r
        → Of (joined (if r then levels t else (repetition a t low high ∷ []) ∷ []))
        → Repeats t low high) [
          | true ↦ λ e k. one_copy t low high e (back t k)
          | false ↦ λ e k. sole (repetition a t low high) k
        ] refl h

    back_each : (ts : Trees A) → Of (joined (levels_each ts)) → MeansSome ts before after s
    back_each none h = absurd h
    back_each (more t ts) h = elim (beside_split (levels t) (levels_each ts) h) [
      | inl k ↦ inl (back t k)
      | inr k ↦ inr (back_each ts k)
    ]

pub means_one_of : {A : Type 0} (t : Tree A) (ts : List (Tree A)) → ts ≡ alternatives t → MeansOneOf t ts
means_one_of t ts e =
    subst (MeansOneOf t) (sym e) (λ before after s. (into before after s t, back before after s t))
