-- Two ascending lists of numbers that are merged into one.
use Rattle.std.proofs.Common.{◌≡◌, ◌+◌, ◌<◌, ◌≤◌, ◌⊎◌, ◌↔◌, ◌++◌, inl, inr, ℕ, zero, suc, List, [], ◌∷◌}
use Rattle.std.proofs.Common.{Contains, ◌∙◌, ap, append_assoc, arith, drop, get_or, length, refl, subst, sym}
use Rattle.std.proofs.Common.{take, ◌-◌}
use Rattle.std.proofs.lemmas.List.Elements.{Contains-append_cases, Contains-append_left}
use Rattle.std.proofs.lemmas.List.Elements.{Contains-append_right, Contains-push, Contains-push_cases}
use Rattle.std.proofs.lemmas.List.{drop_more, take_rest}
use Rattle.std.specs.List.Sorted.{IsStrictlyIncreasing}

-- the numbers ascend, from `low` on
abbrev pub Rises : ℕ → List ℕ → Type 0
Rises low [] = Unit {0}
Rises low (x ∷ xs) = (low ≤ x) × Rises (x + 1) xs

rises_from : (low : ℕ) (xs : List ℕ) → IsStrictlyIncreasing xs → (0 < length xs → low ≤ get_or xs 0 0)
    → Rises low xs
rises_from low [] up least = tt
rises_from low (x ∷ xs) up least = (
  least (omega arith),
  rises_from (x + 1) xs
      (λ k lt. (let e : suc k + 1 ≡ suc (k + 1) = omega arith in
      subst (λ j. get_or xs k 0 < get_or (x ∷ xs) j 0) e (up (suc k) (omega (arith, lt)))))
      (λ some. (let e : get_or (x ∷ xs) 0 0 < get_or (x ∷ xs) 1 0 = up 0 (omega (arith, some)) in
      omega (arith, e))),
)

rises_up : (low : ℕ) (xs : List ℕ) → Rises low xs → IsStrictlyIncreasing xs
rises_up low [] r k lt = absurd (omega (arith, lt))
rises_up low (x ∷ []) r k lt = absurd (omega (arith, lt))
rises_up low (x ∷ y ∷ zs) r zero lt = let e : x + 1 ≤ y = r.1.0 in omega (arith, e)
rises_up low (x ∷ y ∷ zs) r (suc k) lt =
    let e : suc (k + 1) ≡ suc k + 1 = omega arith in
    subst (λ j. get_or (y ∷ zs) k 0 < get_or (x ∷ y ∷ zs) j 0) e
    (rises_up (x + 1) (y ∷ zs) r.1 k (omega (arith, lt)))

-- a number before a greater one
rises_between : (low a b : ℕ) (merged left right : List ℕ) → a < b → Rises low (merged ++ a ∷ left)
    → Rises low (merged ++ b ∷ right) → Rises low (merged ++ a ∷ b ∷ right)
rises_between low a b [] left right lt h g = (h.0, (omega (arith, lt), g.1))
rises_between low a b (x ∷ merged) left right lt h g =
    (h.0, rises_between (x + 1) a b merged left right lt h.1 g.1)

first_or_rest : (a : ℕ) (left : List ℕ) (n : ℕ) → Contains (a ∷ left) n → (a ≡ n) ⊎ Contains left n
first_or_rest a left n (zero, lt, e) = inl e
first_or_rest a left n (suc k, lt, e) = inr (k, omega (arith, lt), e)

first_of : (a : ℕ) (left : List ℕ) (n : ℕ) → a ≡ n → Contains (a ∷ left) n
first_of a left n e = (0, omega arith, e)

none_of : (n : ℕ) → Contains [] n → ⊥
none_of n h = absurd (let lt : h.0 < 0 = h.1 in omega (arith, lt))

-- `merged` and what is left of both lists are the numbers of both, and `merged` ascends up to what is left
pub record AreMerged (one other merged left right : List ℕ) : Type 0 where
  pub left_up : Rises 0 (merged ++ left)
  pub right_up : Rises 0 (merged ++ right)
  pub all : (n : ℕ) → (Contains one n ⊎ Contains other n)
      ↔ (Contains merged n ⊎ (Contains left n ⊎ Contains right n))

pub merged_none : (one other : List ℕ) → IsStrictlyIncreasing one → IsStrictlyIncreasing other
    → AreMerged one other [] one other
merged_none one other up rises = record {
  left_up = rises_from 0 one up (λ _. omega arith);
  right_up = rises_from 0 other rises (λ _. omega arith);
  all = λ n. ((λ h. inr h), (λ h. elim h [ inl g ↦ absurd (none_of n g) | inr g ↦ g ]));
}

merged_turned : (one other merged left right : List ℕ) → AreMerged one other merged left right
    → AreMerged other one merged right left
merged_turned one other merged left right are = record {
  left_up = are.right_up;
  right_up = are.left_up;
  all = λ n. (
    (λ h. elim ((are.all n).0 (elim h [ inl g ↦ inr g | inr g ↦ inl g ])) [
      | inl g ↦ inl g
      | inr (inl g) ↦ inr (inr g)
      | inr (inr g) ↦ inr (inl g)
    ]),
    (λ h. elim ((are.all n).1 (turned n h)) [ inl g ↦ inr g | inr g ↦ inl g ]),
  );
}
  where
    turned : (n : ℕ) → Contains merged n ⊎ (Contains right n ⊎ Contains left n)
        → Contains merged n ⊎ (Contains left n ⊎ Contains right n)
    turned n (inl g) = inl g
    turned n (inr (inl g)) = inr (inr g)
    turned n (inr (inr g)) = inr (inl g)

module _ (one other merged : List ℕ) (a b : ℕ) (left right : List ℕ)
    (are : AreMerged one other merged (a ∷ left) (b ∷ right)) where
  pub merged_left : a < b → AreMerged one other (merged ++ a ∷ []) left (b ∷ right)
  merged_left lt = record {
    left_up = subst (Rises 0) (sym (append_assoc merged (a ∷ []) left)) are.left_up;
    right_up = subst (Rises 0) (sym (append_assoc merged (a ∷ []) (b ∷ right)))
        (rises_between 0 a b merged left right lt are.left_up are.right_up);
    all = λ n. (
      (λ h. elim ((are.all n).0 h) [
        | inl g ↦ inl (Contains-append_left merged (a ∷ []) n g)
        | inr (inl g) ↦ elim (first_or_rest a left n g) [
          | inl e ↦ inl (subst (Contains (merged ++ a ∷ [])) e (Contains-push merged a))
          | inr rest ↦ inr (inl rest)
        ]
        | inr (inr g) ↦ inr (inr g)
      ]),
      (λ h. elim h [
        | inl g ↦ elim (Contains-push_cases merged a n g) [
          | inl old ↦ (are.all n).1 (inl old)
          | inr e ↦ (are.all n).1 (inr (inl (first_of a left n e)))
        ]
        | inr (inl g) ↦ (are.all n).1 (inr (inl (Contains-append_right (a ∷ []) left n g)))
        | inr (inr g) ↦ (are.all n).1 (inr (inr g))
      ]),
    );
  }

  pub merged_both : a ≡ b → AreMerged one other (merged ++ a ∷ []) left right
  merged_both same = record {
    left_up = subst (Rises 0) (sym (append_assoc merged (a ∷ []) left)) are.left_up;
    right_up = subst (Rises 0) (sym (append_assoc merged (a ∷ []) right))
        (subst (λ x. Rises 0 (merged ++ x ∷ right)) (sym same) are.right_up);
    all = λ n. (
      (λ h. elim ((are.all n).0 h) [
        | inl g ↦ inl (Contains-append_left merged (a ∷ []) n g)
        | inr (inl g) ↦ elim (first_or_rest a left n g) [
          | inl e ↦ inl (subst (Contains (merged ++ a ∷ [])) e (Contains-push merged a))
          | inr rest ↦ inr (inl rest)
        ]
        | inr (inr g) ↦ elim (first_or_rest b right n g) [
          | inl e ↦ inl (subst (Contains (merged ++ a ∷ [])) (same ∙ e) (Contains-push merged a))
          | inr rest ↦ inr (inr rest)
        ]
      ]),
      (λ h. elim h [
        | inl g ↦ elim (Contains-push_cases merged a n g) [
          | inl old ↦ (are.all n).1 (inl old)
          | inr e ↦ (are.all n).1 (inr (inl (first_of a left n e)))
        ]
        | inr (inl g) ↦ (are.all n).1 (inr (inl (Contains-append_right (a ∷ []) left n g)))
        | inr (inr g) ↦ (are.all n).1 (inr (inr (Contains-append_right (b ∷ []) right n g)))
      ]),
    );
  }

pub merged_right : (one other merged : List ℕ) (a b : ℕ) (left right : List ℕ)
    → AreMerged one other merged (a ∷ left) (b ∷ right) → b < a
    → AreMerged one other (merged ++ b ∷ []) (a ∷ left) right
merged_right one other merged a b left right are lt =
    merged_turned other one (merged ++ b ∷ []) right (a ∷ left)
    (merged_left other one merged b a right left
    (merged_turned one other merged (a ∷ left) (b ∷ right) are) lt)

-- ---- a number more
module _ (one other merged : List ℕ) (i j : ℕ) (low : i < length one) (under : j < length other)
    (are : AreMerged one other merged (drop i one) (drop j other)) where
  opened : AreMerged one other merged (get_or one i 0 ∷ drop (i + 1) one)
      (get_or other j 0 ∷ drop (j + 1) other)
  opened = subst (AreMerged one other merged (get_or one i 0 ∷ drop (i + 1) one)) (drop_more other j 0 under)
      (subst (λ z. AreMerged one other merged z (drop j other)) (drop_more one i 0 low) are)

  pub step_left : get_or one i 0 < get_or other j 0
      → AreMerged one other (merged ++ get_or one i 0 ∷ []) (drop (i + 1) one) (drop j other)
  step_left lt = subst (AreMerged one other (merged ++ get_or one i 0 ∷ []) (drop (i + 1) one))
      (sym (drop_more other j 0 under))
      (merged_left one other merged (get_or one i 0) (get_or other j 0) (drop (i + 1) one)
      (drop (j + 1) other) opened lt)

  pub step_right : get_or other j 0 < get_or one i 0
      → AreMerged one other (merged ++ get_or other j 0 ∷ []) (drop i one) (drop (j + 1) other)
  step_right lt =
      subst (λ z. AreMerged one other (merged ++ get_or other j 0 ∷ []) z (drop (j + 1) other))
      (sym (drop_more one i 0 low))
      (merged_right one other merged (get_or one i 0) (get_or other j 0) (drop (i + 1) one)
      (drop (j + 1) other) opened lt)

  pub step_both : get_or one i 0 ≡ get_or other j 0
      → AreMerged one other (merged ++ get_or one i 0 ∷ []) (drop (i + 1) one) (drop (j + 1) other)
  step_both = merged_both one other merged (get_or one i 0) (get_or other j 0) (drop (i + 1) one)
      (drop (j + 1) other) opened

-- at last nothing is left of one of the lists
pub merged_all : (one other merged left right : List ℕ) → AreMerged one other merged left right
    → (n : ℕ) → Contains ((merged ++ left) ++ right) n ↔ (Contains one n ⊎ Contains other n)
merged_all one other merged left right are n = (
  (λ h. elim (Contains-append_cases (merged ++ left) right n h) [
    | inl g ↦ elim (Contains-append_cases merged left n g) [
      | inl f ↦ (are.all n).1 (inl f)
      | inr f ↦ (are.all n).1 (inr (inl f))
    ]
    | inr g ↦ (are.all n).1 (inr (inr g))
  ]),
  (λ h. elim ((are.all n).0 h) [
    | inl g ↦ Contains-append_left (merged ++ left) right n (Contains-append_left merged left n g)
    | inr (inl g) ↦ Contains-append_left (merged ++ left) right n (Contains-append_right merged left n g)
    | inr (inr g) ↦ Contains-append_right (merged ++ left) right n g
  ]),
)

nil_end : (xs : List ℕ) → xs ++ [] ≡ xs
nil_end [] = refl
nil_end (x ∷ xs) = ap (λ z. x ∷ z) (nil_end xs)

pub merged_ascends : (one other merged left right : List ℕ) → AreMerged one other merged left right
    → (left ≡ []) ⊎ (right ≡ []) → IsStrictlyIncreasing ((merged ++ left) ++ right)
merged_ascends one other merged left right are (inl none) =
    rises_up 0 ((merged ++ left) ++ right) (subst (λ z. Rises 0 (z ++ right))
    (sym (ap (λ z. merged ++ z) none ∙ nil_end merged)) are.right_up)
merged_ascends one other merged left right are (inr none) =
    rises_up 0 ((merged ++ left) ++ right) (subst (λ z. Rises 0 ((merged ++ left) ++ z)) (sym none)
    (subst (Rises 0) (sym (nil_end (merged ++ left))) are.left_up))

pub rest_added : (one other merged first last : List ℕ) (i j : ℕ)
    → first ≡ merged ++ take (length one - i) (drop i one)
    → last ≡ first ++ take (length other - j) (drop j other)
    → last ≡ (merged ++ drop i one) ++ drop j other
rest_added one other merged first last i j e f = f ∙ ap (λ z. first ++ z) (take_rest other j)
    ∙ ap (λ z. z ++ drop j other) (e ∙ ap (λ z. merged ++ z) (take_rest one i))
