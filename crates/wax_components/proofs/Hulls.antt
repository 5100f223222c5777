-- The least and the greatest number of a set, of two sets together, and of the sums of their members.
use Rattle.std.proofs.Common.{◌+◌, ◌≡◌, ◌≤◌, ◌⊎◌, None, Option, Some, ℕ, arith, inl, inr, max, min, refl}
use Rattle.std.proofs.Common.{subst, sym}
use Rattle.wax_components.specs.Depth.{IsGreatest, IsLeast}
use Rattle.wax_components.specs.inner.Intervals.{Interval, bound_sum, greater_bound, hull, interval_sum}

abbrev pub IsHull : Interval → (ℕ → Type 0) → Type 0
IsHull None X = (n : ℕ) → X n → ⊥
IsHull (Some x) X = IsLeast X x.0 × IsGreatest X x.1

abbrev pub Plus : (ℕ → Type 0) → (ℕ → Type 0) → ℕ → Type 0
Plus X Y n = (i : ℕ) × (j : ℕ) × X i × Y j × (n ≡ i + j)

pub is_smaller : (m n : ℕ) → (min m n ≡ m) ⊎ (min m n ≡ n)
is_smaller m n = grind arith

pub is_larger : (m n : ℕ) → (max m n ≡ m) ⊎ (max m n ≡ n)
is_larger m n = grind arith

module _ (X Y : ℕ → Type 0) where
  module _ (to : (n : ℕ) → X n → Y n) (from : (n : ℕ) → Y n → X n) where
    greatest_same : (h : Option ℕ) → IsGreatest X h → IsGreatest Y h
    greatest_same None g = λ m. let r : (n : ℕ) × X n × (m ≤ n) = g m in (r.0, to r.0 r.1, r.2)
    greatest_same (Some high) g = (to high g.0, λ n y. g.1 n (from n y))

    pub hull_same : (d : Interval) → IsHull d X → IsHull d Y
    hull_same None f = λ n y. f n (from n y)
    hull_same (Some x) f = ((to x.0 f.0.0, λ n y. f.0.1 n (from n y)), greatest_same x.1 f.1)

  least_both : (m n : ℕ) → IsLeast X m → IsLeast Y n → IsLeast (λ k. X k ⊎ Y k) (min m n)
  least_both m n f g = (
    elim (is_smaller m n) [
      | inl e ↦ subst (λ k. X k ⊎ Y k) (sym e) (inl f.0)
      | inr e ↦ subst (λ k. X k ⊎ Y k) (sym e) (inr g.0)
    ],
    λ k h. elim h [
      | inl x ↦ (let le : m ≤ k = f.1 k x in omega (arith, le))
      | inr y ↦ (let le : n ≤ k = g.1 k y in omega (arith, le))
    ],
  )

  greatest_both : (g h : Option ℕ) → IsGreatest X g → IsGreatest Y h
      → IsGreatest (λ k. X k ⊎ Y k) (greater_bound g h)
  greatest_both None h f g = λ m. let r : (n : ℕ) × X n × (m ≤ n) = f m in (r.0, inl r.1, r.2)
  greatest_both (Some a) None f g = λ m. let r : (n : ℕ) × Y n × (m ≤ n) = g m in (r.0, inr r.1, r.2)
  greatest_both (Some a) (Some b) f g = (
    elim (is_larger a b) [
      | inl e ↦ subst (λ k. X k ⊎ Y k) (sym e) (inl f.0)
      | inr e ↦ subst (λ k. X k ⊎ Y k) (sym e) (inr g.0)
    ],
    λ k h. elim h [
      | inl x ↦ (let le : k ≤ a = f.1 k x in omega (arith, le))
      | inr y ↦ (let le : k ≤ b = g.1 k y in omega (arith, le))
    ],
  )

  pub hull_union : (d e : Interval) → IsHull d X → IsHull e Y → IsHull (hull d e) (λ k. X k ⊎ Y k)
  hull_union None None f g = λ n h. elim h [ inl x ↦ f n x | inr y ↦ g n y ]
  hull_union None (Some y) f g = (
    (inr g.0.0, λ n h. elim h [ inl k ↦ absurd (f n k) | inr k ↦ g.0.1 n k ]),
    right y.1 g.1,
  )
    where
      right : (h : Option ℕ) → IsGreatest Y h → IsGreatest (λ k. X k ⊎ Y k) h
      right None g = λ m. let r : (n : ℕ) × Y n × (m ≤ n) = g m in (r.0, inr r.1, r.2)
      right (Some high) g = (inr g.0, λ n h. elim h [ inl k ↦ absurd (f n k) | inr k ↦ g.1 n k ])
  hull_union (Some x) None f g = (
    (inl f.0.0, λ n h. elim h [ inl k ↦ f.0.1 n k | inr k ↦ absurd (g n k) ]),
    left x.1 f.1,
  )
    where
      left : (h : Option ℕ) → IsGreatest X h → IsGreatest (λ k. X k ⊎ Y k) h
      left None f = λ m. let r : (n : ℕ) × X n × (m ≤ n) = f m in (r.0, inl r.1, r.2)
      left (Some high) f = (inl f.0, λ n h. elim h [ inl k ↦ f.1 n k | inr k ↦ absurd (g n k) ])
  hull_union (Some x) (Some y) f g = (least_both x.0 y.0 f.0 g.0, greatest_both x.1 y.1 f.1 g.1)

  least_sum : (m n : ℕ) → IsLeast X m → IsLeast Y n → IsLeast (Plus X Y) (m + n)
  least_sum m n f g = (
    (m, n, f.0, g.0, refl),
    λ k h. let a : m ≤ h.0 = f.1 h.0 h.2 in let b : n ≤ h.1 = g.1 h.1 h.3 in omega (arith, a, b, h.4),
  )

  -- each set has a member
  greatest_sum : (m n : ℕ) → X m → Y n → (g h : Option ℕ) → IsGreatest X g → IsGreatest Y h
      → IsGreatest (Plus X Y) (bound_sum g h)
  greatest_sum m n p q None h f g = λ k. let r : (i : ℕ) × X i × (k ≤ i) = f k in
      (r.0 + n, (r.0, n, r.1, q, refl), omega (arith, r.2))
  greatest_sum m n p q (Some a) None f g = λ k. let r : (j : ℕ) × Y j × (k ≤ j) = g k in
      (m + r.0, (m, r.0, p, r.1, refl), omega (arith, r.2))
  greatest_sum m n p q (Some a) (Some b) f g = (
    (a, b, f.0, g.0, refl),
    λ k h. let l : h.0 ≤ a = f.1 h.0 h.2 in let r : h.1 ≤ b = g.1 h.1 h.3 in omega (arith, l, r, h.4),
  )

  pub hull_sum : (d e : Interval) → IsHull d X → IsHull e Y → IsHull (interval_sum d e) (Plus X Y)
  hull_sum None e f g = λ n h. f h.0 h.2
  hull_sum (Some x) None f g = λ n h. g h.1 h.3
  hull_sum (Some x) (Some y) f g =
      (least_sum x.0 y.0 f.0 g.0, greatest_sum x.0 y.0 f.0.0 g.0.0 x.1 y.1 f.1 g.1)
