-- Intervals whose numbers stay at the greatest: hulls and sums come out as of the intervals themselves.
use Rattle.std.proofs.Common.{◌+◌, ◌∙◌, ◌≡◌, None, Option, Some, ℕ, ap, arith, max, min, refl, sym}
use Rattle.wax_components.specs.Depth.{saturated_bound}
use Rattle.wax_components.specs.inner.Intervals.{Interval, bound_sum, greater_bound, hull, interval_sum}
use Rattle.wax_components.specs.inner.Intervals.{saturated_interval}

module _ (k : ℕ) where
  of_max : (m n : ℕ) → max (min m k) (min n k) ≡ min (max m n) k
  of_max m n = omega arith

  of_min : (m n : ℕ) → min (min m k) (min n k) ≡ min (min m n) k
  of_min m n = omega arith

  of_sum : (m n : ℕ) → min (min m k + min n k) k ≡ min (m + n) k
  of_sum m n = omega arith

  of_one : (n : ℕ) → min (min n k) k ≡ min n k
  of_one n = omega arith

  greater_bound_saturated : (g h : Option ℕ) → greater_bound (saturated_bound k g) (saturated_bound k h)
      ≡ saturated_bound k (greater_bound g h)
  greater_bound_saturated None h = refl
  greater_bound_saturated (Some m) None = refl
  greater_bound_saturated (Some m) (Some n) = ap (λ z. Some z) (of_max m n)

  pub hull_saturated : (a b : Interval) → hull (saturated_interval k a) (saturated_interval k b)
      ≡ saturated_interval k (hull a b)
  hull_saturated None b = refl
  hull_saturated (Some x) None = refl
  hull_saturated (Some x) (Some y) =
      ap (λ z. Some (z, greater_bound (saturated_bound k x.1) (saturated_bound k y.1))) (of_min x.0 y.0)
      ∙ ap (λ z. Some (min (min x.0 y.0) k, z)) (greater_bound_saturated x.1 y.1)

  bound_sum_saturated : (g h : Option ℕ) → saturated_bound k
      (bound_sum (saturated_bound k g) (saturated_bound k h)) ≡ saturated_bound k (bound_sum g h)
  bound_sum_saturated None h = refl
  bound_sum_saturated (Some m) None = refl
  bound_sum_saturated (Some m) (Some n) = ap (λ z. Some z) (of_sum m n)

  interval_sum_saturated : (a b : Interval)
      → saturated_interval k (interval_sum (saturated_interval k a) (saturated_interval k b))
      ≡ saturated_interval k (interval_sum a b)
  interval_sum_saturated None b = refl
  interval_sum_saturated (Some x) None = refl
  interval_sum_saturated (Some x) (Some y) =
      ap (λ z. Some (z, saturated_bound k (bound_sum (saturated_bound k x.1) (saturated_bound k y.1))))
      (of_sum x.0 y.0)
      ∙ ap (λ z. Some (min (x.0 + y.0) k, z)) (bound_sum_saturated x.1 y.1)

  saturated_bound_twice : (h : Option ℕ) → saturated_bound k (saturated_bound k h) ≡ saturated_bound k h
  saturated_bound_twice None = refl
  saturated_bound_twice (Some n) = ap (λ z. Some z) (of_one n)

  pub saturated_interval_twice : (d : Interval) → saturated_interval k (saturated_interval k d)
      ≡ saturated_interval k d
  saturated_interval_twice None = refl
  saturated_interval_twice (Some x) =
      ap (λ z. Some (z, saturated_bound k (saturated_bound k x.1))) (of_one x.0)
      ∙ ap (λ z. Some (min x.0 k, z)) (saturated_bound_twice x.1)

  -- intervals that differ only past the greatest number have such sums and hulls
  pub interval_sum_close : (a b c d : Interval) → saturated_interval k a ≡ saturated_interval k c
      → saturated_interval k b ≡ saturated_interval k d →
      saturated_interval k (interval_sum a b) ≡ saturated_interval k (interval_sum c d)
  interval_sum_close a b c d e g =
      sym (interval_sum_saturated a b)
      ∙ ap (λ z. saturated_interval k (interval_sum z (saturated_interval k b))) e
      ∙ ap (λ z. saturated_interval k (interval_sum (saturated_interval k c) z)) g
      ∙ interval_sum_saturated c d

  pub hull_close : (a b c d : Interval) → saturated_interval k a ≡ saturated_interval k c
      → saturated_interval k b ≡ saturated_interval k d →
      saturated_interval k (hull a b) ≡ saturated_interval k (hull c d)
  hull_close a b c d e g =
      sym (hull_saturated a b) ∙ ap (λ z. hull z (saturated_interval k b)) e
      ∙ ap (λ z. hull (saturated_interval k c) z) g ∙ hull_saturated c d
