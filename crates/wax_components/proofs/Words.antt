-- The depth that is read from a profile whose numbers stay at the greatest of 128 bits.
use Rattle.std.proofs.Common.{if◌then◌else◌, ◌+◌, ◌-◌, ◌∙◌, ◌≡◌, ◌≤◌, Bool, List, None, Option, Some, ℕ, ap}
use Rattle.std.proofs.Common.{arith, false, inl, inr, min, refl, subst, sym, true}
use Rattle.wax_query.specs.{Components.{component_total, slashes}, Ranges.{AtMost, Bounds}}
use Rattle.wax_token.specs.Syntax.{Tree}
use Rattle.wax_components.specs.Bounds.{AtMostSaturated, BoundsComponents, SaturatedBounds}
use Rattle.wax_components.specs.Depth.{Depth, SaturatedDepth, saturated_bound, saturated_bounds, usize_max}
use Rattle.wax_components.specs.declared.profile.Profile.{Profile}
use Rattle.wax_components.specs.inner.Intervals.{Interval, hull, or_zero, saturated_interval}
use Rattle.wax_components.specs.inner.Saturation.{in_words, no_components, saturated_component_bound}
use Rattle.wax_components.specs.inner.Saturation.{saturated_components, saturated_depth, u128_max}
use Rattle.wax_components.specs.inner.Shapes.{empty, ended}
use Rattle.wax_components.specs.inner.TreeProfiles.{component_bound, component_count, component_hull}
use Rattle.wax_components.specs.inner.TreeProfiles.{component_interval, tree_profile}
use Rattle.wax_components.proofs.{Basics.bit_at_most, DepthComponents.depth_exact, Exact.{Exact, Has}}
use Rattle.wax_components.proofs.{Hulls.IsHull, Intervals.hull_close, Saturation.{Close, close_at}}
use Rattle.wax_components.proofs.{Shapes.shape_empty, Thinning.depth_bounds, Trees.exact_tree_profile}

abbrev cut : Interval → Interval
cut = saturated_interval usize_max

-- 128 bits are far above 64
far : (n e : ℕ) → e ≤ 2 → min (min (min n u128_max + 1) u128_max - e) usize_max
    ≡ min (min (n + 1) u128_max - e) usize_max
far n e le = omega (arith, le)

near : (n x y : ℕ) → x ≤ 1 → y ≤ 1 → min (min (n + 1) u128_max - (x + y)) usize_max
    ≡ min (n + 1 - x - y) usize_max
near n x y l m = omega (arith, l, m)

far_bound : (e : ℕ) → e ≤ 2 → (h : Option ℕ)
    → saturated_bound usize_max (saturated_component_bound e (saturated_bound u128_max h))
    ≡ saturated_bound usize_max (saturated_component_bound e h)
far_bound e le None = refl
far_bound e le (Some n) = ap (λ z. Some z) (far n e le)

far_components : (e : ℕ) → e ≤ 2 → (d : Interval)
    → cut (saturated_components e (saturated_interval u128_max d)) ≡ cut (saturated_components e d)
far_components e le None = refl
far_components e le (Some x) =
    ap (λ z. Some (z, saturated_bound usize_max (saturated_component_bound e (saturated_bound u128_max x.1))))
    (far x.0 e le) ∙ ap (λ z. Some (min (min (x.0 + 1) u128_max - e) usize_max, z)) (far_bound e le x.1)

components_close : (e : ℕ) → e ≤ 2 → (d f : Interval) → saturated_interval u128_max d
    ≡ saturated_interval u128_max f → cut (saturated_components e d) ≡ cut (saturated_components e f)
components_close e le d f g = sym (far_components e le d) ∙ ap (λ z. cut (saturated_components e z)) g
    ∙ far_components e le f

abbrev one_if : Bool → ℕ
one_if x = if x then 1 else 0

near_bound : (x y : Bool) (h : Option ℕ)
    → saturated_bound usize_max (saturated_component_bound (one_if x + one_if y) h)
    ≡ saturated_bound usize_max (component_bound (ended x y) h)
near_bound x y None = refl
near_bound x y (Some n) = ap (λ z. Some z) (near n (one_if x) (one_if y) (bit_at_most x) (bit_at_most y))

near_components : (x y : Bool) (d : Interval) → cut (saturated_components (one_if x + one_if y) d)
    ≡ cut (component_interval (ended x y) d)
near_components x y None = refl
near_components x y (Some n) =
    ap (λ z. Some (z, saturated_bound usize_max (saturated_component_bound (one_if x + one_if y) n.1)))
    (near n.0 (one_if x) (one_if y) (bit_at_most x) (bit_at_most y))
    ∙ ap (λ z. Some (min (component_count (ended x y) n.0) usize_max, z)) (near_bound x y n.1)

ended_components : (x y : Bool) (e : ℕ) → e ≡ one_if x + one_if y → e ≤ 2
    → (d f : Interval) → saturated_interval u128_max d ≡ saturated_interval u128_max f
    → cut (saturated_components e d) ≡ cut (component_interval (ended x y) f)
ended_components x y e i le d f g = components_close e le d f g ∙ ap (λ z. cut (saturated_components z f)) i
    ∙ near_components x y f

-- the empty text, whose greatest number is there
no_components_close : (d f : Interval) → saturated_interval u128_max d ≡ saturated_interval u128_max f
    → ((low : ℕ) → f ≡ Some (low, None) → ⊥) → cut (no_components d) ≡ cut (component_interval empty f)
no_components_close None None e h = refl
no_components_close None (Some y) e h = absurd (let g : ⊥ = cc in g)
no_components_close (Some x) None e h = absurd (let g : ⊥ = cc in g)
no_components_close (Some x) (Some (low, None)) e h = absurd (h low refl)
no_components_close (Some x) (Some (low, Some high)) e h = refl

in_words_cut : (d f : Interval) → cut d ≡ cut f → in_words d ≡ in_words f
in_words_cut d f e = ap or_zero e

words_of : (d : Interval) → in_words d ≡ saturated_bounds usize_max (or_zero d)
words_of None = refl
words_of (Some x) = refl

-- the empty text has no `/`
nothing_high : {r : Profile} {P : List ℕ → Type 0} → Exact r P → (low : ℕ) → r.nothing ≡ Some (low, None) → ⊥
nothing_high {r} {P} f low e =
    let h : IsHull (Some (low, None)) (Has P empty) = subst (λ z. IsHull z (Has P empty)) e (f.hulls empty) in
    let w : (n : ℕ) × Has P empty n × (1 ≤ n) = h.1 1 in
    let g : slashes w.1.0 ≡ 0 = ap slashes (shape_empty w.1.0 w.1.2) in
    omega (arith, g, w.1.3, w.2)

module _ {A : Type 0} (t : Tree A) (c : Profile) (e : Close c (tree_profile t false false)) where
  abbrev exact : Profile
  exact = tree_profile t false false

  same : cut (saturated_depth c) ≡ cut (component_hull exact)
  same =
      hull_close usize_max (no_components c.nothing)
      (hull (saturated_components 0 c.bare) (hull (saturated_components 1 c.ending)
      (hull (saturated_components 1 c.beginning) (saturated_components 2 c.enclosed))))
      (component_interval empty exact.nothing) (hull (component_interval (ended false false) exact.bare)
      (hull (component_interval (ended false true) exact.ending) (hull (component_interval
      (ended true false) exact.beginning) (component_interval (ended true true) exact.enclosed))))
      (no_components_close c.nothing exact.nothing (close_at c exact e empty)
      (nothing_high (exact_tree_profile t false false)))
      (hull_close usize_max (saturated_components 0 c.bare) (hull (saturated_components 1 c.ending)
      (hull (saturated_components 1 c.beginning) (saturated_components 2 c.enclosed)))
      (component_interval (ended false false) exact.bare)
      (hull (component_interval (ended false true) exact.ending) (hull (component_interval
      (ended true false) exact.beginning) (component_interval (ended true true) exact.enclosed)))
      (ended_components false false 0 refl (omega arith) c.bare exact.bare
      (close_at c exact e (ended false false)))
      (hull_close usize_max (saturated_components 1 c.ending)
      (hull (saturated_components 1 c.beginning) (saturated_components 2 c.enclosed))
      (component_interval (ended false true) exact.ending) (hull (component_interval
      (ended true false) exact.beginning) (component_interval (ended true true) exact.enclosed))
      (ended_components false true 1 refl (omega arith) c.ending exact.ending
      (close_at c exact e (ended false true)))
      (hull_close usize_max (saturated_components 1 c.beginning) (saturated_components 2 c.enclosed)
      (component_interval (ended true false) exact.beginning)
      (component_interval (ended true true) exact.enclosed)
      (ended_components true false 1 refl (omega arith) c.beginning exact.beginning
      (close_at c exact e (ended true false)))
      (ended_components true true 2 refl (omega arith) c.enclosed exact.enclosed
      (close_at c exact e (ended true true))))))

  pub saturated_depth_of : (s : Bounds) → s ≡ in_words (saturated_depth c) → SaturatedDepth t s
  saturated_depth_of s i = (
    or_zero (component_hull exact),
    depth_exact t,
    i ∙ in_words_cut (saturated_depth c) (component_hull exact) same ∙ words_of (component_hull exact),
  )

-- ---- what the depth says of texts, in 64 bits
below : (n : ℕ) (high : Option ℕ) → AtMost n high → AtMostSaturated n (saturated_bound usize_max high)
below n None le = tt
below n (Some high) le = λ lt. omega (arith, le, lt)

pub saturated_bounds_of : {A : Type 0} (t : Tree A) (s : Bounds) → SaturatedDepth t s → SaturatedBounds t s
saturated_bounds_of t s h = record {
  least = λ x m bare. let le : h.0.0 ≤ component_total x = b.least x m bare in omega (arith, le, low);
  greatest = λ x m. subst (AtMostSaturated (component_total x)) (sym high)
      (below (component_total x) h.0.1 (b.greatest x m));
}
  where
    b : BoundsComponents t h.0
    b = depth_bounds t h.0 h.1

    low : s.0 ≡ min h.0.0 usize_max
    low = ap (λ z. z.0) h.2

    high : s.1 ≡ saturated_bound usize_max h.0.1
    high = ap (λ z. z.1) h.2

-- ---- the least number is at most the greatest
in_order : {A : Type 0} (t : Tree A) (low : ℕ) (high : Option ℕ) → Depth t (low, high) → AtMost low high
in_order t low None h = tt
in_order t low (Some high) (inl h) = h.1.1 low h.0.0
in_order t low (Some high) (inr h) = let e : low ≡ 0 = ap (λ z. z.0) h.1 in omega (arith, e)

pub saturated_in_order : {A : Type 0} (t : Tree A) (s : Bounds) → SaturatedDepth t s → AtMost s.0 s.1
saturated_in_order t s h =
    subst (λ z. AtMost z.0 z.1) (sym h.2) (saturated h.0.0 h.0.1 (in_order t h.0.0 h.0.1 h.1))
  where
    saturated : (low : ℕ) (high : Option ℕ) → AtMost low high
        → AtMost (min low usize_max) (saturated_bound usize_max high)
    saturated low None le = tt
    saturated low (Some high) le = omega (arith, le)
