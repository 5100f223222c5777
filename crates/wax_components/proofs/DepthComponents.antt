-- From the numbers of `/` to those of components, and to the depth.
use Rattle.std.proofs.Common.{if◌then◌else◌, ◌+◌, ◌-◌, ◌==◌, ◌∙◌, ◌∷◌, ◌≡◌, ◌≤◌, ◌⊎◌, Bool, List, None}
use Rattle.std.proofs.Common.{Option, Some, ℕ, [], ap, arith, false, inl, inr, refl, sym, true}
use Rattle.wax_query.specs.Components.{component_total, first_slash, last_slash, slashes}
use Rattle.wax_token.specs.Syntax.{Tree}
use Rattle.wax_components.specs.{Depth.{Depth, HasComponents, IsGreatest}, declared.profile.Profile.Profile}
use Rattle.wax_components.specs.inner.Intervals.{Interval, hull, or_zero}
use Rattle.wax_components.specs.inner.Shapes.{Shape, empty, ended, joined_shape, shape}
use Rattle.wax_components.specs.inner.TreeProfiles.{component_bound, component_count, component_hull}
use Rattle.wax_components.specs.inner.TreeProfiles.{component_interval, tree_profile}
use Rattle.wax_components.proofs.{Exact.{Exact, Has}, Hulls.{IsHull, hull_same, hull_union}}
use Rattle.wax_components.proofs.{Shapes.{shape_empty, shape_of_some}, Trees.exact_tree_profile}

first_is : (c : ℕ) (s : List ℕ) (x y : Bool) → shape (c ∷ s) ≡ ended x y
    → first_slash (c ∷ s) ≡ (if x then 1 else 0)
first_is c [] x y e = let f : (c == 47) ≡ x = cc in ap (λ b. if b then 1 else 0) f
first_is c (d ∷ s) x y e =
    let r : (x : Bool) × (y : Bool) × (shape (d ∷ s) ≡ ended x y) = shape_of_some d s in
    let f : ended (c == 47) r.1 ≡ ended x y =
    sym (ap (λ z. joined_shape (ended (c == 47) (c == 47)) z) r.2) ∙ e in
    let g : (c == 47) ≡ x = cc in ap (λ b. if b then 1 else 0) g

last_is : (c : ℕ) (s : List ℕ) (x y : Bool) → shape (c ∷ s) ≡ ended x y
    → last_slash (c ∷ s) ≡ (if y then 1 else 0)
last_is c [] x y e = let f : (c == 47) ≡ y = cc in ap (λ b. if b then 1 else 0) f
last_is c (d ∷ s) x y e =
    let r : (x : Bool) × (y : Bool) × (shape (d ∷ s) ≡ ended x y) = shape_of_some d s in
    let f : ended (c == 47) r.1 ≡ ended x y =
    sym (ap (λ z. joined_shape (ended (c == 47) (c == 47)) z) r.2) ∙ e in
    let g : r.1 ≡ y = cc in
    last_is d s r.0 y (r.2 ∙ ap (λ z. ended r.0 z) g)

pub components_at : (s : List ℕ) (a : Shape) → shape s ≡ a → component_total s ≡ component_count a (slashes s)
components_at [] empty e = refl
components_at [] (ended x y) e = absurd (let f : ⊥ = cc in f)
components_at (c ∷ s) empty e = absurd (let r : (x : Bool) × (y : Bool) × (shape (c ∷ s) ≡ ended x y) =
    shape_of_some c s in let f : empty ≡ ended r.0 r.1 = sym e ∙ r.2 in let g : ⊥ = cc in g)
components_at (c ∷ s) (ended x y) e =
    ap (λ z. slashes (c ∷ s) + 1 - z - last_slash (c ∷ s)) (first_is c s x y e)
    ∙ ap (λ z. slashes (c ∷ s) + 1 - (if x then 1 else 0) - z) (last_is c s x y e)

rises : (a : Shape) (m n : ℕ) → m ≤ n → component_count a m ≤ component_count a n
rises empty m n le = omega arith
rises (ended x y) m n le = omega (arith, le)

module _ {r : Profile} {P : List ℕ → Type 0} (f : Exact r P) where
  abbrev NumberOf : Shape → ℕ → Type 0
  NumberOf a n = (s : List ℕ) × P s × (shape s ≡ a) × (component_total s ≡ n)

  numbered : (a : Shape) (n : ℕ) → Has P a n → NumberOf a (component_count a n)
  numbered a n h = (h.0, h.1, h.2, components_at h.0 a h.2 ∙ ap (component_count a) h.3)

  at_least : (a : Shape) (m : ℕ) → ((n : ℕ) → Has P a n → m ≤ n) → (n : ℕ) → NumberOf a n
      → component_count a m ≤ n
  at_least a m h n k =
      let le : component_count a m ≤ component_count a (slashes k.0) =
      rises a m (slashes k.0) (h (slashes k.0) (k.0, k.1, k.2, refl)) in
      omega (arith, le, components_at k.0 a k.2, k.3)

  at_most : (a : Shape) (m : ℕ) → ((n : ℕ) → Has P a n → n ≤ m) → (n : ℕ) → NumberOf a n
      → n ≤ component_count a m
  at_most a m h n k =
      let le : component_count a (slashes k.0) ≤ component_count a m =
      rises a (slashes k.0) m (h (slashes k.0) (k.0, k.1, k.2, refl)) in
      omega (arith, le, components_at k.0 a k.2, k.3)

  near : (x y : Bool) (n m : ℕ) → m + 2 ≤ n → m ≤ component_count (ended x y) n
  near true true n m le = omega (arith, le)
  near true false n m le = omega (arith, le)
  near false true n m le = omega (arith, le)
  near false false n m le = omega (arith, le)

  greatest_at : (a : Shape) (h : Option ℕ) → IsGreatest (Has P a) h
      → IsGreatest (NumberOf a) (component_bound a h)
  greatest_at empty None g = let w : (n : ℕ) × Has P empty n × (1 ≤ n) = g 1 in
      absurd
      (let e : slashes w.1.0 ≡ 0 = ap slashes (shape_empty w.1.0 w.1.2) in omega (arith, e, w.1.3, w.2))
  greatest_at (ended x y) None g = λ m. let w : (n : ℕ) × Has P (ended x y) n × (m + 2 ≤ n) = g (m + 2) in
      (component_count (ended x y) w.0, numbered (ended x y) w.0 w.1, near x y w.0 m w.2)
  greatest_at a (Some m) g = (numbered a m g.0, at_most a m g.1)

  hull_at : (a : Shape) (d : Interval) → IsHull d (Has P a) → IsHull (component_interval a d) (NumberOf a)
  hull_at a None h = λ n k. h (slashes k.0) (k.0, k.1, k.2, refl)
  hull_at a (Some x) h = ((numbered a x.0 h.0.0, at_least a x.0 h.0.1), greatest_at a x.1 h.1)

  abbrev Number : ℕ → Type 0
  Number n = (s : List ℕ) × P s × (component_total s ≡ n)

  abbrev Five : ℕ → Type 0
  Five n = NumberOf empty n ⊎ (NumberOf (ended false false) n
      ⊎ (NumberOf (ended false true) n ⊎ (NumberOf (ended true false) n ⊎ NumberOf (ended true true) n)))

  five_from : (n : ℕ) → Five n → Number n
  five_from n (inl h) = (h.0, h.1, h.3)
  five_from n (inr (inl h)) = (h.0, h.1, h.3)
  five_from n (inr (inr (inl h))) = (h.0, h.1, h.3)
  five_from n (inr (inr (inr (inl h)))) = (h.0, h.1, h.3)
  five_from n (inr (inr (inr (inr h)))) = (h.0, h.1, h.3)

  five_to : (n : ℕ) → Number n → Five n
  five_to n h = pick (shape h.0) refl
    where
      pick : (a : Shape) → shape h.0 ≡ a → Five n
      pick empty e = inl (h.0, h.1, e, h.2)
      pick (ended false false) e = inr (inl (h.0, h.1, e, h.2))
      pick (ended false true) e = inr (inr (inl (h.0, h.1, e, h.2)))
      pick (ended true false) e = inr (inr (inr (inl (h.0, h.1, e, h.2))))
      pick (ended true true) e = inr (inr (inr (inr (h.0, h.1, e, h.2))))

  abbrev n0 : Interval
  n0 = component_interval empty r.nothing

  abbrev n1 : Interval
  n1 = component_interval (ended false false) r.bare

  abbrev n2 : Interval
  n2 = component_interval (ended false true) r.ending

  abbrev n3 : Interval
  n3 = component_interval (ended true false) r.beginning

  abbrev n4 : Interval
  n4 = component_interval (ended true true) r.enclosed

  pub hull_components : IsHull (component_hull r) Number
  hull_components = hull_same Five Number five_from five_to (component_hull r)
      (hull_union (NumberOf empty) (λ n. NumberOf (ended false false) n
      ⊎ (NumberOf (ended false true) n ⊎ (NumberOf (ended true false) n ⊎ NumberOf (ended true true) n)))
      n0 (hull n1 (hull n2 (hull n3 n4)))
      (hull_at empty r.nothing (f.hulls empty))
      (hull_union (NumberOf (ended false false)) (λ n. NumberOf (ended false true) n
      ⊎ (NumberOf (ended true false) n ⊎ NumberOf (ended true true) n)) n1 (hull n2 (hull n3 n4))
      (hull_at (ended false false) r.bare (f.hulls (ended false false)))
      (hull_union (NumberOf (ended false true))
      (λ n. NumberOf (ended true false) n ⊎ NumberOf (ended true true) n) n2 (hull n3 n4)
      (hull_at (ended false true) r.ending (f.hulls (ended false true)))
      (hull_union (NumberOf (ended true false)) (NumberOf (ended true true)) n3 n4
      (hull_at (ended true false) r.beginning (f.hulls (ended true false)))
      (hull_at (ended true true) r.enclosed (f.hulls (ended true true)))))))

-- the number of the code is the depth
pub depth_exact : {A : Type 0} (t : Tree A) → Depth t (or_zero (component_hull (tree_profile t false false)))
depth_exact t = depth_from (component_hull (tree_profile t false false))
    (hull_components (exact_tree_profile t false false))
  where
    depth_from : (d : Interval) → IsHull d (HasComponents t) → Depth t (or_zero d)
    depth_from None h = inr (h, refl)
    depth_from (Some x) h = inl h
