-- A profile holds exactly the numbers of `/` of a set of texts: sets together, and texts one after another.
use Rattle.std.proofs.Common.{◌++◌, ◌+◌, ◌∙◌, ◌≡◌, ◌⊎◌, Bool, List, None, ℕ, [], ap, arith, false, inl, inr}
use Rattle.std.proofs.Common.{refl, sym, true}
use Rattle.wax_query.specs.Components.{slashes}
use Rattle.wax_token.proofs.Copies.{OneThen}
use Rattle.wax_components.specs.declared.profile.Profile.{Profile}
use Rattle.wax_components.specs.inner.Intervals.{Interval, hull, interval_sum}
use Rattle.wax_components.specs.inner.Profiles.{interval_at, concatenated, concatenated_at, empty_text}
use Rattle.wax_components.specs.inner.Profiles.{no_text, profile, union}
use Rattle.wax_components.specs.inner.Shapes.{Shape, empty, ended, joined_shape, shape}
use Rattle.wax_components.proofs.Hulls.{IsHull, Plus, hull_same, hull_sum, hull_union}
use Rattle.wax_components.proofs.Shapes.{both_empty, joined_from, not_ended, shape_append, slashes_append}

-- the numbers of `/` of the texts of a shape
abbrev pub Has : (List ℕ → Type 0) → Shape → ℕ → Type 0
Has P a n = (s : List ℕ) × P s × (shape s ≡ a) × (slashes s ≡ n)

pub record Exact (r : Profile) (P : List ℕ → Type 0) : Type 0 where
  pub hulls : (a : Shape) → IsHull (interval_at r a) (Has P a)

pub by_shape : (f : Shape → Interval) (P : List ℕ → Type 0) → ((a : Shape) → IsHull (f a) (Has P a))
    → Exact (profile f) P
by_shape f P h = record { hulls = each }
  where
    each : (a : Shape) → IsHull (interval_at (profile f) a) (Has P a)
    each empty = h empty
    each (ended false false) = h (ended false false)
    each (ended false true) = h (ended false true)
    each (ended true false) = h (ended true false)
    each (ended true true) = h (ended true true)

pub exact_same : {r : Profile} {P Q : List ℕ → Type 0} → ((s : List ℕ) → P s → Q s)
    → ((s : List ℕ) → Q s → P s) → Exact r P → Exact r Q
exact_same {r} {P} {Q} to from f = record {
  hulls = λ a. hull_same (Has P a) (Has Q a) (λ n h. (h.0, to h.0 h.1, h.2, h.3))
      (λ n h. (h.0, from h.0 h.1, h.2, h.3)) (interval_at r a) (f.hulls a);
}

pub exact_no_text : Exact no_text (λ s. ⊥)
exact_no_text = by_shape (λ a. None) (λ s. ⊥) (λ a n h. h.1)

pub exact_empty_text : Exact empty_text (λ s. s ≡ [])
exact_empty_text = record { hulls = each }
  where
    out : (x y : Bool) (n : ℕ) → Has (λ s. s ≡ []) (ended x y) n → ⊥
    out x y n h = not_ended x y (sym (ap shape h.1) ∙ h.2)

    each : (a : Shape) → IsHull (interval_at empty_text a) (Has (λ s. s ≡ []) a)
    each empty = (
      (([], refl, refl, refl), λ n h. omega arith),
      (([], refl, refl, refl), λ n h. let e : slashes h.0 ≡ 0 = ap slashes h.1 in omega (arith, e, h.3)),
    )
    each (ended false false) = out false false
    each (ended false true) = out false true
    each (ended true false) = out true false
    each (ended true true) = out true true

module _ {r q : Profile} {P Q : List ℕ → Type 0} (f : Exact r P) (g : Exact q Q) where
  pub exact_union : Exact (union r q) (λ s. P s ⊎ Q s)
  exact_union = by_shape (λ a. hull (interval_at r a) (interval_at q a)) (λ s. P s ⊎ Q s) (λ a.
      hull_same (λ n. Has P a n ⊎ Has Q a n) (Has (λ s. P s ⊎ Q s) a)
      (to a) (from a) (hull (interval_at r a) (interval_at q a))
      (hull_union (Has P a) (Has Q a) (interval_at r a) (interval_at q a) (f.hulls a) (g.hulls a)))
    where
      to : (a : Shape) (n : ℕ) → Has P a n ⊎ Has Q a n → Has (λ s. P s ⊎ Q s) a n
      to a n (inl h) = (h.0, inl h.1, h.2, h.3)
      to a n (inr h) = (h.0, inr h.1, h.2, h.3)

      from : (a : Shape) (n : ℕ) → Has (λ s. P s ⊎ Q s) a n → Has P a n ⊎ Has Q a n
      from a n h = elim h.1 [ inl p ↦ inl (h.0, p, h.2, h.3) | inr p ↦ inr (h.0, p, h.2, h.3) ]

  -- two texts, one after another
  together : (a b c : Shape) (n : ℕ) → joined_shape a b ≡ c → Plus (Has P a) (Has Q b) n
      → Has (OneThen P Q) c n
  together a b c n e h =
      let x : List ℕ = h.2.0 in
      let y : List ℕ = h.3.0 in (
        x ++ y,
        (x, y, refl, h.2.1, h.3.1),
        shape_append x y ∙ ap (λ z. joined_shape z (shape y)) h.2.2 ∙ ap (λ z. joined_shape a z) h.3.2 ∙ e,
        (let k : slashes (x ++ y) ≡ slashes x + slashes y = slashes_append x y in
            omega (arith, k, h.2.3, h.3.3, h.4)),
      )

  -- a text in two, with the shapes known
  apart : (a b : Shape) (x y : List ℕ) (n : ℕ) → P x → Q y → shape x ≡ a → shape y ≡ b → slashes (x ++ y) ≡ n
      → Plus (Has P a) (Has Q b) n
  apart a b x y n p k e g h =
      (slashes x, slashes y, (x, p, e, refl), (y, k, g, refl), sym h ∙ slashes_append x y)

  abbrev Begin : Bool → ℕ → Type 0
  Begin x n = Has P (ended x false) n ⊎ Has P (ended x true) n

  abbrev End : Bool → ℕ → Type 0
  End y n = Has Q (ended false y) n ⊎ Has Q (ended true y) n

  begin : (x w : Bool) (n : ℕ) → Has P (ended x w) n → Begin x n
  begin x false n h = inl h
  begin x true n h = inr h

  end : (z y : Bool) (n : ℕ) → Has Q (ended z y) n → End y n
  end false y n h = inl h
  end true y n h = inr h

  abbrev Ways : Bool → Bool → ℕ → Type 0
  Ways x y n = Plus (Has P empty) (Has Q (ended x y)) n
      ⊎ (Plus (Has P (ended x y)) (Has Q empty) n ⊎ Plus (Begin x) (End y) n)

  ways_to : (x y : Bool) (n : ℕ) → Ways x y n → Has (OneThen P Q) (ended x y) n
  ways_to x y n (inl h) = together empty (ended x y) (ended x y) n refl h
  ways_to x y n (inr (inl h)) = together (ended x y) empty (ended x y) n refl h
  ways_to x y n (inr (inr h)) = pick h.2 h.3
    where
      pick : Begin x h.0 → End y h.1 → Has (OneThen P Q) (ended x y) n
      pick (inl a) (inl b) = together (ended x false) (ended false y) (ended x y) n refl (h.0, h.1, a, b, h.4)
      pick (inl a) (inr b) = together (ended x false) (ended true y) (ended x y) n refl (h.0, h.1, a, b, h.4)
      pick (inr a) (inl b) = together (ended x true) (ended false y) (ended x y) n refl (h.0, h.1, a, b, h.4)
      pick (inr a) (inr b) = together (ended x true) (ended true y) (ended x y) n refl (h.0, h.1, a, b, h.4)

  ways_from : (x y : Bool) (n : ℕ) → Has (OneThen P Q) (ended x y) n → Ways x y n
  ways_from x y n h =
      let u : List ℕ = h.1.0 in
      let v : List ℕ = h.1.1 in
      let k : slashes (u ++ v) ≡ n = sym (ap slashes h.1.2) ∙ h.3 in
      elim (joined_from (shape u) (shape v) x y (sym (shape_append u v) ∙ sym (ap shape h.1.2) ∙ h.2)) [
        | inl e ↦ inl (apart empty (ended x y) u v n h.1.3 h.1.4 e.0 e.1 k)
        | inr m ↦ elim m [
          | inl e ↦ inr (inl (apart (ended x y) empty u v n h.1.3 h.1.4 e.0 e.1 k))
          | inr e ↦ (let p : Plus (Has P (ended x e.0)) (Has Q (ended e.1 y)) n =
              apart (ended x e.0) (ended e.1 y) u v n h.1.3 h.1.4 e.2 e.3 k in
              inr (inr (p.0, p.1, begin x e.0 p.0 p.2, end e.1 y p.1 p.3, p.4)))
        ]
      ]

  none_from : (n : ℕ) → Has (OneThen P Q) empty n → Plus (Has P empty) (Has Q empty) n
  none_from n h =
      let u : List ℕ = h.1.0 in
      let v : List ℕ = h.1.1 in
      let e : (shape u ≡ empty) × (shape v ≡ empty) =
      both_empty (shape u) (shape v) (sym (shape_append u v) ∙ sym (ap shape h.1.2) ∙ h.2) in
      apart empty empty u v n h.1.3 h.1.4 e.0 e.1 (sym (ap slashes h.1.2) ∙ h.3)

  module _ (x y : Bool) where
    abbrev before : Interval
    before = hull (interval_at r (ended x false)) (interval_at r (ended x true))

    abbrev behind : Interval
    behind = hull (interval_at q (ended false y)) (interval_at q (ended true y))

    ends_hull : IsHull (interval_sum before behind) (Plus (Begin x) (End y))
    ends_hull = hull_sum (Begin x) (End y) before behind
        (hull_union (Has P (ended x false)) (Has P (ended x true)) (interval_at r (ended x false))
        (interval_at r (ended x true)) (f.hulls (ended x false)) (f.hulls (ended x true)))
        (hull_union (Has Q (ended false y)) (Has Q (ended true y)) (interval_at q (ended false y))
        (interval_at q (ended true y)) (g.hulls (ended false y)) (g.hulls (ended true y)))

    first_hull : IsHull (interval_sum (interval_at r empty) (interval_at q (ended x y)))
        (Plus (Has P empty) (Has Q (ended x y)))
    first_hull = hull_sum (Has P empty) (Has Q (ended x y)) (interval_at r empty) (interval_at q (ended x y))
        (f.hulls empty) (g.hulls (ended x y))

    second_hull : IsHull (interval_sum (interval_at r (ended x y)) (interval_at q empty))
        (Plus (Has P (ended x y)) (Has Q empty))
    second_hull = hull_sum (Has P (ended x y)) (Has Q empty) (interval_at r (ended x y)) (interval_at q empty)
        (f.hulls (ended x y)) (g.hulls empty)

    ways_hull : IsHull (concatenated_at r q (ended x y)) (Ways x y)
    ways_hull =
        hull_union (Plus (Has P empty) (Has Q (ended x y)))
        (λ n. Plus (Has P (ended x y)) (Has Q empty) n ⊎ Plus (Begin x) (End y) n)
        (interval_sum (interval_at r empty) (interval_at q (ended x y))) (hull (interval_sum
        (interval_at r (ended x y)) (interval_at q empty)) (interval_sum before behind)) first_hull
        (hull_union (Plus (Has P (ended x y)) (Has Q empty)) (Plus (Begin x) (End y))
        (interval_sum (interval_at r (ended x y)) (interval_at q empty))
        (interval_sum before behind) second_hull ends_hull)

  concatenated_hull : (a : Shape) → IsHull (concatenated_at r q a) (Has (OneThen P Q) a)
  concatenated_hull empty = hull_same (Plus (Has P empty) (Has Q empty))
      (Has (OneThen P Q) empty) (λ n h. together empty empty empty n refl h) none_from
      (interval_sum (interval_at r empty) (interval_at q empty))
      (hull_sum (Has P empty) (Has Q empty) (interval_at r empty) (interval_at q empty)
      (f.hulls empty) (g.hulls empty))
  concatenated_hull (ended x y) = hull_same (Ways x y) (Has (OneThen P Q) (ended x y)) (ways_to x y)
      (ways_from x y) (concatenated_at r q (ended x y)) (ways_hull x y)

  pub exact_concatenated : Exact (concatenated r q) (OneThen P Q)
  exact_concatenated = by_shape (concatenated_at r q) (OneThen P Q) concatenated_hull
