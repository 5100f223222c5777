-- Any number of copies: two or fewer have the least numbers, and a copy with a `/` passes every number.
use Rattle.std.proofs.Common.{◌⊎◌, if◌then◌else◌, ◌*◌, ◌++◌, ◌+◌, ◌||◌, ◌∙◌, ◌∷◌, ◌≡◌, ◌≤◌, Bool, List, None}
use Rattle.std.proofs.Common.{Some, ℕ, [], ap, append-nil, arith, false, inl, inr, refl, subst, suc, sym}
use Rattle.std.proofs.{Common.{true, zero}, lemmas.Bool.or_parts}
use Rattle.wax_query.specs.Components.{slashes}
use Rattle.wax_token.proofs.Copies.{AnyNumber, Many, OneThen, many_add}
use Rattle.wax_components.specs.declared.profile.Profile.{Profile}
use Rattle.wax_components.specs.inner.Intervals.{Interval, exceeds_zero, unbounded}
use Rattle.wax_components.specs.inner.Profiles.{interval_at, concatenated, empty_text, has_slash, kleene_star}
use Rattle.wax_components.specs.inner.Profiles.{unbounded_profile, union}
use Rattle.wax_components.specs.inner.Shapes.{Shape, empty, ended, joined_shape, shape}
use Rattle.wax_components.proofs.{Again.{again, again_many, again_slashes}, Basics.either}
use Rattle.wax_components.proofs.Exact.{Exact, Has, exact_concatenated, exact_empty_text, exact_union}
use Rattle.wax_components.proofs.Hulls.{IsHull, hull_same}
use Rattle.wax_components.proofs.Shapes.{between_ends, shape_append, shape_empty, shape_of_some}
use Rattle.wax_components.proofs.Shapes.{slashes_append}

abbrev pub OrNone : (List ℕ → Type 0) → List ℕ → Type 0
OrNone P s = (s ≡ []) ⊎ P s

star_append : (P : List ℕ → Type 0) (x y : List ℕ) → AnyNumber P x → AnyNumber P y → AnyNumber P (x ++ y)
star_append P x y h k = (h.0 + k.0, many_add P h.0 k.0 x y h.1 k.1)

star_one : (P : List ℕ → Type 0) (x : List ℕ) → P x → AnyNumber P x
star_one P x p = (1, (x, [], sym (append-nil x), p, refl))

module _ {r : Profile} {P : List ℕ → Type 0} (f : Exact r P) where
  abbrev Fewer : List ℕ → Type 0
  Fewer s = (u : List ℕ) × OneThen (OrNone P) (OrNone P) u × (shape u ≡ shape s) × (slashes u ≤ slashes s)

  fewer_step : (x y u v : List ℕ) → P x → OrNone P u → OrNone P v → shape (u ++ v) ≡ shape y
      → slashes (u ++ v) ≤ slashes y → Fewer (x ++ y)
  fewer_step x y u [] p a b e le = (
    x ++ u,
    (x, u, refl, inr p, a),
    shape_append x u ∙ ap (λ z. joined_shape (shape x) z) (ap shape (sym (append-nil u)) ∙ e)
        ∙ sym (shape_append x y),
    (let g : slashes (u ++ []) ≡ slashes u = ap slashes (append-nil u) in
        omega (arith, le, g, slashes_append x u, slashes_append x y)),
  )
  fewer_step [] y u (d ∷ v) p a b e le = (u ++ d ∷ v, (u, d ∷ v, refl, a, b), e, le)
  fewer_step (c ∷ x) y u (d ∷ v) p a b e le =
      let m : (x' : Bool) × (y' : Bool) × (shape (c ∷ x) ≡ ended x' y') = shape_of_some c x in
      let n : (x' : Bool) × (y' : Bool) × (shape (d ∷ v) ≡ ended x' y') = shape_of_some d v in (
        (c ∷ x) ++ d ∷ v,
        (c ∷ x, d ∷ v, refl, inr p, b),
        shape_append (c ∷ x) (d ∷ v) ∙ ap (λ z. joined_shape z (shape (d ∷ v))) m.2
            ∙ ap (λ z. joined_shape (ended m.0 m.1) z) n.2
            ∙ sym (shape_append (c ∷ x) y ∙ ap (λ z. joined_shape z (shape y)) m.2
            ∙ ap (λ z. joined_shape (ended m.0 m.1) z) (sym e ∙ shape_append u (d ∷ v)
            ∙ ap (λ z. joined_shape (shape u) z) n.2) ∙ between_ends m.0 m.1 n.0 n.1 (shape u)),
        omega (arith, le, slashes_append u (d ∷ v), slashes_append (c ∷ x) (d ∷ v), slashes_append (c ∷ x) y),
      )

  fewer : (k : ℕ) (s : List ℕ) → Many P k s → Fewer s
  fewer zero s h = ([], ([], [], refl, inl refl, inl refl), sym (ap shape h), omega arith)
  fewer (suc k) s h =
      let g : Fewer h.1 = fewer k h.1 h.4 in
      subst Fewer (sym h.2) (fewer_step h.0 h.1 g.1.0 g.1.1 h.3 g.1.3 g.1.4 (ap shape (sym g.1.2) ∙ g.2)
      (let e : slashes g.0 ≡ slashes (g.1.0 ++ g.1.1) = ap slashes g.1.2 in omega (arith, e, g.3)))

  some_of : (s : List ℕ) → OrNone P s → AnyNumber P s
  some_of s (inl e) = (0, e)
  some_of s (inr p) = star_one P s p

  two_are_star : (s : List ℕ) → OneThen (OrNone P) (OrNone P) s → AnyNumber P s
  two_are_star s h = subst (AnyNumber P) (sym h.2) (star_append P h.0 h.1 (some_of h.0 h.3) (some_of h.1 h.4))

  abbrev twice : Profile
  twice = concatenated (union empty_text r) (union empty_text r)

  exact_twice : Exact twice (OneThen (OrNone P) (OrNone P))
  exact_twice = exact_concatenated (exact_union exact_empty_text f) (exact_union exact_empty_text f)

  two_to : (a : Shape) (n : ℕ) → Has (OneThen (OrNone P) (OrNone P)) a n → Has (AnyNumber P) a n
  two_to a n h = (h.0, two_are_star h.0 h.1, h.2, h.3)

  -- ---- where no text has a `/`
  zero_hull : (d : Interval) (X : ℕ → Type 0) → exceeds_zero d ≡ false → IsHull d X → (n : ℕ) → X n → n ≡ 0
  zero_hull None X e h n x = absurd (h n x)
  zero_hull (Some (low, None)) X e h n x = absurd (let g : ⊥ = cc in g)
  zero_hull (Some (low, Some zero)) X e h n x = let le : n ≤ 0 = h.1.1 n x in omega (arith, le)
  zero_hull (Some (low, Some (suc m))) X e h n x = absurd (let g : ⊥ = cc in g)

  no_slash_at : has_slash r ≡ false → (x y : Bool) → exceeds_zero (interval_at r (ended x y)) ≡ false
  no_slash_at e x y =
      let a : (exceeds_zero r.bare ≡ false)
      × ((exceeds_zero r.ending || (exceeds_zero r.beginning || exceeds_zero r.enclosed)) ≡ false) =
      or_parts (exceeds_zero r.bare)
      (exceeds_zero r.ending || (exceeds_zero r.beginning || exceeds_zero r.enclosed)) e in
      let b : (exceeds_zero r.ending ≡ false)
      × ((exceeds_zero r.beginning || exceeds_zero r.enclosed) ≡ false) =
      or_parts (exceeds_zero r.ending) (exceeds_zero r.beginning || exceeds_zero r.enclosed) a.1 in
      let c : (exceeds_zero r.beginning ≡ false) × (exceeds_zero r.enclosed ≡ false) =
      or_parts (exceeds_zero r.beginning) (exceeds_zero r.enclosed) b.1 in
      each a.0 b.0 c.0 c.1 x y
    where
      each : exceeds_zero r.bare ≡ false → exceeds_zero r.ending ≡ false → exceeds_zero r.beginning ≡ false
          → exceeds_zero r.enclosed ≡ false → (x y : Bool) → exceeds_zero (interval_at r (ended x y)) ≡ false
      each a b c d false false = a
      each a b c d false true = b
      each a b c d true false = c
      each a b c d true true = d

  none_has : has_slash r ≡ false → (s : List ℕ) → P s → slashes s ≡ 0
  none_has e [] p = refl
  none_has e (c ∷ s) p =
      let k : (x : Bool) × (y : Bool) × (shape (c ∷ s) ≡ ended x y) = shape_of_some c s in
      zero_hull (interval_at r (ended k.0 k.1)) (Has P (ended k.0 k.1)) (no_slash_at e k.0 k.1)
      (f.hulls (ended k.0 k.1)) (slashes (c ∷ s)) (c ∷ s, p, k.2, refl)

  none_have : has_slash r ≡ false → (k : ℕ) (s : List ℕ) → Many P k s → slashes s ≡ 0
  none_have e zero s h = ap slashes h
  none_have e (suc k) s h = let g : slashes s ≡ slashes (h.0 ++ h.1) = ap slashes h.2 in
      omega (arith, g, slashes_append h.0 h.1, none_has e h.0 h.3, none_have e k h.1 h.4)

  none_from : has_slash r ≡ false → (a : Shape) (n : ℕ) → Has (AnyNumber P) a n
      → Has (OneThen (OrNone P) (OrNone P)) a n
  none_from e a n h = let g : Fewer h.0 = fewer h.1.0 h.0 h.1.1 in
      (g.0, g.1, g.2 ∙ h.2, omega (arith, g.3, h.3, none_have e h.1.0 h.0 h.1.1))

  -- ---- where some text has one
  abbrev WithSlash : Type 0
  WithSlash = (w : List ℕ) × P w × (1 ≤ slashes w)

  passing : (a : Shape) (d : Interval) → exceeds_zero d ≡ true → IsHull d (Has P a) → WithSlash
  passing a None e h = absurd (let g : ⊥ = cc in g)
  passing a (Some (low, None)) e h = let w : (n : ℕ) × Has P a n × (1 ≤ n) = h.1 1 in
      (w.1.0, w.1.1, omega (arith, w.1.3, w.2))
  passing a (Some (low, Some zero)) e h = absurd (let g : ⊥ = cc in g)
  passing a (Some (low, Some (suc m))) e h = (h.1.0.0, h.1.0.1, omega (arith, h.1.0.3))

  with_slash : has_slash r ≡ true → WithSlash
  with_slash e = elim (either (exceeds_zero r.bare)
      (exceeds_zero r.ending || (exceeds_zero r.beginning || exceeds_zero r.enclosed)) e) [
        | inl a ↦ passing (ended false false) r.bare a (f.hulls (ended false false))
        | inr a ↦
            elim (either (exceeds_zero r.ending) (exceeds_zero r.beginning || exceeds_zero r.enclosed) a) [
              | inl b ↦ passing (ended false true) r.ending b (f.hulls (ended false true))
              | inr b ↦ elim (either (exceeds_zero r.beginning) (exceeds_zero r.enclosed) b) [
                | inl c ↦ passing (ended true false) r.beginning c (f.hulls (ended true false))
                | inr c ↦ passing (ended true true) r.enclosed c (f.hulls (ended true true))
              ]
            ]
      ]

  surrounded : (x y : Bool) (u m : List ℕ) → shape u ≡ ended x y → shape (u ++ (m ++ u)) ≡ ended x y
  surrounded x y u m e =
      shape_append u (m ++ u) ∙ ap (λ z. joined_shape (shape u) z) (shape_append m u)
      ∙ ap (λ z. joined_shape z (joined_shape (shape m) (shape u))) e
      ∙ ap (λ z. joined_shape (ended x y) (joined_shape (shape m) z)) e ∙ between_ends x y x y (shape m)

  unbounded_hull : WithSlash → (x y : Bool) (d : Interval)
      → IsHull d (Has (OneThen (OrNone P) (OrNone P)) (ended x y))
      → IsHull (unbounded d) (Has (AnyNumber P) (ended x y))
  unbounded_hull w x y None h = λ n g. let k : Fewer g.0 = fewer g.1.0 g.0 g.1.1 in
      h (slashes k.0) (k.0, k.1, k.2 ∙ g.2, refl)
  unbounded_hull w x y (Some d) h = (
    (
      two_to (ended x y) d.0 h.0.0,
      λ n g. let k : Fewer g.0 = fewer g.1.0 g.0 g.1.1 in
          let le : d.0 ≤ slashes k.0 = h.0.1 (slashes k.0) (k.0, k.1, k.2 ∙ g.2, refl) in
          omega (arith, le, k.3, g.3),
    ),
    λ m.
        let u : List ℕ = h.0.0.0 in
        let v : List ℕ = again m w.0 in
        let a : AnyNumber P u = two_are_star u h.0.0.1 in (
          slashes (u ++ (v ++ u)),
          (
            u ++ (v ++ u),
            star_append P u (v ++ u) a (star_append P v u
                (m * 1, again_many P 1 m w.0 (w.0, [], sym (append-nil w.0), w.1, refl)) a),
            surrounded x y u v h.0.0.2,
            refl,
          ),
          omega (arith, slashes_append u (v ++ u), slashes_append v u, again_slashes m w.0 w.2),
        ),
  )

  empty_from : (n : ℕ) → Has (AnyNumber P) empty n → Has (OneThen (OrNone P) (OrNone P)) empty n
  empty_from n h =
      ([], ([], [], refl, inl refl, inl refl), refl, sym (ap slashes (shape_empty h.0 h.2)) ∙ h.3)

  pub exact_kleene_star : Exact (kleene_star r) (AnyNumber P)
  exact_kleene_star = elim (has_slash r)
      as (λ b. has_slash r ≡ b → Exact (if b then unbounded_profile twice else twice) (AnyNumber P)) [
        | true ↦ λ e. record { hulls = each (with_slash e) }
        | false ↦ λ e. record {
          hulls = λ a. hull_same (Has (OneThen (OrNone P) (OrNone P)) a) (Has (AnyNumber P) a) (two_to a)
              (none_from e a) (interval_at twice a) (exact_twice.hulls a);
        }
      ] refl
    where
      each : WithSlash → (a : Shape) → IsHull (interval_at (unbounded_profile twice) a) (Has (AnyNumber P) a)
      each w empty = hull_same (Has (OneThen (OrNone P) (OrNone P)) empty) (Has (AnyNumber P) empty)
          (two_to empty) empty_from (interval_at twice empty) (exact_twice.hulls empty)
      each w (ended false false) = unbounded_hull w false false (interval_at twice (ended false false))
          (exact_twice.hulls (ended false false))
      each w (ended false true) = unbounded_hull w false true (interval_at twice (ended false true))
          (exact_twice.hulls (ended false true))
      each w (ended true false) = unbounded_hull w true false (interval_at twice (ended true false))
          (exact_twice.hulls (ended true false))
      each w (ended true true) = unbounded_hull w true true (interval_at twice (ended true true))
          (exact_twice.hulls (ended true true))
