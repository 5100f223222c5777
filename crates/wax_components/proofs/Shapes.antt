-- The shape of one text after another, and of a text that isn't empty.
use Rattle.std.proofs.Common.{◌++◌, ◌+◌, ◌==◌, ◌∙◌, ◌∷◌, ◌≡◌, ◌≤◌, ◌⊎◌, Bool, List, ℕ, [], ap, arith, inl}
use Rattle.std.proofs.Common.{inr, refl, sym}
use Rattle.wax_query.specs.Components.{slashes}
use Rattle.wax_components.specs.inner.Shapes.{Shape, empty, ended, joined_shape, shape}

join_assoc : (a b c : Shape) → joined_shape a (joined_shape b c) ≡ joined_shape (joined_shape a b) c
join_assoc empty b c = refl
join_assoc (ended x y) empty c = refl
join_assoc (ended x y) (ended z w) empty = refl
join_assoc (ended x y) (ended z w) (ended u v) = refl

pub shape_append : (x y : List ℕ) → shape (x ++ y) ≡ joined_shape (shape x) (shape y)
shape_append [] y = refl
shape_append (c ∷ []) [] = refl
shape_append (c ∷ []) (d ∷ y) = refl
shape_append (c ∷ d ∷ x) y =
    ap (λ z. joined_shape (ended (c == 47) (c == 47)) z) (shape_append (d ∷ x) y)
    ∙ join_assoc (ended (c == 47) (c == 47)) (shape (d ∷ x)) (shape y)

pub slashes_append : (x y : List ℕ) → slashes (x ++ y) ≡ slashes x + slashes y
slashes_append [] y = omega arith
slashes_append (c ∷ x) y = let e : slashes (x ++ y) ≡ slashes x + slashes y =
    slashes_append x y in omega (arith, e)

pub not_ended : {C : Type 0} (x y : Bool) → empty ≡ ended x y → C
not_ended x y e = absurd (let f : ⊥ = cc in f)

pub both_empty : (a b : Shape) → joined_shape a b ≡ empty → (a ≡ empty) × (b ≡ empty)
both_empty empty b e = (refl, e)
both_empty (ended x y) empty e = not_ended x y (sym e)
both_empty (ended x y) (ended z w) e = not_ended x w (sym e)

pub same_first : (x y z w : Bool) → ended x y ≡ ended z w → x ≡ z
same_first x y z w e = cc

pub same_last : (x y z w : Bool) → ended x y ≡ ended z w → y ≡ w
same_last x y z w e = cc

pub joined_from : (a b : Shape) (x y : Bool) → joined_shape a b ≡ ended x y →
    ((a ≡ empty) × (b ≡ ended x y))
    ⊎ (((a ≡ ended x y) × (b ≡ empty)) ⊎ ((w : Bool) × (z : Bool) × (a ≡ ended x w) × (b ≡ ended z y)))
joined_from empty b x y e = inl (refl, e)
joined_from (ended p q) empty x y e = inr (inl (e, refl))
joined_from (ended p q) (ended u v) x y e =
    inr (inr (q, u, ap (λ z. ended z q) (same_first p v x y e), ap (λ z. ended u z) (same_last p v x y e)))

pub shape_of_some : (c : ℕ) (s : List ℕ) → (x : Bool) × (y : Bool) × (shape (c ∷ s) ≡ ended x y)
shape_of_some c [] = (c == 47, c == 47, refl)
shape_of_some c (d ∷ s) = let r : (x : Bool) × (y : Bool) × (shape (d ∷ s) ≡ ended x y) = shape_of_some d s in
    (c == 47, r.1, ap (λ z. joined_shape (ended (c == 47) (c == 47)) z) r.2)

pub shape_empty : (s : List ℕ) → shape s ≡ empty → s ≡ []
shape_empty [] e = refl
shape_empty (c ∷ s) e = let r : (x : Bool) × (y : Bool) × (shape (c ∷ s) ≡ ended x y) = shape_of_some c s in
    not_ended r.0 r.1 (sym e ∙ r.2)

pub between_ends : (x y z w : Bool) (b : Shape)
    → joined_shape (ended x y) (joined_shape b (ended z w)) ≡ ended x w
between_ends x y z w empty = refl
between_ends x y z w (ended u v) = refl

pub some_shape : (w : List ℕ) → 1 ≤ slashes w → shape w ≡ empty → ⊥
some_shape [] le e = omega (arith, le)
some_shape (c ∷ w) le e = let r : (x : Bool) × (y : Bool) × (shape (c ∷ w) ≡ ended x y) = shape_of_some c w in
    not_ended r.0 r.1 (sym e ∙ r.2)
