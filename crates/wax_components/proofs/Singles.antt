-- The profile of texts of one shape, with so many `/`.
use Rattle.std.proofs.Common.{if◌then◌else◌, ◌&&◌, ◌+◌, ◌==◌, ◌∙◌, ◌∷◌, ◌≡◌, ◌≢◌, Bool, List, Some, ℕ, [], ap}
use Rattle.std.proofs.Common.{arith, false, refl, subst, sym, true}
use Rattle.wax_query.specs.Components.{slashes}
use Rattle.wax_components.specs.{inner.Intervals.kept, inner.Profiles.single}
use Rattle.wax_components.specs.inner.Shapes.{Shape, empty, ended, same_bool, same_shape, shape}
use Rattle.wax_components.proofs.{Basics.{both_true, not_slash, not_true}, Exact.{Exact, Has, by_shape}}
use Rattle.wax_components.proofs.Hulls.{IsHull}

same_bool_is : (x y : Bool) → same_bool x y ≡ true → x ≡ y
same_bool_is true y e = sym e
same_bool_is false true e = not_true e
same_bool_is false false e = refl

same_shape_is : (a b : Shape) → same_shape a b ≡ true → a ≡ b
same_shape_is empty empty e = refl
same_shape_is empty (ended x y) e = not_true e
same_shape_is (ended x y) empty e = not_true e
same_shape_is (ended x y) (ended z w) e =
    let p : (same_bool x z ≡ true) × (same_bool y w ≡ true) = both_true (same_bool x z) (same_bool y w) e in
    ap (λ k. ended k y) (same_bool_is x z p.0) ∙ ap (λ k. ended z k) (same_bool_is y w p.1)

same_bool_self : (x : Bool) → same_bool x x ≡ true
same_bool_self true = refl
same_bool_self false = refl

same_shape_self : (a : Shape) → same_shape a a ≡ true
same_shape_self empty = refl
same_shape_self (ended x y) = ap (λ k. k && same_bool y y) (same_bool_self x) ∙ same_bool_self y

pub exact_single : (a : Shape) (n : ℕ) (P : List ℕ → Type 0) → Has P a n
    → ((s : List ℕ) → P s → (shape s ≡ a) × (slashes s ≡ n)) → Exact (single a n) P
exact_single a n P w all = by_shape (λ b. kept (same_shape a b) (Some (n, Some n))) P each
  where
    each : (b : Shape) → IsHull (kept (same_shape a b) (Some (n, Some n))) (Has P b)
    each b =
        elim (same_shape a b) as (λ k. same_shape a b ≡ k → IsHull (kept k (Some (n, Some n))) (Has P b)) [
          | true ↦ λ e. (
              let f : a ≡ b = same_shape_is a b e in
              let v : Has P b n = subst (λ c. Has P c n) f w in (
                (v, λ m h. omega (arith, (all h.0 h.1).1, h.3)),
                (v, λ m h. omega (arith, (all h.0 h.1).1, h.3)),
              ))
          | false ↦
              λ e m h. not_true (sym e ∙ ap (same_shape a) (sym h.2 ∙ (all h.0 h.1).0) ∙ same_shape_self a)
        ] refl

abbrev pub OneCharacter : List ℕ → Type 0
OneCharacter s = (c : ℕ) × (s ≡ c ∷ []) × (c ≢ 47)

pub letter : (c : ℕ) → c ≡ 120 → c ≢ 47
letter c e = omega (arith, e)

pub exact_character : Exact (single (ended false false) 0) OneCharacter
exact_character =
    exact_single (ended false false) 0 OneCharacter (120 ∷ [], (120, refl, letter 120 refl), refl, refl)
    (λ s h. let e : (h.0 == 47) ≡ false = not_slash h.0 h.2 in
    (ap shape h.1 ∙ ap (λ z. ended z z) e, ap slashes h.1 ∙ ap (λ z. (if z then 1 else 0) + 0) e))
