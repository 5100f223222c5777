-- A text again and again.
use Rattle.std.proofs.Common.{◌*◌, ◌++◌, ◌∙◌, ◌≡◌, ◌≤◌, List, ℕ, [], ap, append-nil, arith, refl, subst, suc}
use Rattle.std.proofs.Common.{sym, zero}
use Rattle.wax_query.specs.Components.{slashes}
use Rattle.wax_token.proofs.Copies.{Many, many_add}
use Rattle.wax_components.specs.inner.Shapes.{Shape, empty, ended, joined_shape, shape}
use Rattle.wax_components.proofs.{Basics.suc_mul, Shapes.{shape_append, slashes_append}}

pub again : ℕ → List ℕ → List ℕ
again zero w = []
again (suc m) w = w ++ again m w

pub again_slashes : (m : ℕ) (w : List ℕ) → 1 ≤ slashes w → m ≤ slashes (again m w)
unfolding again
again_slashes zero w le = omega arith
again_slashes (suc m) w le = omega (arith, le, slashes_append w (again m w), again_slashes m w le)

twice_same : (x : Shape) → (x ≡ empty → ⊥) → joined_shape x x ≡ x
twice_same empty h = absurd (h refl)
twice_same (ended x y) h = refl

pub again_shape : (m : ℕ) (w : List ℕ) → (shape w ≡ empty → ⊥) → shape (again (suc m) w) ≡ shape w
unfolding again
again_shape zero w h = ap shape (append-nil w)
again_shape (suc m) w h = shape_append w (again (suc m) w) ∙ ap (joined_shape (shape w)) (again_shape m w h)
    ∙ twice_same (shape w) h

pub again_many : (P : List ℕ → Type 0) (k m : ℕ) (w : List ℕ) → Many P k w → Many P (m * k) (again m w)
unfolding again
again_many P k zero w h = subst (λ z. Many P z []) (none k) refl
  where
    none : (k : ℕ) → 0 ≡ 0 * k
    none k = grind arith
again_many P k (suc m) w h = subst (λ z. Many P z (w ++ again m w)) (sym (suc_mul m k))
    (many_add P k (m * k) w (again m w) h (again_many P k m w h))
