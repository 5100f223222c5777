-- Two parts of a path.
use Rattle.std.proofs.Common.{List, [], ap, false, if◌then◌else◌, refl, rules, true, ℕ, ◌++◌, ◌==◌, ◌∷◌, ◌≡◌}
use Rattle.std.proofs.Common.{◌≢◌}
use Rattle.wax_query.specs.Components.{EndsWithSlash}
use Rattle.wax_facts.specs.Joined.{path}

pub path_ends : (p r : List ℕ) → EndsWithSlash p → path p r ≡ p ++ r
path_ends [] r h = absurd (nil h.0 h.1)
  where
    nil : (t : List ℕ) → [] ≡ t ++ 47 ∷ [] → ⊥
    nil [] e = cc
    nil (c ∷ t) e = cc
path_ends (c ∷ []) r h = ap (λ b. if b then c ∷ r else c ∷ 47 ∷ r) (is_slash h.0 h.1)
  where
    is_slash : (t : List ℕ) → c ∷ [] ≡ t ++ 47 ∷ [] → (c == 47) ≡ true
    is_slash [] e = let f : c ≡ 47 = cc in ap (λ z. z == 47) f
    is_slash (d ∷ []) e = absurd (let f : ⊥ = cc in f)
    is_slash (d ∷ k ∷ t) e = absurd (let f : ⊥ = cc in f)
path_ends (c ∷ d ∷ p) r h = ap (λ z. c ∷ z) (path_ends (d ∷ p) r (tail h.0 h.1))
  where
    tail : (t : List ℕ) → c ∷ d ∷ p ≡ t ++ 47 ∷ [] → EndsWithSlash (d ∷ p)
    tail [] e = absurd (let f : ⊥ = cc in f)
    tail (k ∷ t) e = (t, (let f : d ∷ p ≡ t ++ 47 ∷ [] = cc in f))

is_47 : (c : ℕ) → (c == 47) ≡ true → c ≡ 47
is_47 c e = search rules

pub path_bare : (p r : List ℕ) → p ≢ [] → (EndsWithSlash p → ⊥) → path p r ≡ p ++ 47 ∷ r
path_bare [] r some h = absurd (some refl)
path_bare (c ∷ []) r some h =
    elim (c == 47) as (λ b. (c == 47) ≡ b → (if b then c ∷ r else c ∷ 47 ∷ r) ≡ c ∷ 47 ∷ r) [
      | true ↦ λ e. absurd (h ([], ap (λ z. z ∷ []) (is_47 c e)))
      | false ↦ λ e. refl
    ] refl
path_bare (c ∷ d ∷ p) r some h =
    ap (λ z. c ∷ z) (path_bare (d ∷ p) r (λ e. cc) (λ e. h (c ∷ e.0, ap (λ z. c ∷ z) e.1)))
