-- Texts of characters.
use Rattle.std.proofs.Common.{◌≡◌, ℕ, ◌<◌, ◌&&◌, Bool, true, false, List, [], ◌∷◌, ◌++◌, inl, inr, refl}
use Rattle.std.proofs.{Common.arith, Math.Utf8.scalar_cases}
use Rattle.std.specs.{Char.IsScalar, Str.all_scalars}

pub and_parts : (a b : Bool) → (a && b) ≡ true → (a ≡ true) × (b ≡ true)
and_parts true b e = (refl, e)
and_parts false b e = absurd (let f : ⊥ = cc in f)

pub both_true : (a b : Bool) → a ≡ true → b ≡ true → (a && b) ≡ true
both_true true b e f = f
both_true false b e f = absurd (let g : ⊥ = cc in g)

pub scalar_first : (c : ℕ) (s : List ℕ) → all_scalars (c ∷ s) ≡ true → IsScalar c
scalar_first c s h = (and_parts _ _ h).0

pub scalar_rest : (c : ℕ) (s : List ℕ) → all_scalars (c ∷ s) ≡ true → all_scalars s ≡ true
scalar_rest c s h = (and_parts _ _ h).1

pub scalars_more : (c : ℕ) (s : List ℕ) → IsScalar c → all_scalars s ≡ true → all_scalars (c ∷ s) ≡ true
scalars_more c s h k = both_true _ _ h k

pub scalars_append : (s t : List ℕ) → all_scalars s ≡ true → all_scalars t ≡ true
    → all_scalars (s ++ t) ≡ true
scalars_append [] t h k = k
scalars_append (c ∷ s) t h k =
    scalars_more c (s ++ t) (scalar_first c s h) (scalars_append s t (scalar_rest c s h) k)

pub scalars_before : (s t : List ℕ) → all_scalars (s ++ t) ≡ true → all_scalars s ≡ true
scalars_before [] t h = refl
scalars_before (c ∷ s) t h =
    scalars_more c s (scalar_first c (s ++ t) h) (scalars_before s t (scalar_rest c (s ++ t) h))

pub scalars_after : (s t : List ℕ) → all_scalars (s ++ t) ≡ true → all_scalars t ≡ true
scalars_after [] t h = h
scalars_after (c ∷ s) t h = scalars_after s t (scalar_rest c (s ++ t) h)

pub scalar_small : (c : ℕ) → IsScalar c → c < 1114112
scalar_small c h = elim (scalar_cases c h) [ inl low ↦ omega (arith, low) | inr high ↦ high.1 ]
