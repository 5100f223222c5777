-- Programs that are written from their end on.
use Rattle.std.proofs.Common.{◌≡◌, ℕ, ◌-◌, ◌<◌, List, [], ◌∷◌, ◌++◌, length, get_or, set, reverse, refl, sym}
use Rattle.std.proofs.Common.{◌∙◌, ap, inl, inr, arith, ext_get_or, length-set, get_or-set_same}
use Rattle.std.proofs.{Common.get_or-set_other, lemmas.Bool.cases_eq}
use Rattle.std.proofs.lemmas.List.{length-reverse, get_or-reverse}

pub reverse-set : {X : Type 0} (d : X) (xs : List X) (i : ℕ) (x : X) → i < length xs
    → reverse (set xs (length xs - 1 - i) x) ≡ set (reverse xs) i x
reverse-set d xs i x lt =
    let j : ℕ = length xs - 1 - i in
    let n : length (set xs j x) ≡ length xs = length-set xs j x in
    ext_get_or d _ _
    (length-reverse (set xs j x) ∙ n ∙ sym (length-reverse xs) ∙ sym (length-set (reverse xs) i x))
    (λ k h.
    let k_in : k < length xs = omega (arith, h, length-reverse (set xs j x), n) in
    get_or-reverse (set xs j x) k d (omega (arith, k_in, n))
    ∙ ap (λ m. get_or (set xs j x) (m - 1 - k) d) n
    ∙ elim (cases_eq k i)
    as (λ _. get_or (set xs j x) (length xs - 1 - k) d ≡ get_or (set (reverse xs) i x) k d) [
      | inl same ↦
          rw same (get_or-set_same xs j x d (omega (arith, lt))
          ∙ sym (get_or-set_same (reverse xs) i x d (omega (arith, lt, length-reverse xs))))
      | inr other ↦
          get_or-set_other xs j (length xs - 1 - k) x d (omega (arith, other, lt, k_in))
          ∙ sym (get_or-reverse xs k d k_in)
          ∙ sym (get_or-set_other (reverse xs) i k x d other)
    ])

pub set_seam : {X : Type 0} (xs ys : List X) (x y : X) → set (xs ++ x ∷ ys) (length xs) y ≡ xs ++ y ∷ ys
set_seam [] ys x y = refl
set_seam (z ∷ xs) ys x y = ap (λ w. z ∷ w) (set_seam xs ys x y)
