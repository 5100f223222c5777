-- Texts of the same folding, compared from the front.
use Rattle.std.proofs.Common.{◌≡◌, ◌≢◌, ℕ, suc, ◌+◌, ◌<◌, true, List, [], ◌∷◌, length, get_or, drop}
use Rattle.std.proofs.Common.{drop-cons, refl, sym, ◌∙◌, ap, subst, arith}
use Rattle.unicode.specs.CaseFolding.{simple_fold}
use Rattle.wax_token.specs.Meaning.{SameFold, SameText}

pub alike_length : (xs ys : List ℕ) → SameText true xs ys → length xs ≡ length ys
alike_length [] [] h = refl
alike_length [] (y ∷ ys) h = absurd h
alike_length (x ∷ xs) [] h = absurd h
alike_length (x ∷ xs) (y ∷ ys) h = ap (λ n. suc n) (alike_length xs ys h.1)

-- the texts agree exactly where what is left of them does
pub record Agrees (xs ys : List ℕ) (i : ℕ) : Type 0 where
  pub onward : SameText true xs ys → SameText true (drop i xs) (drop i ys)
  pub backward : SameText true (drop i xs) (drop i ys) → SameText true xs ys

module _ (xs ys : List ℕ) (i x y : ℕ) (xi : i < length xs) (yi : i < length ys) (xe : x ≡ get_or xs i x)
    (ye : y ≡ get_or ys i y) where
  n : suc i ≡ i + 1
  n = omega arith

  left : drop i xs ≡ x ∷ drop (i + 1) xs
  left = drop-cons xs i x xi ∙ ap (λ z. z ∷ drop (suc i) xs) (sym xe) ∙ ap (λ k. x ∷ drop k xs) n

  right : drop i ys ≡ y ∷ drop (i + 1) ys
  right = drop-cons ys i y yi ∙ ap (λ z. z ∷ drop (suc i) ys) (sym ye) ∙ ap (λ k. y ∷ drop k ys) n

  pub agrees_step : simple_fold x ≡ simple_fold y → Agrees xs ys i → Agrees xs ys (i + 1)
  unfolding SameFold
  agrees_step e h = record {
    onward = λ g.
        let a : SameText true (x ∷ drop (i + 1) xs) (drop i ys) =
        subst (λ z. SameText true z (drop i ys)) left (h.onward g) in
        let b : SameText true (x ∷ drop (i + 1) xs) (y ∷ drop (i + 1) ys) =
        subst (λ z. SameText true (x ∷ drop (i + 1) xs) z) right a in
        b.1;
    backward = λ g.
        let a : SameText true (x ∷ drop (i + 1) xs) (y ∷ drop (i + 1) ys) = (e, g) in
        let b : SameText true (x ∷ drop (i + 1) xs) (drop i ys) =
        subst (λ z. SameText true (x ∷ drop (i + 1) xs) z) (sym right) a in
        h.backward (subst (λ z. SameText true z (drop i ys)) (sym left) b);
  }

  pub agrees_not : simple_fold x ≢ simple_fold y → Agrees xs ys i → SameText true xs ys → ⊥
  unfolding SameFold
  agrees_not e h g =
      let a : SameText true (x ∷ drop (i + 1) xs) (drop i ys) =
      subst (λ z. SameText true z (drop i ys)) left (h.onward g) in
      let b : SameText true (x ∷ drop (i + 1) xs) (y ∷ drop (i + 1) ys) =
      subst (λ z. SameText true (x ∷ drop (i + 1) xs) z) right a in
      e b.0
