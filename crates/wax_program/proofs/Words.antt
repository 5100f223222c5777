-- Sets of places below 64, in one word.
use Rattle.std.proofs.Common.{◌≡◌, ℕ, ◌+◌, ◌*◌, ◌/◌, ◌%◌, ◌^◌, ◌<◌, ◌≤◌, true, false, eqb, [], ◌∷◌, length}
use Rattle.std.proofs.Common.{get_or, set, refl, sym, ◌∙◌, ap, inl, inr, arith, eq-eqb, eqb-true, w64}
use Rattle.std.proofs.{lemmas.Bool.cases_eq, lemmas.Nat.Bits.{bit_at-lt, same_from_bits_below}}
use Rattle.std.specs.{Prelude.{bit_and, bit_or}, Int.{bit_at, bit_not, trailing_zeros}}
use Rattle.std.specs.Int.Count.{trailing_of_zero}
use Rattle.wax_program.specs.{Bits.bits_of, Places.{HoldsPlace, IsEmpty}}
use Rattle.wax_program.proofs.BitFlags.{length-bits_of, get_or-bits_of, bits_of-insert, bits_of-remove}
use Rattle.wax_program.proofs.BitFlags.{first_has, first_least, empty_of_replicate}

pub length_word : (w : ℕ) → length (bits_of (w ∷ [])) ≡ 64
length_word w = length-bits_of (w ∷ [])

pub empty_word : IsEmpty (bits_of (0 ∷ []))
empty_word = empty_of_replicate 1

module _ (w at : ℕ) (low : at < 64) where
  first_word : at / 64 ≡ 0
  first_word = omega arith

  pub word_contains : eqb (bit_at w (at % 64)) 1 ≡ get_or (bits_of (w ∷ [])) at false
  word_contains = ap (λ i. eqb (bit_at (get_or (w ∷ []) i 0) (at % 64)) 1) (sym first_word)
      ∙ sym (get_or-bits_of (w ∷ []) at low)

  read : w ≡ get_or (w ∷ []) (at / 64) 0
  read = ap (λ i. get_or (w ∷ []) i 0) (sym first_word)

  pub word_insert : bits_of (bit_or w (1 * 2 ^ (at % 64) % 2 ^ 64) ∷ []) ≡ set (bits_of (w ∷ [])) at true
  word_insert = ap (λ i. bits_of (set (w ∷ []) i (bit_or w (1 * 2 ^ (at % 64) % 2 ^ 64)))) (sym first_word)
      ∙ bits_of-insert (w ∷ []) at w low read

  pub word_remove : bits_of (bit_and w (bit_not w64 (1 * 2 ^ (at % 64) % 2 ^ 64)) ∷ [])
      ≡ set (bits_of (w ∷ [])) at false
  word_remove = ap (λ i. bits_of (set (w ∷ []) i (bit_and w (bit_not w64 (1 * 2 ^ (at % 64) % 2 ^ 64)))))
      (sym first_word) ∙ bits_of-remove (w ∷ []) at w low read

same_bit : (x y : ℕ) → x < 2 → y < 2 → eqb x 1 ≡ eqb y 1 → x ≡ y
same_bit x y x_bit y_bit same = elim (cases_eq x 1) [
  | inl x_one ↦ x_one ∙ sym (eqb-true y 1 (sym same ∙ eq-eqb x 1 x_one))
  | inr x_not ↦ elim (cases_eq y 1) [
    | inl y_one ↦ absurd (x_not (eqb-true x 1 (same ∙ eq-eqb y 1 y_one)))
    | inr y_not ↦ omega (arith, x_not, y_not)
  ]
]

-- two words of the same set are equal
pub words_equal : (a b : ℕ) → a < 2 ^ 64 → b < 2 ^ 64 → bits_of (a ∷ []) ≡ bits_of (b ∷ []) → a ≡ b
words_equal a b a_word b_word same = same_from_bits_below 64 a b a_word b_word (λ i low.
    let here : eqb (bit_at a (i % 64)) 1 ≡ eqb (bit_at b (i % 64)) 1 =
    word_contains a i low ∙ ap (λ flags. get_or flags i false) same ∙ sym (word_contains b i low) in
    let at : i % 64 ≡ i = omega arith in
    same_bit (bit_at a i) (bit_at b i) (bit_at-lt a i) (bit_at-lt b i) (rw at at here))

no_earlier : (w j : ℕ) → 0 ≤ j → j < 0 → get_or (w ∷ []) j 0 ≡ 0
no_earlier w j from h = absurd (omega (arith, h))

module _ (w : ℕ) (small : w < 2 ^ 64) where
  pub word_lowest : (k : ℕ) → HoldsPlace (bits_of (w ∷ [])) k → trailing_zeros w64 w ≤ k
  word_lowest k h = elim (cases_eq w 0) [
    | inl none ↦ absurd (empty_word k (let e : HoldsPlace (bits_of (0 ∷ [])) k = rw none at h in e))
    | inr some ↦ (let e : 0 * 64 + trailing_zeros w64 w ≤ k = first_least (w ∷ []) 0 0 w (omega arith)
        (omega arith) refl small some (no_earlier w) k h (omega arith) in omega (arith, e))
  ]

  pub word_held : trailing_zeros w64 w < length (bits_of (w ∷ []))
      → HoldsPlace (bits_of (w ∷ [])) (trailing_zeros w64 w)
  word_held lt = elim (cases_eq w 0) [
    | inl none ↦ absurd (let e : trailing_zeros w64 w ≡ 64 =
        ap (trailing_zeros w64) none ∙ trailing_of_zero 64 in omega (arith, e, lt, length_word w))
    | inr some ↦ (let e : HoldsPlace (bits_of (w ∷ [])) (0 * 64 + trailing_zeros w64 w) =
        first_has (w ∷ []) 0 0 w (omega arith) (omega arith) refl small some (no_earlier w) in
        let z : 0 * 64 + trailing_zeros w64 w ≡ trailing_zeros w64 w = omega arith in rw z at e)
  ]
