-- Words as sets of bits.
use Rattle.std.proofs.Common.{◌≡◌, ◌≢◌, ℕ, ◌+◌, ◌*◌, ◌/◌, ◌%◌, ◌^◌, ◌<◌, ◌≤◌, Bool, true, false, eqb, List}
use Rattle.std.proofs.Common.{length, replicate, get_or, set, sym, ◌∙◌, ap, inl, inr, arith, ext_get_or}
use Rattle.std.proofs.Common.{length-set, get_or-set_same, get_or-set_other, eq-eqb, eqb-true, ne_eqb, w64}
use Rattle.std.proofs.{Common.true≢false, lemmas.List.{length-replicate, get_or-replicate, get_or_past}}
use Rattle.std.proofs.lemmas.List.FromFn.{length-map-range_with_len, get_or-map-range_with_len}
use Rattle.std.proofs.lemmas.Bool.{cases_eq, cases_lt}
use Rattle.std.proofs.lemmas.Nat.Bits.{bit_at_set_same, bit_at_set_other, bit_at_clear_same}
use Rattle.std.proofs.lemmas.Nat.Bits.{bit_at_clear_other, bit_at-zero, bit_at-trailing_zeros}
use Rattle.std.specs.{Prelude.{bit_and, bit_or}, Int.{bit_at, bit_not, trailing_zeros}}
use Rattle.wax_program.specs.{Bits.{bit_of, bits_of}, Places.{HoldsPlace, IsEmpty}}

pub length-bits_of : (words : List ℕ) → length (bits_of words) ≡ 64 * length words
unfolding bits_of
length-bits_of words = length-map-range_with_len (bit_of words) 0 (64 * length words)

pub get_or-bits_of : (words : List ℕ) (k : ℕ) → k < 64 * length words
    → get_or (bits_of words) k false ≡ bit_of words k
unfolding bits_of
get_or-bits_of words k h =
    get_or-map-range_with_len (bit_of words) 0 (64 * length words) k k false h (omega arith)

-- a place of a set has its bit, and lies in one of the words
pub bit_of_has : (words : List ℕ) (k : ℕ) → HoldsPlace (bits_of words) k
    → (k < 64 * length words) × (bit_at (get_or words (k / 64) 0) (k % 64) ≡ 1)
bit_of_has words k h =
    elim (cases_lt k (64 * length words)) [
      | inl within ↦ (within, eqb-true _ 1 (sym (get_or-bits_of words k within) ∙ h))
      | inr past ↦ absurd
          (true≢false (sym h ∙ get_or_past (bits_of words) k false (omega (arith, length-bits_of words))))
    ]

pub has_of_bit : (words : List ℕ) (k : ℕ) → k < 64 * length words
    → bit_at (get_or words (k / 64) 0) (k % 64) ≡ 1 → HoldsPlace (bits_of words) k
has_of_bit words k within e = get_or-bits_of words k within ∙ eq-eqb _ 1 e

pub empty_of_zeros : (words : List ℕ) → ((k : ℕ) → k < length words → get_or words k 0 ≡ 0)
    → IsEmpty (bits_of words)
empty_of_zeros words zeros k h =
    let b : (k < 64 * length words) × (bit_at (get_or words (k / 64) 0) (k % 64) ≡ 1) =
    bit_of_has words k h in
    let e : get_or words (k / 64) 0 ≡ 0 = zeros (k / 64) (omega (arith, b.0)) in
    let z : bit_at (get_or words (k / 64) 0) (k % 64) ≡ 0 =
    ap (λ x. bit_at x (k % 64)) e ∙ bit_at-zero (k % 64) in
    omega (arith, z, b.1)

pub empty_of_replicate : (n : ℕ) → IsEmpty (bits_of (replicate n 0))
empty_of_replicate n = empty_of_zeros (replicate n 0)
    (λ k h. get_or-replicate n k 0 0 (omega (arith, length-replicate {A = ℕ} n 0)))

-- a word is written that differs in one bit
pub bits_of-set : (words : List ℕ) (n v : ℕ) (b : Bool) → n < 64 * length words
    → eqb (bit_at v (n % 64)) 1 ≡ b
    → ((j : ℕ) → j < 64 → j ≢ n % 64 → bit_at v j ≡ bit_at (get_or words (n / 64) 0) j)
    → bits_of (set words (n / 64) v) ≡ set (bits_of words) n b
bits_of-set words n v b within here there =
    let len : length (set words (n / 64) v) ≡ length words = length-set words (n / 64) v in
    let n_in : n < length (bits_of words) = omega (arith, length-bits_of words) in
    let word_in : n / 64 < length words = omega arith in
    ext_get_or false _ _
    (length-bits_of _ ∙ ap (λ x. 64 * x) len ∙ sym (length-bits_of words)
    ∙ sym (length-set (bits_of words) n b))
    (λ k h.
    let k_in : k < 64 * length (set words (n / 64) v) = rw length-bits_of at h in
    get_or-bits_of _ k k_in
    ∙ (elim (cases_eq k n)
    as (λ _. bit_of (set words (n / 64) v) k ≡ get_or (set (bits_of words) n b) k false) [
      | inl same ↦
          rw same
          (ap (λ x. eqb (bit_at x (n % 64)) 1) (get_or-set_same words (n / 64) v 0 word_in)
          ∙ here
          ∙ sym (get_or-set_same (bits_of words) n b false n_in))
      | inr other ↦
          (elim (cases_eq (k / 64) (n / 64)) as (λ _. bit_of (set words (n / 64) v) k ≡ bit_of words k) [
            | inl row ↦
                ap (λ x. eqb (bit_at (get_or (set words (n / 64) v) x 0) (k % 64)) 1) row
                ∙ ap (λ x. eqb (bit_at x (k % 64)) 1) (get_or-set_same words (n / 64) v 0 word_in)
                ∙ ap (λ x. eqb x 1) (there (k % 64) (omega arith) (omega arith))
                ∙ ap (λ x. eqb (bit_at (get_or words x 0) (k % 64)) 1) (sym row)
            | inr apart ↦
                ap (λ x. eqb (bit_at x (k % 64)) 1) (get_or-set_other words (n / 64) (k / 64) v 0 apart)
          ])
          ∙ sym (get_or-bits_of words k (omega arith))
          ∙ sym (get_or-set_other (bits_of words) n k b false other)
    ]))

pub bits_of-insert : (words : List ℕ) (n word : ℕ) → n < 64 * length words → word ≡ get_or words (n / 64) 0
    → bits_of (set words (n / 64) (bit_or word (1 * 2 ^ (n % 64) % 2 ^ 64))) ≡ set (bits_of words) n true
bits_of-insert words n word within read =
    let low : n % 64 < 64 = omega arith in
    bits_of-set words n (bit_or word (1 * 2 ^ (n % 64) % 2 ^ 64)) true within
    (eq-eqb _ 1 (bit_at_set_same w64 word (n % 64) low))
    (λ j h other. bit_at_set_other w64 word (n % 64) low j other ∙ ap (λ x. bit_at x j) read)

pub bits_of-remove : (words : List ℕ) (n word : ℕ) → n < 64 * length words → word ≡ get_or words (n / 64) 0
    → bits_of (set words (n / 64) (bit_and word (bit_not w64 (1 * 2 ^ (n % 64) % 2 ^ 64))))
    ≡ set (bits_of words) n false
bits_of-remove words n word within read =
    let low : n % 64 < 64 = omega arith in
    let gone : bit_at (bit_and word (bit_not w64 (1 * 2 ^ (n % 64) % 2 ^ 64))) (n % 64) ≡ 0 =
    bit_at_clear_same w64 word (n % 64) low in
    bits_of-set words n (bit_and word (bit_not w64 (1 * 2 ^ (n % 64) % 2 ^ 64))) false within
    (ne_eqb _ 1 (omega (arith, gone)))
    (λ j h other. bit_at_clear_other w64 word (n % 64) low j h other ∙ ap (λ x. bit_at x j) read)

-- the lowest bit of the first word, from a word on, that isn't 0
module _ (words : List ℕ) (first index bits : ℕ) (low : first ≤ index) (within : index < length words)
    (at : bits ≡ get_or words index 0) (small : bits < 2 ^ 64) (some : bits ≢ 0)
    (before : (j : ℕ) → first ≤ j → j < index → get_or words j 0 ≡ 0) where
  zeros : (trailing_zeros w64 bits < 64) × (bit_at bits (trailing_zeros w64 bits) ≡ 1)
      × ((i : ℕ) → i < trailing_zeros w64 bits → bit_at bits i ≡ 0)
  zeros = bit_at-trailing_zeros w64 bits (omega (arith, some)) small

  pub first_has : HoldsPlace (bits_of words) (index * 64 + trailing_zeros w64 bits)
  first_has =
      let t : ℕ = trailing_zeros w64 bits in
      let z : t < 64 = zeros.0 in
      let q : (index * 64 + t) / 64 ≡ index = omega (arith, z) in
      let r : (index * 64 + t) % 64 ≡ t = omega (arith, z) in
      has_of_bit words (index * 64 + t) (omega (arith, z, within))
      (ap (λ x. bit_at (get_or words x 0) ((index * 64 + t) % 64)) q
      ∙ ap (λ x. bit_at (get_or words index 0) x) r ∙ ap (λ x. bit_at x t) (sym at) ∙ zeros.1)

  pub first_least : (k : ℕ) → HoldsPlace (bits_of words) k → 64 * first ≤ k
      → index * 64 + trailing_zeros w64 bits ≤ k
  first_least k h from =
      let b : (k < 64 * length words) × (bit_at (get_or words (k / 64) 0) (k % 64) ≡ 1) =
      bit_of_has words k h in
      elim (cases_lt k (index * 64 + trailing_zeros w64 bits)) [
        | inr done ↦ done
        | inl under ↦ elim (cases_lt (k / 64) index) [
          | inl earlier ↦
              absurd (let e : bit_at (get_or words (k / 64) 0) (k % 64) ≡ 0 =
              ap (λ x. bit_at x (k % 64)) (before (k / 64) (omega (arith, from)) earlier)
              ∙ bit_at-zero (k % 64) in omega (arith, e, b.1))
          | inr later ↦
              absurd (let q : k / 64 ≡ index = omega (arith, under, zeros.0) in
              let e : bit_at (get_or words (k / 64) 0) (k % 64) ≡ 0 =
              ap (λ x. bit_at (get_or words x 0) (k % 64)) q ∙ ap (λ x. bit_at x (k % 64)) (sym at)
              ∙ zeros.2 (k % 64) (omega (arith, under, q)) in
              omega (arith, e, b.1))
        ]
      ]

-- all words from one on are 0
pub none_from : (words : List ℕ) (first : ℕ) → ((j : ℕ) → first ≤ j → j < length words → get_or words j 0 ≡ 0)
    → (k : ℕ) → HoldsPlace (bits_of words) k → k < 64 * first
none_from words first zeros k h =
    let b : (k < 64 * length words) × (bit_at (get_or words (k / 64) 0) (k % 64) ≡ 1) =
    bit_of_has words k h in
    elim (cases_lt k (64 * first)) [
      | inl done ↦ done
      | inr from ↦
          absurd (let e : bit_at (get_or words (k / 64) 0) (k % 64) ≡ 0 =
          ap (λ x. bit_at x (k % 64)) (zeros (k / 64) (omega (arith, from)) (omega (arith, b.0)))
          ∙ bit_at-zero (k % 64) in omega (arith, e, b.1))
    ]
