-- The first line feed, found in vectors of bytes.
use Rattle.std.proofs.Common.{◌≡◌, ℕ, ◌+◌, ◌*◌, ◌<◌, ◌≤◌, Bool, true, false, cond, not, List, [], ◌∷◌, map}
use Rattle.std.proofs.{Common.{length, get_or, suc, sym, inl, inr, eqb-true, arith}, lemmas.Bool.cases_lt}
use Rattle.std.proofs.lemmas.List.Sums.{position_or_len_is, passes_at_first}
use Rattle.std.proofs.lemmas.Simd.{length-chunk, trailing_mask_l, run_in_chunk_fails, run_in_chunk_stops}
use Rattle.std.proofs.lemmas.Simd.{none_from_empty_mask}
use Rattle.std.specs.List.{position_or_len, prefix_len}
use Rattle.wax_lines.specs.inner.Sifted.{is_feed}
use lib.{Count.count_trailing_zeros, Lanes.{chunk, mask_l}}

step : (b : Bool) (m n l : ℕ) → 0 < cond b 1 0 + 2 * m → (0 < m → n < l) → cond (not b) (1 + n) 0 < suc l
step true m n l some shorter = omega arith
step false m n l some shorter = omega (arith, shorter (omega arith))

-- where a bit is set, a byte passes the test
passes : (p : ℕ → Bool) (xs : List ℕ) → 0 < mask_l (map p xs) → prefix_len (λ x. not (p x)) xs < length xs
passes p [] some = absurd (omega arith)
passes p (x ∷ xs) some =
    step (p x) (mask_l (map p xs)) (prefix_len (λ y. not (p y)) xs) (length xs) some (passes p xs)

module _ (xs : List ℕ) (at n : ℕ) (room : at + n ≤ length xs)
    (none : (k : ℕ) → k < at → is_feed (get_or xs k 0) ≡ false) where
  -- no bit is set
  pub none_further : mask_l (map is_feed (chunk at n xs)) ≡ 0 → (k : ℕ) → k < at + n
      → is_feed (get_or xs k 0) ≡ false
  none_further empty k below =
      elim (cases_lt k at) [
        | inl before ↦ none k before
        | inr from ↦ none_from_empty_mask is_feed xs at n 0 room empty k (omega arith) below
      ]

  -- the lowest bit that is set
  module _ (few : n ≤ 64) (some : 0 < mask_l (map is_feed (chunk at n xs))) where
    abbrev lowest : ℕ
    lowest = count_trailing_zeros 64 (mask_l (map is_feed (chunk at n xs)))

    counted : lowest ≡ prefix_len (λ x. not (is_feed x)) (chunk at n xs)
    counted = trailing_mask_l is_feed 64 (chunk at n xs) (omega (arith, length-chunk at n xs room)) some

    inside : lowest < n
    inside = omega (arith, counted, length-chunk at n xs room, passes is_feed (chunk at n xs) some)

    none_before : (k : ℕ) → k < at + lowest → is_feed (get_or xs k 0) ≡ false
    none_before k below =
        elim (cases_lt k at) [
          | inl before ↦ none k before
          | inr from ↦ run_in_chunk_fails is_feed xs at n lowest 0 room counted k (omega arith) below
        ]

    pub found_at : at + lowest ≡ position_or_len is_feed xs
    found_at = sym (position_or_len_is is_feed xs (at + lowest) 0 (omega (arith, inside)) none_before
        (λ _. run_in_chunk_stops is_feed xs at n lowest 0 room counted inside))

-- what stands at the first line feed
pub byte_at_feed : (xs : List ℕ) → position_or_len is_feed xs < length xs
    → get_or xs (position_or_len is_feed xs) 0 ≡ 10
byte_at_feed xs inside =
    eqb-true (get_or xs (position_or_len is_feed xs) 0) 10 (passes_at_first is_feed xs 0 inside)
