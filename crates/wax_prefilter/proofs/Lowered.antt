-- Bytes as they are or, in any case, in lower case.
use Rattle.std.proofs.Common.{◌≡◌, ◌∙◌, ℕ, ◌<◌, ◌==◌, Bool, true, false, List, [], ◌∷◌, ◌++◌, length, drop}
use Rattle.std.proofs.Common.{take, get_or, cond, bit_or, eqb-true, refl, sym, ap, arith}
use Rattle.std.proofs.lemmas.List.{drop-map, get_or-map, length-map, map-append, take-map}
use Rattle.std.proofs.lemmas.List.FromFn.{get_or-range_with_len, length-range_with_len}
use Rattle.std.specs.{Char.{is_ascii_lowercase, to_ascii_lowercase}, List.{list_all, range_with_len}}
use Rattle.wax_prefilter.specs.{declared.pair.Pair.Pair, inner.Pairs.{ZeroWhere, lowered, lowered_byte}}
use Rattle.wax_prefilter.proofs.AsciiForms.{all_of}
use lib.Lanes.{chunk}

pub length_lowered : (in_any_case : Bool) (xs : List ℕ) → length (lowered in_any_case xs) ≡ length xs
length_lowered false xs = refl
length_lowered true xs = length-map xs to_ascii_lowercase

pub lowered_append : (in_any_case : Bool) (xs ys : List ℕ)
    → lowered in_any_case (xs ++ ys) ≡ lowered in_any_case xs ++ lowered in_any_case ys
lowered_append false xs ys = refl
lowered_append true xs ys = map-append to_ascii_lowercase xs ys

pub lowered_feed : (in_any_case : Bool) (xs : List ℕ)
    → lowered in_any_case (xs ++ 10 ∷ []) ≡ lowered in_any_case xs ++ 10 ∷ []
lowered_feed false xs = refl
lowered_feed true xs = map-append to_ascii_lowercase xs (10 ∷ [])

pub lowered_rest : (in_any_case : Bool) (xs : List ℕ)
    → lowered in_any_case (10 ∷ xs) ≡ 10 ∷ lowered in_any_case xs
lowered_rest false xs = refl
lowered_rest true xs = refl

pub lowered_drop : (in_any_case : Bool) (n : ℕ) (xs : List ℕ)
    → lowered in_any_case (drop n xs) ≡ drop n (lowered in_any_case xs)
lowered_drop false n xs = refl
lowered_drop true n xs = sym (drop-map to_ascii_lowercase n xs)

pub get_lowered : (in_any_case : Bool) (xs : List ℕ) (k : ℕ) → k < length xs
    → get_or (lowered in_any_case xs) k 0 ≡ lowered_byte in_any_case (get_or xs k 0)
get_lowered false xs k lt = refl
get_lowered true xs k lt = get_or-map to_ascii_lowercase xs k 0 0 lt

lowered_chunk : (in_any_case : Bool) (i n : ℕ) (xs : List ℕ)
    → lowered in_any_case (chunk i n xs) ≡ chunk i n (lowered in_any_case xs)
lowered_chunk false i n xs = refl
lowered_chunk true i n xs =
    sym (ap (take n) (drop-map to_ascii_lowercase i xs) ∙ take-map to_ascii_lowercase n (drop i xs))

-- vectors of some bytes in lower case are those of the bytes in lower case
pub zero_lowered : (in_any_case : Bool) (pair : Pair) (xs : List ℕ) (at : ℕ) (lanes : List ℕ)
    → ZeroWhere pair (lowered in_any_case (chunk at 32 xs))
    (lowered in_any_case (chunk at 32 (drop pair.distance xs))) lanes
    → ZeroWhere pair (chunk at 32 (lowered in_any_case xs))
    (chunk at 32 (drop pair.distance (lowered in_any_case xs))) lanes
zero_lowered in_any_case pair xs at lanes zero k lt first last =
    zero k lt (ap (λ ys. get_or ys k 0) (lowered_chunk in_any_case at 32 xs) ∙ first)
    (ap (λ ys. get_or ys k 0) (lowered_chunk in_any_case at 32 (drop pair.distance xs)
    ∙ ap (chunk at 32) (lowered_drop in_any_case pair.distance xs)) ∙ last)

-- ---- letters in both cases

abbrev is_bit_of_case : ℕ → Bool
is_bit_of_case b =
    let lower = to_ascii_lowercase b in bit_or b (cond (is_ascii_lowercase lower) 32 0) == lower

all_bytes : list_all is_bit_of_case (range_with_len 0 256) ≡ true
all_bytes = refl

-- with the bit of its letter in lower case, a byte is that letter
pub bit_of_case : (b : ℕ) → b < 256
    → bit_or b (cond (is_ascii_lowercase (to_ascii_lowercase b)) 32 0) ≡ to_ascii_lowercase b
bit_of_case b lt = eqb-true _ _ (all_of is_bit_of_case (range_with_len 0 256) b all_bytes
    (b, omega (arith, lt, length-range_with_len 0 256), get_or-range_with_len 0 256 b b lt ∙ omega arith))
