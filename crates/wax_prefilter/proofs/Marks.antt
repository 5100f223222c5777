-- Where two bytes stand at a distance, found in vectors of bytes.
use Rattle.std.proofs.Common.{◌≡◌, ◌⊎◌, ℕ, ◌+◌, ◌-◌, ◌^◌, ◌<◌, ◌≤◌, nat_lt, true, false, true≢false, cond}
use Rattle.std.proofs.Common.{not, List, map, length, drop, get_or, replicate, w8, sym, ◌∙◌, ap, inl, inr}
use Rattle.std.proofs.{Common.arith, lemmas.Bool.cases_lt, lemmas.Bool.Decides.nat_tests}
use Rattle.std.proofs.{lemmas.List.get_or-drop, lemmas.List.Sums.{prefix_len-le-length, fails_before_first}}
use Rattle.std.proofs.lemmas.Simd.{tops_compared, length-sel_l, length-zip2, length-replicate, get_or-sel_l}
use Rattle.std.proofs.lemmas.Simd.{get_or-zip2, get_or-replicate, get_or-chunk, leading_from_mask_l}
use Rattle.std.proofs.lemmas.Simd.{trailing_mask_l, Each1-get_or}
use Rattle.std.specs.{Char.to_ascii_lowercase, List.position_or_len}
use Rattle.wax_prefilter.specs.declared.pair.Pair.{Pair}
use Rattle.wax_prefilter.specs.inner.Pairs.{NoPairBefore, ZeroWhere, is_zero, lowered}
use Rattle.wax_prefilter.proofs.Lowered.{get_lowered}
use lib.{Bits.{bit_or, bit_xor, xor_self}, Count.count_trailing_zeros}
use lib.Lanes.{Each1, chunk, mask_l, sel_l, top, zip2}
use mir.Val.{Fits, bits, hbits}

-- ---- how the lanes differ from the bytes of a pair

xored : (xs : List ℕ) (b k : ℕ) → length xs ≡ 32 → k < 32 → get_or xs k 0 ≡ b
    → get_or (zip2 bit_xor xs (replicate 32 b)) k 0 ≡ 0
xored xs b k long lt is =
    get_or-zip2 bit_xor xs (replicate 32 b) k 0 0 0 (omega (arith, lt, long))
    (omega (arith, lt, length-replicate 32 b))
    ∙ (λ i. bit_xor (is i) (get_or-replicate 32 k b 0 lt i)) ∙ xor_self b

length_xored : (xs : List ℕ) (b : ℕ) → length xs ≡ 32 → length (zip2 bit_xor xs (replicate 32 b)) ≡ 32
length_xored xs b long = length-zip2 bit_xor xs (replicate 32 b) (long ∙ sym (length-replicate 32 b)) ∙ long

abbrev differences : Pair → List ℕ → List ℕ → List ℕ
differences pair front back =
    zip2 bit_or (zip2 bit_xor front (replicate 32 pair.first)) (zip2 bit_xor back (replicate 32 pair.last))

pub length_differences : (pair : Pair) (front back : List ℕ) → length front ≡ 32 → length back ≡ 32
    → length (differences pair front back) ≡ 32
length_differences pair front back long wide =
    let first = length_xored front pair.first long in
    length-zip2 bit_or (zip2 bit_xor front (replicate 32 pair.first))
    (zip2 bit_xor back (replicate 32 pair.last)) (first ∙ sym (length_xored back pair.last wide))
    ∙ first

pub zero_where : (pair : Pair) (front back : List ℕ) → length front ≡ 32 → length back ≡ 32
    → ZeroWhere pair front back (differences pair front back)
zero_where pair front back long wide k lt first last =
    get_or-zip2 bit_or (zip2 bit_xor front (replicate 32 pair.first))
    (zip2 bit_xor back (replicate 32 pair.last)) k 0 0 0
    (omega (arith, lt, length_xored front pair.first long))
    (omega (arith, lt, length_xored back pair.last wide))
    ∙ (λ i. bit_or (xored front pair.first k long lt first i) (xored back pair.last k wide lt last i))

-- ---- the same in any case

abbrev pub with_bit : List ℕ → ℕ → List ℕ
with_bit xs bit = zip2 bit_or xs (replicate 32 bit)

pub length_with_bit : (xs : List ℕ) (bit : ℕ) → length xs ≡ 32 → length (with_bit xs bit) ≡ 32
length_with_bit xs bit long =
    length-zip2 bit_or xs (replicate 32 bit) (long ∙ sym (length-replicate 32 bit)) ∙ long

-- with a bit that turns what is the byte in lower case into it, a lane is the byte
pub lane_with_bit : (xs : List ℕ) (b bit k : ℕ) → length xs ≡ 32 → Each1 (Fits w8) xs
    → ((a : ℕ) → a < 256 → to_ascii_lowercase a ≡ b → bit_or a bit ≡ b) → k < 32
    → get_or (lowered true xs) k 0 ≡ b
    → get_or (with_bit xs bit) k 0 ≡ b
lane_with_bit xs b bit k long fit turns lt is =
    let inside : k < length xs = omega (arith, lt, long) in
    get_or-zip2 bit_or xs (replicate 32 bit) k 0 0 0 inside (omega (arith, lt, length-replicate 32 bit))
    ∙ ap (bit_or (get_or xs k 0)) (get_or-replicate 32 k bit 0 lt)
    ∙ turns (get_or xs k 0) (Each1-get_or (Fits w8) xs k 0 inside fit).fits
    (sym (get_lowered true xs k inside) ∙ is)

-- ---- the lesser of two lanes

abbrev pub lesser : List ℕ → List ℕ → List ℕ
lesser xs ys = sel_l (map (top (hbits w8)) (zip2 (λ a b. cond (nat_lt a b) (2 ^ bits w8 - 1) 0) xs ys)) xs ys

lesser_is : (xs ys : List ℕ) → lesser xs ys ≡ sel_l (zip2 nat_lt xs ys) xs ys
lesser_is xs ys = ap (λ ms. sel_l ms xs ys) (tops_compared w8 nat_lt xs ys)

length_tests : (xs ys : List ℕ) → length xs ≡ 32 → length ys ≡ 32 → length (zip2 nat_lt xs ys) ≡ 32
length_tests xs ys long wide = length-zip2 nat_lt xs ys (long ∙ sym wide) ∙ long

pub length_lesser : (xs ys : List ℕ) → length xs ≡ 32 → length ys ≡ 32 → length (lesser xs ys) ≡ 32
length_lesser xs ys long wide =
    let tests = length_tests xs ys long wide in
    ap length (lesser_is xs ys)
    ∙ length-sel_l (zip2 nat_lt xs ys) xs ys (tests ∙ sym long) (tests ∙ sym wide) ∙ tests

one_is_zero : (x y : ℕ) → (x ≡ 0) ⊎ (y ≡ 0) → cond (nat_lt x y) x y ≡ 0
one_is_zero x y (inl e) = grind (arith, nat_tests, e)
one_is_zero x y (inr e) = grind (arith, nat_tests, e)

pub lesser_zero : (xs ys : List ℕ) (k : ℕ) → length xs ≡ 32 → length ys ≡ 32 → k < 32
    → (get_or xs k 0 ≡ 0) ⊎ (get_or ys k 0 ≡ 0)
    → get_or (lesser xs ys) k 0 ≡ 0
lesser_zero xs ys k long wide lt h =
    ap (λ zs. get_or zs k 0) (lesser_is xs ys)
    ∙ get_or-sel_l (zip2 nat_lt xs ys) xs ys k 0 (omega (arith, lt, length_tests xs ys long wide))
    (omega (arith, lt, long)) (omega (arith, lt, wide))
    ∙ ap (λ b. cond b (get_or xs k 0) (get_or ys k 0))
    (get_or-zip2 nat_lt xs ys k 0 0 false (omega (arith, lt, long)) (omega (arith, lt, wide)))
    ∙ one_is_zero (get_or xs k 0) (get_or ys k 0) h

-- ---- the first lane that is 0

-- no bit is set
pub zero_none : (lanes : List ℕ) → length lanes ≡ 32 → mask_l (map is_zero lanes) ≡ 0
    → 32 ≡ position_or_len is_zero lanes
zero_none lanes long empty = sym (leading_from_mask_l is_zero lanes empty ∙ long)

-- the lowest bit that is set
pub zero_some : (lanes : List ℕ) → length lanes ≡ 32 → 0 < mask_l (map is_zero lanes)
    → count_trailing_zeros 64 (mask_l (map is_zero lanes)) ≡ position_or_len is_zero lanes
zero_some lanes long some = trailing_mask_l is_zero 64 lanes (omega (arith, long)) some

pub few_lanes : (lanes : List ℕ) → length lanes ≡ 32 → position_or_len is_zero lanes ≤ 32
few_lanes lanes long = omega (arith, prefix_len-le-length (λ b. not (is_zero b)) lanes, long)

module _ (pair : Pair) (xs : List ℕ) (at : ℕ) (room : at + pair.distance + 32 ≤ length xs)
    (none : NoPairBefore pair xs at) where
  -- the pair stands nowhere before the first lane that is 0
  pub before_lane : (lanes : List ℕ) (r : ℕ) → length lanes ≡ 32
      → ZeroWhere pair (chunk at 32 xs) (chunk at 32 (drop pair.distance xs)) lanes
      → r ≡ position_or_len is_zero lanes → NoPairBefore pair xs (at + r)
  before_lane lanes r long marked first k below stands = elim (cases_lt k at) [
    | inl less ↦ none k less stands
    | inr from ↦
        let i : ℕ = k - at in
        let at_i : at + i ≡ k = omega (arith, from) in
        let lt : i < 32 = omega (arith, few_lanes lanes long, first, below, from) in
        let fails : is_zero (get_or lanes i 0) ≡ false =
        fails_before_first is_zero lanes i 0 (omega (arith, first, below, from)) in
        let here : get_or (chunk at 32 xs) i 0 ≡ pair.first =
        get_or-chunk at 32 xs i 0 lt ∙ ap (λ j. get_or xs j 0) at_i ∙ stands.first in
        let there : get_or (chunk at 32 (drop pair.distance xs)) i 0 ≡ pair.last =
        get_or-chunk at 32 (drop pair.distance xs) i 0 lt ∙ get_or-drop pair.distance xs (at + i) 0
        ∙ ap (λ j. get_or xs j 0) (omega (arith, at_i)) ∙ stands.last in
        let is : is_zero (get_or lanes i 0) ≡ true = ap is_zero (marked i lt here there) in
        absurd (true≢false (sym is ∙ fails))
  ]
