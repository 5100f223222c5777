-- The last `/` of some bytes, found in vectors of them.
use Rattle.std.proofs.Common.{◌≡◌, ℕ, zero, suc, ◌+◌, ◌-◌, ◌^◌, ◌<◌, ◌≤◌, Bool, true, false, cond, List, []}
use Rattle.std.proofs.Common.{◌∷◌, ◌++◌, map, length, take, drop, get_or, chars, encode_utf8_all, IsUtf8}
use Rattle.std.proofs.Common.{refl, sym, ◌∙◌, ap, subst, inl, inr, eqb-true, arith, drop-cons, length-append}
use Rattle.std.proofs.{Common.pow-suc, Math.Utf8.encode, lemmas.Bool.{cases_lt, eqb-false}}
use Rattle.std.proofs.lemmas.List.{get_or-append-add, get_or-drop, get_or-map, length-drop, length-map}
use Rattle.std.proofs.lemmas.List.{take-append-drop}
use Rattle.std.proofs.lemmas.Str.{IsCharBoundary-after_ascii, IsCharBoundary-before_ascii, IsUtf8-drop}
use Rattle.std.proofs.{lemmas.Str.{IsUtf8-take, encodes-chars}, lemmas.Nat.leading_top}
use Rattle.std.proofs.lemmas.Simd.{length-chunk, get_or-chunk, mask_l-lt, none_from_empty_mask}
use Rattle.std.specs.Str.{IsCharBoundary}
use Rattle.wax_program.specs.Last.{IsCutBetween, IsLastName}
use Rattle.wax_program.specs.inner.Slashes.{LastNameAt, NoSlashFrom, is_slash}
use Rattle.wax_program.proofs.LastNames.{cut_between, cut_chars, not_cut}
use Rattle.wax_token.specs.Meaning.{HasNoSlash}
use lib.{Count.count_leading_zeros, Lanes.{chunk, mask_l}}

-- ---- the highest bit of a mask

abbrev IsHighest : List Bool → ℕ → Type 0
IsHighest bs j = (j < length bs) × (get_or bs j false ≡ true) × ((k : ℕ) → j < k → get_or bs k false ≡ false)

above_one : (bs : List Bool) → mask_l bs ≡ 0 → (k : ℕ) → get_or bs k false ≡ false
above_one [] e k = refl
above_one (true ∷ bs) e k = absurd (omega (arith, e))
above_one (false ∷ bs) e zero = refl
above_one (false ∷ bs) e (suc k) = above_one bs (omega (arith, e)) k

bit_below : (b : Bool) → cond b 1 0 < 2
bit_below true = omega arith
bit_below false = omega arith

higher : (b : Bool) (bs : List Bool) (j : ℕ) → IsHighest bs j → IsHighest (b ∷ bs) (suc j)
higher b bs j (inside, set, none) = (omega (arith, inside), set, unset)
  where
    unset : (k : ℕ) → suc j < k → get_or (b ∷ bs) k false ≡ false
    unset zero lt = absurd (omega (arith, lt))
    unset (suc k) lt = none k (omega (arith, lt))

highest : (bs : List Bool) (j : ℕ) → 2 ^ j ≤ mask_l bs → mask_l bs < 2 ^ suc j → IsHighest bs j
highest [] j low high = absurd (omega (arith, low, high))
highest (true ∷ bs) zero low high = (omega arith, refl, unset)
  where
    unset : (k : ℕ) → 0 < k → get_or (true ∷ bs) k false ≡ false
    unset zero lt = absurd (omega (arith, lt))
    unset (suc k) lt = above_one bs (omega (arith, high)) k
highest (false ∷ bs) zero low high = absurd (omega (arith, low, high))
highest (b ∷ bs) (suc j) low high =
    higher b bs j (highest bs j (omega (arith, bit_below b, low, pow-suc 2 j))
    (omega (arith, bit_below b, high, pow-suc 2 (suc j))))

-- ---- the last `/` in a vector that ends at a place from which there is none

module _ (bytes : List ℕ) (end : ℕ) (room : 32 ≤ end) (inside : end ≤ length bytes)
    (none : NoSlashFrom end bytes) where
  abbrev lanes : List ℕ
  lanes = chunk (end - 32) 32 bytes

  abbrev mask : ℕ
  mask = mask_l (map is_slash lanes)

  long : length lanes ≡ 32
  long = length-chunk (end - 32) 32 bytes (omega (arith, room, inside))

  marks : length (map is_slash lanes) ≡ 32
  marks = length-map lanes is_slash ∙ long

  mark_of : (i : ℕ) → i < 32 → get_or (map is_slash lanes) i false ≡ is_slash (get_or bytes (end - 32 + i) 0)
  mark_of i lt = get_or-map is_slash lanes i 0 false (omega (arith, lt, long))
      ∙ ap is_slash (get_or-chunk (end - 32) 32 bytes i 0 lt)

  pub none_here : mask ≡ 0 → NoSlashFrom (end - 32) bytes
  none_here empty k from below = elim (cases_lt k end) [
    | inr after ↦ none k after below
    | inl before ↦ eqb-false _ _ (none_from_empty_mask is_slash bytes (end - 32) 32 0
        (omega (arith, room, inside)) empty k from (omega (arith, before, room)))
  ]

  pub last_here : 0 < mask → LastNameAt (end + 32 - count_leading_zeros 64 mask) bytes
  last_here some =
      let small : mask < 2 ^ 32 = subst (λ n. mask < 2 ^ n) marks (mask_l-lt (map is_slash lanes)) in
      let (j, counted, low, high) = leading_top 64 mask some (omega (arith, small)) in
      let (within, set, unset) = highest (map is_slash lanes) j low high in
      let lt : j < 32 = omega (arith, within, marks) in
      record {
        inside = omega (arith, counted, lt, room, inside);
        after = λ _. ap (λ k. get_or bytes k 0) (omega (arith, counted, lt, room))
            ∙ eqb-true _ _ (sym (mark_of j lt) ∙ set);
        none = λ k from below. elim (cases_lt k end) [
          | inr after ↦ none k after below
          | inl before ↦
              let i : ℕ = k - (end - 32) in
              let there : end - 32 + i ≡ k = omega (arith, from, counted, room) in
              eqb-false _ _ (ap (λ n. is_slash (get_or bytes n 0)) (sym there) ∙ sym
              (mark_of i (omega (arith, before, room))) ∙ unset i (omega (arith, from, counted, room)))
        ];
      }

-- ---- the name that begins there

slash_first : (c : ℕ) (rest : List ℕ) → c ≡ 47 → (0 < length (encode c ++ rest))
    × (get_or (encode c ++ rest) 0 0 ≡ 47)
unfolding encode
slash_first c rest e = subst (λ d. (0 < length (encode d ++ rest)) × (get_or (encode d ++ rest) 0 0 ≡ 47))
    (sym e) (omega arith, refl)

no_slash_of : (cs : List ℕ) → NoSlashFrom 0 (encode_utf8_all cs) → HasNoSlash cs
no_slash_of [] none = tt
no_slash_of (c ∷ cs) none = (
  λ e. (let (some, is) = slash_first c (encode_utf8_all cs) e in none 0 (omega arith) some is),
  no_slash_of cs (λ k from lt is. none (length (encode c) + k) (omega arith)
      (omega (arith, lt, length-append (encode c) (encode_utf8_all cs)))
      (get_or-append-add (encode c) (encode_utf8_all cs) k 0 ∙ is)),
)

no_slash_in : (bytes : List ℕ) → IsUtf8 bytes → NoSlashFrom 0 bytes → HasNoSlash (chars bytes)
no_slash_in bytes utf8 none =
    no_slash_of (chars bytes) (subst (NoSlashFrom 0) (sym (encodes-chars bytes utf8)) none)

pub boundary_at : (bytes : List ℕ) (at : ℕ) → IsUtf8 bytes → LastNameAt at bytes → 0 < at
    → IsCharBoundary bytes at
boundary_at bytes at utf8 begins some =
    subst (IsCharBoundary bytes) (omega (arith, some))
    (IsCharBoundary-after_ascii bytes (at - 1) utf8 (omega (arith, begins.inside, some))
    (omega (arith, begins.after some)))

pub last_name_from : (bytes name : List ℕ) (at : ℕ) → IsUtf8 bytes → LastNameAt at bytes
    → name ≡ drop at bytes
    → IsLastName (chars bytes) (chars name) × IsCutBetween bytes name
last_name_from bytes name at utf8 begins e = elim (cases_lt 0 at) [
  | inr first ↦
      let start : at ≡ 0 = omega (arith, first) in
      let whole : name ≡ bytes = e ∙ ap (λ n. drop n bytes) start in (
        (
          subst (λ b. HasNoSlash (chars b)) (sym whole)
              (no_slash_in bytes utf8 (subst (λ n. NoSlashFrom n bytes) start begins.none)),
          inl (ap chars (sym whole)),
        ),
        subst (IsCutBetween bytes) (sym whole) (not_cut bytes),
      )
  | inl some ↦
      let front : List ℕ = take (at - 1) bytes in
      let next : suc (at - 1) ≡ at = omega (arith, some) in
      let lt : at - 1 < length bytes = omega (arith, begins.inside, some) in
      let parted : bytes ≡ front ++ 47 ∷ name =
      sym (take-append-drop (at - 1) bytes)
      ∙ ap (λ r. front ++ r) (drop-cons bytes (at - 1) 0 lt ∙ (λ i. begins.after some i ∷ drop (next i) bytes)
      ∙ ap (λ r. 47 ∷ r) (sym e)) in
      let front_utf8 : IsUtf8 front = IsUtf8-take bytes (at - 1) utf8
      (IsCharBoundary-before_ascii bytes (at - 1) lt (omega (arith, begins.after some))) in
      let name_utf8 : IsUtf8 name =
      subst IsUtf8 (sym e) (IsUtf8-drop bytes at utf8 (boundary_at bytes at utf8 begins some)) in
      let none : NoSlashFrom 0 name = λ k _ below is. begins.none (at + k) (omega arith)
      (omega (arith, below, begins.inside, ap length e, length-drop at bytes))
      (sym (get_or-drop at bytes k 0) ∙ ap (λ n. get_or n k 0) (sym e) ∙ is) in (
        (
          no_slash_in name name_utf8 none,
          inr (chars front, ap chars parted ∙ cut_chars front name front_utf8 name_utf8),
        ),
        subst (λ b. IsCutBetween b name) (sym parted) (cut_between front name front_utf8 name_utf8),
      )
]
