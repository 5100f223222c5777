-- Parts of a text by places in its characters and in its bytes.
use Rattle.std.proofs.Common.{◌≡◌, ℕ, zero, suc, ◌+◌, ◌-◌, ◌<◌, ◌≤◌, List, [], ◌∷◌, ◌++◌, length, map, take}
use Rattle.std.proofs.Common.{drop, chars, encode_utf8, encode_utf8_all, get_or, refl, sym, ◌∙◌, ap, subst}
use Rattle.std.proofs.Common.{arith, length-append}
use Rattle.std.proofs.Math.Seq.{take-add, take-append_seam, drop-append_seam, take-suc}
use Rattle.std.proofs.lemmas.List.{take-append-drop}
use Rattle.std.proofs.lemmas.List.Elements.{All-cons, All-head, All-nil, All-tail}
use Rattle.std.proofs.lemmas.Str.{encodes-append, encodes-chars, encodes_same, length-encode, len_utf8_bounds}
use Rattle.std.proofs.lemmas.Str.{IsCharBoundary-at_seam, IsUtf8-between, IsUtf8-past_char}
use Rattle.std.specs.{List.All, Str.{IsUtf8, IsCharBoundary}, Char.len_utf8}
use Rattle.wax_token.specs.Reads.{utf8_len}
use Rattle.wax_query.specs.Parts.{IsPart, cut}
use Rattle.wax_capture.specs.{inner.Bytes.{byte_at, in_bytes}, inner.Parts.{IsWithin, part_between, parts}}

-- ---- how many bytes characters have
pub length-encodes : (cs : List ℕ) → length (encode_utf8_all cs) ≡ utf8_len cs
length-encodes [] = refl
length-encodes (c ∷ cs) =
    omega (arith, length-append (encode_utf8 c) (encode_utf8_all cs), length-encode c, length-encodes cs)

pub utf8_len-append : (x y : List ℕ) → utf8_len (x ++ y) ≡ utf8_len x + utf8_len y
utf8_len-append [] y = omega arith
utf8_len-append (c ∷ x) y = omega (arith, utf8_len-append x y)

pub chars_most : (cs : List ℕ) → length cs ≤ utf8_len cs
chars_most [] = omega arith
chars_most (c ∷ cs) = omega (arith, chars_most cs, (len_utf8_bounds c).0)

-- up to a place, and from there on
pub byte_at_split : (cs : List ℕ) (n : ℕ) → utf8_len cs ≡ byte_at cs n + utf8_len (drop n cs)
byte_at_split cs n = ap utf8_len (sym (take-append-drop n cs)) ∙ utf8_len-append (take n cs) (drop n cs)

pub byte_at_add : (cs : List ℕ) (n m : ℕ) → byte_at cs (n + m) ≡ byte_at cs n + utf8_len (take m (drop n cs))
byte_at_add cs n m = ap utf8_len (take-add n m cs) ∙ utf8_len-append (take n cs) (take m (drop n cs))

pub byte_at_between : (cs : List ℕ) (n m : ℕ) → n ≤ m
    → byte_at cs m ≡ byte_at cs n + utf8_len (take (m - n) (drop n cs))
byte_at_between cs n m le = let e : m ≡ n + (m - n) = omega (arith, le) in
    ap (byte_at cs) e ∙ byte_at_add cs n (m - n)

pub byte_at_most : (cs : List ℕ) (n : ℕ) → byte_at cs n ≤ utf8_len cs
byte_at_most cs n = omega (arith, byte_at_split cs n)

pub byte_at_next : (cs : List ℕ) (i c : ℕ) → i < length cs → c ≡ get_or cs i c
    → byte_at cs (i + 1) ≡ byte_at cs i + len_utf8 c
byte_at_next cs i c lt e =
    let n : i + 1 ≡ suc i = omega arith in
    let one : utf8_len (c ∷ []) ≡ len_utf8 c = omega arith in
    ap (byte_at cs) n ∙ ap utf8_len (take-suc cs i c lt ∙ ap (λ z. take i cs ++ z ∷ []) (sym e))
    ∙ utf8_len-append (take i cs) (c ∷ []) ∙ ap (λ k. byte_at cs i + k) one

pub text_len : (bytes : List ℕ) → IsUtf8 bytes → utf8_len (chars bytes) ≡ length bytes
text_len bytes u = sym (length-encodes (chars bytes)) ∙ ap length (encodes-chars bytes u)

-- where each character is one byte
pub same_place : (cs : List ℕ) → utf8_len cs ≡ length cs → (n : ℕ) → n ≤ length cs → byte_at cs n ≡ n
same_place [] e zero le = refl
same_place [] e (suc n) le = absurd (omega (arith, le))
same_place (c ∷ cs) e zero le = refl
same_place (c ∷ cs) e (suc n) le =
    let one : (len_utf8 c ≡ 1) × (utf8_len cs ≡ length cs) = (
      omega (arith, e, (len_utf8_bounds c).0, chars_most cs),
      omega (arith, e, (len_utf8_bounds c).0, chars_most cs),
    ) in
    omega (arith, one.0, same_place cs one.1 n (omega (arith, le)))

pub same_places : (cs : List ℕ) (places : List (ℕ × ℕ)) → utf8_len cs ≡ length cs → All (IsWithin cs) places
    → places ≡ map (in_bytes cs) places
same_places cs [] e within = refl
same_places cs (p ∷ places) e within =
    let here : IsWithin cs p = All-head (IsWithin cs) p places within in
    let start : p.0 ≡ byte_at cs p.0 = sym (same_place cs e p.0 (omega (arith, here.ordered, here.ends))) in
    let end : p.1 ≡ byte_at cs p.1 = sym (same_place cs e p.1 here.ends) in
    let same : p ≡ in_bytes cs p = λ i. (start i, end i) in
    ap (λ z. z ∷ places) same
    ∙ ap (λ z. in_bytes cs p ∷ z) (same_places cs places e (All-tail (IsWithin cs) p places within))

-- ---- parts
rest_utf8 : (cs : List ℕ) (n : ℕ) → IsUtf8 (encode_utf8_all cs) → IsUtf8 (encode_utf8_all (drop n cs))
rest_utf8 cs zero u = u
rest_utf8 [] (suc n) u = u
rest_utf8 (c ∷ cs) (suc n) u =
    rest_utf8 cs n (IsUtf8-past_char (encode_utf8_all (c ∷ cs)) (encode_utf8_all cs) c u refl)

seam : (cs : List ℕ) (n : ℕ) → encode_utf8_all cs ≡ encode_utf8_all (take n cs) ++ encode_utf8_all (drop n cs)
seam cs n = ap encode_utf8_all (sym (take-append-drop n cs)) ∙ encodes-append (take n cs) (drop n cs)

rest_bytes : (cs : List ℕ) (n : ℕ) → drop (byte_at cs n) (encode_utf8_all cs) ≡ encode_utf8_all (drop n cs)
rest_bytes cs n =
    ap (λ k. drop k (encode_utf8_all cs)) (sym (length-encodes (take n cs)))
    ∙ ap (drop (length (encode_utf8_all (take n cs)))) (seam cs n)
    ∙ drop-append_seam (encode_utf8_all (take n cs)) (encode_utf8_all (drop n cs))

module _ (cs : List ℕ) (u : IsUtf8 (encode_utf8_all cs)) where
  boundary : (n : ℕ) → IsCharBoundary (encode_utf8_all cs) (byte_at cs n)
  boundary n =
      subst (IsCharBoundary (encode_utf8_all cs)) (length-encodes (take n cs))
      (IsCharBoundary-at_seam (encode_utf8_all cs) (encode_utf8_all (take n cs)) (encode_utf8_all (drop n cs))
      (seam cs n) (rest_utf8 cs n u))

  part_is : (p : ℕ × ℕ) → IsWithin cs p → IsPart (encode_utf8_all cs) (in_bytes cs p)
  part_is p within = record {
    ordered = omega (arith, byte_at_between cs p.0 p.1 within.ordered);
    starts = boundary p.0;
    ends = boundary p.1;
  }

  part_bytes : (p : ℕ × ℕ) → IsWithin cs p → take (byte_at cs p.1 - byte_at cs p.0)
      (drop (byte_at cs p.0) (encode_utf8_all cs)) ≡ encode_utf8_all (part_between cs p)
  part_bytes p within =
      let n : byte_at cs p.1 - byte_at cs p.0 ≡ length (encode_utf8_all (part_between cs p)) =
      omega (arith, byte_at_between cs p.0 p.1 within.ordered, length-encodes (part_between cs p)) in
      ap (take (byte_at cs p.1 - byte_at cs p.0)) (rest_bytes cs p.0 ∙ seam (drop p.0 cs) (p.1 - p.0))
      ∙ ap (λ k.
      take k (encode_utf8_all (part_between cs p) ++ encode_utf8_all (drop (p.1 - p.0) (drop p.0 cs)))) n
      ∙ take-append_seam (encode_utf8_all (part_between cs p))
      (encode_utf8_all (drop (p.1 - p.0) (drop p.0 cs)))

  cut_is : (p : ℕ × ℕ) → IsWithin cs p → cut (encode_utf8_all cs) (in_bytes cs p) ≡ part_between cs p
  cut_is p within =
      let is = part_is p within in
      let bytes : List ℕ =
      take (byte_at cs p.1 - byte_at cs p.0) (drop (byte_at cs p.0) (encode_utf8_all cs)) in
      let whole : IsUtf8 bytes = IsUtf8-between (encode_utf8_all cs) (byte_at cs p.0)
      (byte_at cs p.1) u is.ordered is.starts is.ends in
      encodes_same (chars bytes) (part_between cs p) (encodes-chars bytes whole ∙ part_bytes p within)

  pub parts_cut : (places : List (ℕ × ℕ)) → All (IsWithin cs) places
      → map (cut (encode_utf8_all cs)) (map (in_bytes cs) places) ≡ parts cs places
  parts_cut [] within = refl
  parts_cut (p ∷ places) within =
      ap (λ z. z ∷ map (cut (encode_utf8_all cs)) (map (in_bytes cs) places))
      (cut_is p (All-head (IsWithin cs) p places within))
      ∙ ap (λ z. part_between cs p ∷ z) (parts_cut places (All-tail (IsWithin cs) p places within))

  pub all_parts : (places : List (ℕ × ℕ)) → All (IsWithin cs) places
      → All (IsPart (encode_utf8_all cs)) (map (in_bytes cs) places)
  all_parts [] within = All-nil (IsPart (encode_utf8_all cs))
  all_parts (p ∷ places) within =
      All-cons (IsPart (encode_utf8_all cs)) (in_bytes cs p) (map (in_bytes cs) places)
      (part_is p (All-head (IsWithin cs) p places within))
      (all_parts places (All-tail (IsWithin cs) p places within))

-- the parts of a text that was given as bytes
module _ (bytes : List ℕ) (u : IsUtf8 bytes) (places captures : List (ℕ × ℕ))
    (within : All (IsWithin (chars bytes)) places) (is : captures ≡ map (in_bytes (chars bytes)) places) where
  same : encode_utf8_all (chars bytes) ≡ bytes
  same = encodes-chars bytes u

  whole : IsUtf8 (encode_utf8_all (chars bytes))
  whole = subst IsUtf8 (sym same) u

  pub text_parts : map (cut bytes) captures ≡ parts (chars bytes) places
  text_parts =
      ap (map (cut bytes)) is
      ∙ subst (λ z. map (cut z) (map (in_bytes (chars bytes)) places) ≡ parts (chars bytes) places) same
      (parts_cut (chars bytes) whole places within)

  pub text_all_parts : All (IsPart bytes) captures
  text_all_parts =
      subst (All (IsPart bytes)) (sym is) (subst (λ z. All (IsPart z) (map (in_bytes (chars bytes)) places))
      same (all_parts (chars bytes) whole places within))
