-- Texts as bytes and as characters.
use Rattle.std.proofs.Common.{◌≡◌, ◌==◌, Bool, true, false, eqb-true, ℕ, ◌+◌, ◌-◌, ◌≤◌, List, [], ◌∷◌, ◌++◌}
use Rattle.std.proofs.Common.{length, take, chars, encode_utf8, encode_utf8_all, refl, sym, ◌∙◌, ap, subst}
use Rattle.std.proofs.Common.{arith, length-append, append_assoc, append-nil}
use Rattle.std.proofs.lemmas.Str.{encodes-chars, encodes-append, encodes_same, chars-append, chars_past_char}
use Rattle.std.proofs.lemmas.Str.{chars-nil, len_utf8_bounds, IsUtf8-encode, IsCharBoundary-at_seam}
use Rattle.std.proofs.Math.Seq.{take-append_seam}
use Rattle.std.specs.{Str.{IsUtf8, IsCharBoundary}, Char.IsScalar}
use Rattle.wax_token.specs.Reads.{Span, utf8_len}
use Rattle.wax_parse.specs.{Accepted.{IsPlace, first_len}, inner.Reading.{HasSuffix, HasProperSuffix}}
use Rattle.wax_token.proofs.Bytes.{bytes_len}

-- where the characters of a text end in those of another, so do its bytes
pub seam : (bs rest x : List ℕ) → IsUtf8 bs → IsUtf8 rest → chars bs ≡ x ++ chars rest
    → bs ≡ encode_utf8_all x ++ rest
seam bs rest x u v e =
    sym (encodes-chars bs u) ∙ ap encode_utf8_all e ∙ encodes-append x (chars rest)
    ∙ ap (λ z. encode_utf8_all x ++ z) (encodes-chars rest v)

pub seam_len : (bs rest x : List ℕ) → IsUtf8 bs → IsUtf8 rest → chars bs ≡ x ++ chars rest
    → length bs ≡ length (encode_utf8_all x) + length rest
seam_len bs rest x u v e = ap length (seam bs rest x u v e) ∙ length-append (encode_utf8_all x) rest

pub seam_boundary : (bs rest x : List ℕ) → IsUtf8 bs → IsUtf8 rest → chars bs ≡ x ++ chars rest
    → IsCharBoundary bs (length bs - length rest)
seam_boundary bs rest x u v e =
    let n : length (encode_utf8_all x) ≡ length bs - length rest = omega (arith, seam_len bs rest x u v e) in
    subst (IsCharBoundary bs) n (IsCharBoundary-at_seam bs (encode_utf8_all x) rest (seam bs rest x u v e) v)

pub seam_front : (bs rest x front : List ℕ) → IsUtf8 bs → IsUtf8 rest → IsUtf8 front
    → chars bs ≡ x ++ chars rest → front ≡ take (length bs - length rest - 0) bs →
    chars front ≡ x
seam_front bs rest x front u v w e f =
    let s : bs ≡ encode_utf8_all x ++ rest = seam bs rest x u v e in
    let n : length bs - length rest - 0 ≡ length (encode_utf8_all x) =
    omega (arith, seam_len bs rest x u v e) in
    encodes_same (chars front) x (encodes-chars front w ∙ f ∙ ap (λ k. take k bs) n
    ∙ ap (take (length (encode_utf8_all x))) s ∙ take-append_seam (encode_utf8_all x) rest)

-- a text and one more character
pub chars_push : (bs : List ℕ) (c : ℕ) → IsUtf8 bs → IsScalar c
    → chars (bs ++ encode_utf8 c) ≡ chars bs ++ c ∷ []
chars_push bs c u s =
    chars-append bs (encode_utf8 c) u
    ∙ ap (λ z. chars bs ++ z) (chars_past_char (encode_utf8 c) [] c (IsUtf8-encode c s)
    (sym (append-nil (encode_utf8 c))) ∙ ap (λ z. c ∷ z) chars-nil)

-- a text after one more character
pub chars_pushed : (new old start t : List ℕ) (c : ℕ) → IsUtf8 old → IsScalar c → new ≡ old ++ encode_utf8 c
    → chars old ≡ chars start ++ t → chars new ≡ chars start ++ (t ++ c ∷ [])
chars_pushed new old start t c u s e h = ap chars e ∙ chars_push old c u s ∙ ap (λ z. z ++ c ∷ []) h
    ∙ append_assoc (chars start) t (c ∷ [])

pub chars_none : (bs : List ℕ) → IsUtf8 bs → chars bs ≡ [] → length bs ≡ 0
chars_none bs u e = ap length (sym (encodes-chars bs u) ∙ ap encode_utf8_all e)

pub chars_of_none : (bs : List ℕ) → length bs ≡ 0 → chars bs ≡ []
chars_of_none [] e = chars-nil
chars_of_none (b ∷ bs) e = absurd (omega (arith, e))

-- a text that was asked whether it is empty
pub chars_if_empty : (bs as_str : List ℕ) (b : Bool) → as_str ≡ bs → b ≡ (length as_str == 0)
    → b ≡ true → chars bs ≡ []
chars_if_empty bs as_str b e f g =
    chars_of_none bs (ap length (sym e) ∙ eqb-true (length as_str) 0 (sym f ∙ g))

pub chars_unless_empty : (bs as_str : List ℕ) (b : Bool) → IsUtf8 as_str → as_str ≡ bs
    → b ≡ (length as_str == 0) → b ≡ false → chars bs ≡ [] → ⊥
chars_unless_empty bs as_str b u e f g h =
    let n : length as_str ≡ 0 = chars_none as_str u (ap chars e ∙ h) in
    let t : true ≡ false = (let z : (length as_str == 0) ≡ true = ap (λ k. k == 0) n in sym z ∙ sym f ∙ g) in
    cc

-- ---- ends of texts
utf8_len-append : (x y : List ℕ) → utf8_len (x ++ y) ≡ utf8_len x + utf8_len y
utf8_len-append [] y = omega arith
utf8_len-append (c ∷ x) y = omega (arith, utf8_len-append x y)

pub end_shorter : (p q : List ℕ) → HasSuffix p q → utf8_len q ≤ utf8_len p
end_shorter p q h = omega (arith, ap utf8_len h.1, utf8_len-append h.0 q)

-- the place of an end
pub place_is : (e rest : List ℕ) → HasSuffix e rest → (s : Span)
    → s ≡ (utf8_len e - utf8_len rest, first_len rest) → IsPlace e s
place_is e rest h s f =
    let n : utf8_len e - utf8_len rest ≡ utf8_len h.0 =
    omega (arith, ap utf8_len h.1 ∙ utf8_len-append h.0 rest) in
    (h.0, rest, h.1, f ∙ (λ i. (n i, first_len rest)))

pub beyond_same : (p : List ℕ) → HasSuffix p p
beyond_same p = ([], refl)

pub beyond_more : (p q r : List ℕ) → HasSuffix p q → HasSuffix q r → HasSuffix p r
beyond_more p q r h k = (h.0 ++ k.0, h.1 ∙ ap (λ z. h.0 ++ z) k.1 ∙ sym (append_assoc h.0 k.0 r))

pub taken_beyond : (p q : List ℕ) → HasProperSuffix p q → HasSuffix p q
taken_beyond p q h = (h.0, h.1)

-- an end of the text that is as long
pub same_end : (bs rest : List ℕ) → IsUtf8 bs → IsUtf8 rest → HasSuffix (chars bs) (chars rest)
    → length rest ≡ length bs → chars rest ≡ chars bs
same_end bs rest u v h e = go h.0 h.1 (let n : utf8_len (chars rest) ≡ utf8_len (chars bs) = sym (bytes_len
    rest v) ∙ e ∙ bytes_len bs u in omega (arith, n, ap utf8_len h.1, utf8_len-append h.0 (chars rest)))
  where
    go : (x : List ℕ) → chars bs ≡ x ++ chars rest → utf8_len x ≡ 0 → chars rest ≡ chars bs
    go [] f n = sym f
    go (c ∷ x) f n = absurd (omega (arith, (len_utf8_bounds c).0, n))
