-- How many bytes a text has.
use Rattle.std.proofs.Common.{◌≡◌, ℕ, List, [], ◌∷◌, length, chars, encode_utf8, encode_utf8_all, sym, ◌∙◌}
use Rattle.std.proofs.{Common.{ap, arith, refl, length-append, eqb-true, ◌==◌}, lemmas.List.nil_from_length}
use Rattle.std.proofs.lemmas.Str.{chars-nil, encodes-chars, length-encode}
use Rattle.std.specs.{Prelude.{IsTrue, ◌↔◌}, Str.IsUtf8}
use Rattle.wax_token.specs.Reads.{utf8_len}

-- a text has as many bytes as its characters say
length-encodes : (cs : List ℕ) → length (encode_utf8_all cs) ≡ utf8_len cs
length-encodes [] = refl
length-encodes (c ∷ cs) =
    omega (arith, length-append (encode_utf8 c) (encode_utf8_all cs), length-encode c, length-encodes cs)

pub bytes_len : (bs : List ℕ) → IsUtf8 bs → length bs ≡ utf8_len (chars bs)
bytes_len bs u = sym (ap length (encodes-chars bs u)) ∙ length-encodes (chars bs)

-- a text has no bytes exactly where it has no characters
pub no_bytes : (bs : List ℕ) → IsUtf8 bs → IsTrue (length bs == 0) ↔ (chars bs ≡ [])
no_bytes bs u = (
  λ h. ap chars (nil_from_length bs (eqb-true (length bs) 0 h)) ∙ chars-nil,
  λ h. (let n : length bs ≡ 0 = bytes_len bs u ∙ ap utf8_len h in ap (λ k. k == 0) n),
)
