use Rattle.std.proofs.Common.{◌≡◌, ◌∙◌, List, ℕ, ap, chars, encode_utf8_all, nat_eq, sym}
use Rattle.std.proofs.lemmas.Str.{encodes-chars}
use Rattle.std.specs.{Bool.one_answer, Cmp.Lexicographic.{bytes_decides, pointwise}, Str.IsUtf8}
use Rattle.wax_query.proofs.matching.candidate.CandidatePathPartialEq.eq.Goals as goal

-- texts are equal where their characters are
equal_chars : (s t : List ℕ) → IsUtf8 s → IsUtf8 t
    → pointwise nat_eq s t ≡ pointwise nat_eq (chars s) (chars t)
equal_chars s t u v =
    one_answer (pointwise nat_eq s t) (pointwise nat_eq (chars s) (chars t)) (bytes_decides s t) (
      λ h. sym (encodes-chars s u)
          ∙ ap encode_utf8_all ((bytes_decides (chars s) (chars t)).0 h) ∙ encodes-chars t v,
      λ e. (bytes_decides (chars s) (chars t)).1 (ap chars e),
    )

pub returns : goal.returns
returns c =
    let s = c.as_str.result.now in
    let t = c.as_str-2.result.now in
    c.eq.ensures ∙ equal_chars s t c.as_str.utf8 c.as_str-2.utf8 ∙ ap (λ x. pointwise nat_eq x (chars t))
    c.as_str.ensures ∙ ap (pointwise nat_eq c.args.self.now) c.as_str-2.ensures
