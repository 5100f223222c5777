use Rattle.std.proofs.Common.{◌≡◌, ◌++◌, ◌∙◌, List, ℕ, ap, chars, encode_utf8_all, string_bytes}
use Rattle.wax_prefilter.proofs.{MeantEdges.plain_text, MeantPieces.bytes_within}
use Rattle.wax_prefilter.proofs.needle.Needle.may_be_among.Goals as goal

pub returns-else-self : goal.returns-else-self
returns-else-self c = λ text utf8 are found.
    let (x, y, z, e, h) = found in
    let held : List ℕ = chars (string_bytes c.self.inside.text) in
    let same : y ≡ held = plain_text c.args.self.now _ held y c.self.view_is c.if-self.false h in
    let bytes = c.as_bytes.result.now in
    let within : text ≡ encode_utf8_all x ++ (bytes ++ encode_utf8_all z) =
    bytes_within text bytes x held z utf8 c.as_bytes.ensures.utf8
    (ap chars (c.as_bytes.ensures.value ∙ c.as_str.ensures.value))
    (e ∙ ap (λ w. x ++ (w ++ z)) same) in
    c.may_contain.ensures text (encode_utf8_all x) (encode_utf8_all z) are within
