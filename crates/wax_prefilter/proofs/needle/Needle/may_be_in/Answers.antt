use Rattle.std.proofs.Common.{rules, true, ◌≡◌, ◌∙◌, ◌++◌, List, ℕ, ap, encode_utf8_all, chars, string_bytes}
use Rattle.std.proofs.lemmas.Str.Pattern.{contains_text}
use Rattle.wax_prefilter.proofs.{MeantEdges.plain_text, MeantPieces.bytes_within}
use Rattle.wax_prefilter.proofs.needle.Needle.may_be_in.Goals as goal

pub returns : goal.returns
returns c = λ x y z e h.
    let within = c.as_str-held.result.now in
    let held : List ℕ = chars (string_bytes c.self.inside.text) in
    let same : y ≡ held = plain_text c.args.self.now _ held y c.self.view_is c.if-self.false h in
    let found : c.contains.result ≡ true =
    (contains_text c.contains.result within c.args.text.now c.contains.ensures.cases).1 (
      encode_utf8_all x,
      encode_utf8_all z,
      bytes_within c.args.text.now within x held z c.utf8.text c.as_str-held.utf8
          (ap chars c.as_str-held.ensures.value) (e ∙ ap (λ w. x ++ (w ++ z)) same),
    ) in
    search (rules, found)
