use Rattle.std.proofs.Common.{rules, ◌≡◌, ◌++◌, List, ℕ, encode_utf8_all, chars, string_bytes, sym, ◌∙◌, ap}
use Rattle.std.proofs.{Common.true, lemmas.Bool.Decides.Decides-eqb, lemmas.Slice.Eq.ends_is}
use Rattle.wax_prefilter.proofs.MeantEdges.{bytes_end, plain_text}
use Rattle.wax_prefilter.proofs.needle.Needle.ends.Goals as goal

pub returns-else-self : goal.returns-else-self
returns-else-self c = λ x y e h.
    let end = c.as_str.result.now in
    let held : List ℕ = chars (string_bytes c.self.inside.text) in
    let same : y ≡ held = plain_text c.args.self.now _ held y c.self.view_is c.if-self.false h in
    let whole : c.as_bytes.result.now ≡ encode_utf8_all x ++ c.as_bytes-else-self.result.now =
    c.as_bytes.ensures.value
    ∙ bytes_end c.args.text.now end x held c.utf8.text c.as_str.utf8 (ap chars c.as_str.ensures.value)
    (e ∙ ap (λ w. x ++ w) same)
    ∙ ap (λ z. encode_utf8_all x ++ z) (sym c.as_bytes-else-self.ensures.value) in
    let found : c.ends_with.result ≡ true =
    (ends_is Decides-eqb c.as_bytes.result.now c.as_bytes-else-self.result.now c.ends_with.result
    c.ends_with.ensures.value).1 (encode_utf8_all x) whole in
    search (rules, found)
