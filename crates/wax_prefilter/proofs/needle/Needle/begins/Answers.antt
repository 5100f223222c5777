use Rattle.std.proofs.Common.{rules, ◌≡◌, ◌++◌, List, ℕ, encode_utf8_all, chars, string_bytes, sym, ◌∙◌, ap}
use Rattle.std.proofs.{Common.true, lemmas.Bool.Decides.Decides-eqb, lemmas.Slice.Eq.starts_is}
use Rattle.wax_prefilter.proofs.MeantEdges.{bytes_begin, plain_text}
use Rattle.wax_prefilter.proofs.needle.Needle.begins.Goals as goal

pub returns : goal.returns
returns c = λ x y e h.
    let begin = c.as_str-beginning.result.now in
    let held : List ℕ = chars (string_bytes c.self.inside.text) in
    let same : x ≡ held = plain_text c.args.self.now _ held x c.self.view_is c.if-self.false h in
    let whole : c.as_bytes.result.now ≡ c.as_bytes-2.result.now ++ encode_utf8_all y =
    c.as_bytes.ensures.value
    ∙ bytes_begin c.args.text.now begin y held c.utf8.text c.as_str-beginning.utf8
    (ap chars c.as_str-beginning.ensures.value) (e ∙ ap (λ w. w ++ y) same)
    ∙ ap (λ z. z ++ encode_utf8_all y) (sym c.as_bytes-2.ensures.value) in
    let found : c.starts_with.result ≡ true =
    (starts_is Decides-eqb c.as_bytes.result.now c.as_bytes-2.result.now c.starts_with.result
    c.starts_with.ensures.value).1 (encode_utf8_all y) whole in
    search (rules, found)
