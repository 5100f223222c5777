use Rattle.std.proofs.Common.{◌∙◌, List, ℕ, ap, chars, string_bytes, sym}
use Rattle.wax_prefilter.proofs.Ends.{needle_comes_if}
use Rattle.wax_prefilter.proofs.needle.Needle.end_pair.Goals as goal

pub returns : goal.returns
returns c =
    let held : List ℕ = chars (string_bytes c.self.inside.text) in
    needle_comes_if c.of.result c.args.self.now c.as_bytes.result.now held c.as_bytes.ensures.utf8
    (ap chars (c.as_bytes.ensures.value ∙ c.as_str.ensures.value))
    (ap (λ b. (b, held)) (sym c.if-self.false) ∙ c.self.view_is) c.of.ensures
