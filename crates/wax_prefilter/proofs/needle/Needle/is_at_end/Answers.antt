use Rattle.std.proofs.Common.{◌∙◌, List, ℕ, ap, chars, string_bytes, sym}
use Rattle.wax_prefilter.proofs.Ends.{ends_with_bytes}
use Rattle.wax_prefilter.proofs.needle.Needle.is_at_end.Goals as goal

pub returns-else-self : goal.returns-else-self
returns-else-self c = λ ends.
    let held : List ℕ = chars (string_bytes c.self.inside.text) in
    let (w, e) =
    ends_with_bytes c.args.self.now c.as_bytes.result.now c.args.bytes.now held c.as_bytes.ensures.utf8
    (ap chars (c.as_bytes.ensures.value ∙ c.as_str.ensures.value))
    (ap (λ b. (b, held)) (sym c.if-self.false) ∙ c.self.view_is) ends in
    c.is_end.ensures w e
