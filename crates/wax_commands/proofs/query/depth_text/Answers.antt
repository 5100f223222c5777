use Rattle.std.proofs.Common.{◌≡◌, IfOk, ◌∷◌, ◌++◌, string_bytes, sym, subst, ◌∙◌}
use Rattle.std.specs.Prelude.{Some, decimal}
use Rattle.wax.specs.Queries.{bounds}
use Rattle.wax_commands.specs.QueryText.{range_text}
use Rattle.wax_commands.proofs.QueryLines.{range_other}
use Rattle.wax_commands.proofs.query.depth_text.Goals as goal

pub returns-in-Some-2 : goal.returns-in-Some-2
returns-in-Some-2 c =
    let lower = c.lower-lower.result in
    let upper = c.in-Some.upper in
    let depth = bounds c.args.depth in
    let same : Some upper ≡ depth.1 = sym c.in-Some.is ∙ c.upper.ensures.value in
    let e : decimal lower ++ 46 ∷ 46 ∷ decimal upper ≡ range_text depth.0 depth.1 =
    sym (range_other lower upper c.if-upper-lower.false)
    ∙ (λ i. range_text (c.lower-lower.ensures i) (same i)) in
    subst (λ z. IfOk c.format-in-Some-2.result (λ text. string_bytes text ≡ z)) e
    c.format-in-Some-2.ensures.ok
