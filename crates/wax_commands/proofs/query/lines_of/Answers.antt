use Rattle.std.proofs.Common.{◌≡◌, List, ℕ, IfOk, ap, option_copied, rules, string_bytes, subst, sym}
use Rattle.std.specs.Prelude.{None, Option, Some}
use Rattle.wax.specs.Queries.{bounds}
use Rattle.wax_commands.specs.QueryText.{fact_lines, lines_of_texts, range_text}
use Rattle.wax_commands.proofs.query.lines_of.Goals as goal

pub returns-in-Some : goal.returns-in-Some
returns-in-Some c =
    let d = bounds c.args.depth in
    let depth : c.as_str.result.now ≡ range_text d.0 d.1 = search rules in
    let text : Some c.in-Some.text.now ≡ option_copied c.args.text = ap option_copied (sym c.in-Some.is) in
    let same : lines_of_texts c.as_str.result.now (Some c.in-Some.text.now) c.when_text-root.result.now
    c.when_text-exhaustive.result.now
    ≡ fact_lines d (option_copied c.args.text) c.args.root c.args.exhaustive =
    (λ i. lines_of_texts (depth i) (text i) (c.when_text-root.ensures i)
    (c.when_text-exhaustive.ensures i)) in
    subst (λ z. IfOk c.invariant_lines.result (λ lines. string_bytes lines ≡ z)) same
    c.invariant_lines.ensures

pub returns : goal.returns
returns c =
    let d = bounds c.args.depth in
    let depth : c.as_str-in-None.result.now ≡ range_text d.0 d.1 = search rules in
    let none : Option (List ℕ) = None in
    let text : none ≡ option_copied c.args.text = ap option_copied (sym c.in-None.is) in
    let same : lines_of_texts c.as_str-in-None.result.now none c.when_text-root.result.now
    c.when_text-exhaustive.result.now
    ≡ fact_lines d (option_copied c.args.text) c.args.root c.args.exhaustive =
    (λ i. lines_of_texts (depth i) (text i) (c.when_text-root.ensures i)
    (c.when_text-exhaustive.ensures i)) in
    subst (λ z. IfOk c.variant_lines.result (λ lines. string_bytes lines ≡ z)) same
    c.variant_lines.ensures
