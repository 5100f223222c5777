use Rattle.std.proofs.Common.{◌≡◌, IfOk, string_bytes, subst, sym}
use Rattle.wax_commands.specs.QueryText.{part_lines}
use Rattle.wax_commands.proofs.query.part_lines.Goals as goal

pub returns-in-Some : goal.returns-in-Some
returns-in-Some c =
    subst (λ rest. IfOk c.rest_lines.result (λ lines. string_bytes lines ≡ part_lines c.args.prefix.now rest))
    (sym c.in-Some.is) c.rest_lines.ensures

pub returns-in-None : goal.returns-in-None
returns-in-None c =
    subst (λ rest. IfOk c.prefix_lines.result
    (λ lines. string_bytes lines ≡ part_lines c.args.prefix.now rest))
    (sym c.in-None.is) c.prefix_lines.ensures
