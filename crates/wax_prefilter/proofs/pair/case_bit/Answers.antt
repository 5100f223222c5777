use Rattle.std.proofs.Common.{◌≡◌, ◌∙◌, true, false, ap, bit_or, cond, sym}
use Rattle.std.specs.Char.{is_ascii_lowercase}
use Rattle.wax_prefilter.proofs.Lowered.{bit_of_case}
use Rattle.wax_prefilter.proofs.pair.case_bit.Goals as goal

pub returns-then-is_ascii_lowercase : goal.returns-then-is_ascii_lowercase
returns-then-is_ascii_lowercase c = λ b lt is.
    let letter : is_ascii_lowercase c.args.byte ≡ true =
    sym c.is_ascii_lowercase.ensures.value ∙ c.if-is_ascii_lowercase.true in
    ap (λ z. bit_or b (cond z 32 0)) (sym letter ∙ ap is_ascii_lowercase (sym is)) ∙ bit_of_case b lt ∙ is

pub returns-else-is_ascii_lowercase : goal.returns-else-is_ascii_lowercase
returns-else-is_ascii_lowercase c = λ b lt is.
    let letter : is_ascii_lowercase c.args.byte ≡ false =
    sym c.is_ascii_lowercase.ensures.value ∙ c.if-is_ascii_lowercase.false in
    ap (λ z. bit_or b (cond z 32 0)) (sym letter ∙ ap is_ascii_lowercase (sym is)) ∙ bit_of_case b lt ∙ is
