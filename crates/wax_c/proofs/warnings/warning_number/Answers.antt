use Rattle.std.proofs.Common.{◌≡◌, ◌∙◌, ◌==◌, ℕ, List, chars, encode_utf8_all, length, pos, ap, sym}
use Rattle.std.proofs.{Common.{if◌then◌else◌, arith, inl, inr}, lemmas.Bool.cases_eq}
use Rattle.std.proofs.lemmas.Str.{encodes-chars}
use Rattle.std.specs.Str.{IsUtf8}
use Rattle.wax_c.specs.Warnings.{warning_number}
use Rattle.wax_c.proofs.warnings.warning_number.Goals as goal

long : (literal bytes : List ℕ) → IsUtf8 bytes → chars bytes ≡ literal
    → length (encode_utf8_all literal) ≡ length bytes
long literal bytes u same =
    ap (λ l. length (encode_utf8_all l)) (sym same) ∙ ap length (encodes-chars bytes u)

two : (n : ℕ) → (n ≡ 1 → ⊥) → pos 2 ≡ (if n == 1 then pos 1 else pos 2)
two n other = elim (cases_eq n 1) [
  | inl same ↦ absurd (other same)
  | inr apart ↦ grind (arith, apart)
]

pub returns-then-literal-eq1 : goal.returns-then-literal-eq1
returns-then-literal-eq1 c =
    let n = long c.in-SemanticLiteral.warning.literal c.literal.result.now c.literal.utf8 c.literal.ensures in
    sym (ap warning_number c.in-SemanticLiteral.is
    ∙ ap (λ k. if k == 1 then pos 1 else pos 2) (n ∙ c.if-literal-eq1.true))

pub returns-else-literal-eq1 : goal.returns-else-literal-eq1
returns-else-literal-eq1 c =
    let n = long c.in-SemanticLiteral.warning.literal c.literal.result.now c.literal.utf8 c.literal.ensures in
    two (length c.literal.result.now) c.if-literal-eq1.false
    ∙ sym (ap warning_number c.in-SemanticLiteral.is ∙ ap (λ k. if k == 1 then pos 1 else pos 2) n)
