use Rattle.std.proofs.Common.{◌≡◌, ◌∙◌, [], ◌∷◌, chars, false, subst, sym}
use Rattle.wax_prefilter.proofs.{Holding.chars_slash, MeantEdges.{as_seen, same_text}}
use Rattle.wax_token.specs.Meaning.{Means, SameText}
use Rattle.wax_set.proofs.set.edges.only_text.Goals as goal

pub returns-in-Some-Literal : goal.returns-in-Some-Literal
returns-in-Some-Literal c = λ before after s m.
    let literal = c.in-Some-Literal.literal in
    let same : SameText literal.0 literal.1 s = subst (λ t. Means t before after s)
    (rw c.in-Some-Literal.field-0-is at c.in-Some-Literal.ensures.some) m in
    same_text (chars c.text.result.now) s (as_seen literal.0 false literal.1 (chars c.text.result.now) s
    (sym c.is_case_insensitive.ensures ∙ c.if-not-is_case_insensitive.true) c.text.ensures same)

pub returns-in-Some-Separator : goal.returns-in-Some-Separator
returns-in-Some-Separator c = λ before after s m.
    let slash : s ≡ 47 ∷ [] = subst (λ t. Means t before after s)
    (rw c.in-Some-Separator.field-0-is at c.in-Some-Separator.ensures.some) m in
    slash ∙ sym chars_slash
