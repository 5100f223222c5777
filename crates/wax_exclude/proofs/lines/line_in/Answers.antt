use Rattle.std.proofs.Common.{lit<, subst, sym, ◌∙◌, ◌≡◌, ◌≢◌, ◌∷◌, List, ℕ}
use Rattle.std.proofs.lemmas.Str.Pattern.{strip_prefix_char}
use Rattle.std.specs.Option.{MatchOption}
use Rattle.wax_exclude.proofs.Written.{says_ignored, says_nothing, says_taken_back}
use Rattle.wax_exclude.proofs.lines.line_in.Goals as goal

pub returns-then-is_skipped : goal.returns-then-is_skipped
returns-then-is_skipped c =
    says_nothing c.args.number c.args.part.now c.without_return-line.result.now c.without_return-line.ensures
    (sym c.is_skipped.ensures ∙ c.if-is_skipped.true)

pub returns-in-Some : goal.returns-in-Some
returns-in-Some c =
    let line = c.without_return-line.result.now in
    says_taken_back c.args.number c.args.part.now line c.in-Some.expression.now c.without_return-line.ensures
    (sym c.is_skipped.ensures ∙ c.if-is_skipped.false)
    (subst (λ r. MatchOption r ((rest : List ℕ) → line ≢ 33 ∷ rest) (λ x. line ≡ 33 ∷ x.now)) c.in-Some.is
    (strip_prefix_char 33 line c.strip_prefix.result c.strip_prefix.ensures.cases (lit< tt)))

pub returns-in-None : goal.returns-in-None
returns-in-None c =
    let line = c.without_return-line.result.now in
    says_ignored c.args.number c.args.part.now line c.without_return-line.ensures
    (sym c.is_skipped.ensures ∙ c.if-is_skipped.false)
    (subst (λ r. MatchOption r ((rest : List ℕ) → line ≢ 33 ∷ rest) (λ x. line ≡ 33 ∷ x.now)) c.in-None.is
    (strip_prefix_char 33 line c.strip_prefix.result c.strip_prefix.ensures.cases (lit< tt)))
