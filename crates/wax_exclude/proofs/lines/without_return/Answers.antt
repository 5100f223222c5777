use Rattle.std.proofs.Common.{ap, lit<, subst, sym, ◌∙◌, ◌≡◌, ◌≢◌, ◌++◌, ◌∷◌, [], List, ℕ}
use Rattle.std.proofs.lemmas.Str.Pattern.{strip_suffix_char}
use Rattle.std.specs.Option.{MatchOption}
use Rattle.wax_exclude.specs.Lines.{without_return}
use Rattle.wax_exclude.proofs.Written.{none_dropped, return_dropped}
use Rattle.wax_exclude.proofs.lines.without_return.Goals as goal

pub returns-in-Some : goal.returns-in-Some
returns-in-Some c =
    let text = c.args.text.now in
    let cut : text ≡ c.in-Some.front.now ++ 13 ∷ [] =
    subst (λ r. MatchOption r ((front : List ℕ) → text ≢ front ++ (13 ∷ [])) (λ x. text ≡ x.now ++ (13 ∷ [])))
    c.in-Some.is
    (strip_suffix_char 13 text c.strip_suffix.result c.strip_suffix.ensures.cases (lit< tt)) in
    sym (ap without_return cut ∙ return_dropped c.in-Some.front.now)

pub returns-in-None : goal.returns-in-None
returns-in-None c =
    let text = c.args.text.now in
    sym (none_dropped text
    (subst (λ r. MatchOption r ((front : List ℕ) → text ≢ front ++ (13 ∷ []))
    (λ x. text ≡ x.now ++ (13 ∷ []))) c.in-None.is
    (strip_suffix_char 13 text c.strip_suffix.result c.strip_suffix.ensures.cases (lit< tt))))
