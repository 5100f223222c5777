-- Lines of facts.
use Rattle.std.proofs.{Common.{◌≡◌, ◌≢◌, ◌∙◌, ℕ, List, ◌∷◌, ◌++◌, ap, append_assoc}, lemmas.Bool.ne_eqb}
use Rattle.std.specs.Prelude.{Some, decimal, if◌then◌else◌}
use Rattle.wax_commands.specs.QueryText.{QueryFacts, fact_lines, part_lines, query_text, range_text}
use Rattle.wax_commands.specs.QueryText.{token_lines}

-- a range that isn't one number
pub range_other : (lower upper : ℕ) → upper ≢ lower
    → range_text lower (Some upper) ≡ decimal lower ++ 46 ∷ 46 ∷ decimal upper
range_other lower upper n =
    ap (λ b. if b then decimal lower else decimal lower ++ 46 ∷ 46 ∷ decimal upper) (ne_eqb upper lower n)

-- the three parts, one after another
pub assembled : (f : QueryFacts) (whole a b c : List ℕ) → whole ≡ (a ++ b) ++ c
    → a ≡ fact_lines f.depth f.text f.root f.exhaustive → b ≡ part_lines f.prefix f.rest
    → c ≡ token_lines f.captures f.warnings → whole ≡ query_text f
assembled f whole a b c e p q r = e ∙ (append_assoc a b c ∙ (λ i. p i ++ (q i ++ r i)))
