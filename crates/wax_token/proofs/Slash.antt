-- `/` shares its folding with no other character.
use Rattle.std.proofs.Common.{◌==◌, ◌∙◌, ◌∷◌, ◌≡◌, Bool, List, ℕ, [], ap, not, refl, slice_index_or, sym}
use Rattle.std.proofs.Common.{true}
use Rattle.unicode.specs.CaseFolding.{simple_fold, simple_folding}
use Rattle.ucd_case.proofs.CaseFoldingLemmas.{simple_folding_stepped}
use Rattle.ucd_table.proofs.{Computing.tables, RangedFacts.{Stepped-at_values, values_ok}}
use Rattle.wax_token.specs.Meaning.{SameFold}

no_slash_first : List ℕ → Bool
no_slash_first [] = true
no_slash_first (x ∷ xs) = not (x == 47)

no_slash_folding : (c : ℕ) → no_slash_first (simple_folding c) ≡ true
unfolding tables values_ok simple_folding_stepped no_slash_first
no_slash_folding c = Stepped-at_values simple_folding simple_folding_stepped no_slash_first refl c

slash_from : (c : ℕ) (v : List ℕ) → no_slash_first v ≡ true → slice_index_or v 0 c ≡ 47 → c ≡ 47
unfolding no_slash_first
slash_from c [] h e = e
slash_from c (x ∷ xs) h e = absurd (let f : (x == 47) ≡ true = ap (λ z. z == 47) e in let g : ⊥ = cc in g)

pub folds_to_slash : (c : ℕ) → simple_fold c ≡ 47 → c ≡ 47
folds_to_slash c e = slash_from c (simple_folding c) (no_slash_folding c) e

slash_folds : simple_fold 47 ≡ 47
unfolding tables simple_folding_stepped
slash_folds = refl

pub slash_alone : (c : ℕ) → SameFold c 47 → c ≡ 47
unfolding SameFold
slash_alone c e = folds_to_slash c (e ∙ slash_folds)

pub alone_slash : (c : ℕ) → SameFold 47 c → c ≡ 47
unfolding SameFold
alone_slash c e = folds_to_slash c (sym e ∙ slash_folds)
