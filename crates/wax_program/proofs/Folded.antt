-- Which numbers are case foldings.
use Rattle.std.proofs.Common.{◌∙◌, ◌≡◌, ◌≢◌, ◌↔◌, ℕ, ap, sym}
use Rattle.std.specs.Char.{IsScalar}
use Rattle.unicode.specs.CaseFolding.{simple_fold}
use Rattle.ucd_case.proofs.BoundLemmas.{simple_fold_idem}
use Rattle.wax_token.proofs.Slash.{folds_to_slash}
use Rattle.wax_program.specs.Onward.{FoldsOther}

pub slash_of_none : (d : ℕ) → d ≡ 47 → FoldsOther d → ⊥
slash_of_none d e (c, other, h) = other.1 (folds_to_slash c (sym h ∙ e))

pub folded_by_itself : (d : ℕ) → IsScalar d → d ≢ 47 → (d ≡ simple_fold d) ↔ FoldsOther d
folded_by_itself d scalar ne = (
  (λ e. (d, (scalar, ne), e)),
  (λ h. (let (c, _, e) = h in e ∙ sym (simple_fold_idem c) ∙ ap simple_fold (sym e))),
)
