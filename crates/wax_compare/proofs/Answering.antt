-- An answer about programs is one about what they match.
use Rattle.std.proofs.Common.{◌↔◌, ℕ, List}
use Rattle.wax_compare.proofs.Selecting.{wanted_as}
use Rattle.wax_compare.specs.{Comparison.{IsAnswer, IsWanted}, declared.wanted.Comparison.Comparison}
use Rattle.wax_compare.specs.declared.wanted.Comparison.TheVariants.{Nothing, Text, Unknown}
use Rattle.wax_compare.specs.{declared.wanted.Texts.Texts, declared.wanted.Wanted.Wanted}

-- an answer about a property is one about a property that the same texts have
pub answer_for : (P Q : List ℕ → Type 0) → ((s : List ℕ) → P s ↔ Q s) → (found : Comparison)
    → IsAnswer P found → IsAnswer Q found
answer_for P Q f Nothing none = λ s q. none s ((f s).1 q)
answer_for P Q f (Text t) is = ((f _).0 is.0, (λ s q. is.1 s ((f s).1 q)))
answer_for P Q f Unknown is = tt

module _ (texts : Texts) (A B P Q : List ℕ → Type 0)
    (first : (s : List ℕ) → A s ↔ P s) (second : (s : List ℕ) → B s ↔ Q s) where
  texts_as : (wanted : Wanted) (s : List ℕ) → IsWanted wanted texts A B s ↔ IsWanted wanted texts P Q s
  texts_as wanted s =
      let same = wanted_as wanted (A s) (P s) (B s) (Q s) (first s) (second s) in (
        (λ w. record { scalars = w.scalars; among = w.among; decided = same.0 w.decided }),
        (λ w. record { scalars = w.scalars; among = w.among; decided = same.1 w.decided }),
      )

  pub answer_as : (wanted : Wanted) (found : Comparison) → IsAnswer (IsWanted wanted texts A B) found
      → IsAnswer (IsWanted wanted texts P Q) found
  answer_as wanted found is = answer_for (IsWanted wanted texts A B) (IsWanted wanted texts P Q)
      (texts_as wanted) found is
