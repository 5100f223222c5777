use Rattle.std.proofs.Common.{◌≡◌, ℕ, List, Result, Ok, Err, IfOk, string_bytes}
use Rattle.wax.specs.{Headline.MatchGlob, Language.{BuildError, Memory, error_labels, picture}}
use Rattle.wax_c.specs.{Texts.{IsPicture, built, not_built}, declared.error.CallError.CallError}
use Rattle.wax_c.proofs.texts.drawn.Goals as goal

of_error : {S : Type 0} (bytes_of : S → List ℕ) (e : List ℕ) (error : BuildError)
    (result : Result S CallError) → MatchGlob e (Err error)
    → IfOk result (λ text. bytes_of text ≡ picture e (error_labels error))
    → IfOk result (λ _. ¬ (error ≡ Memory))
    → IfOk result (λ text. IsPicture e (bytes_of text))
of_error bytes_of e error (Ok text) reason drawn not_memory = not_built error reason not_memory drawn
of_error bytes_of e error (Err other) reason drawn not_memory = tt

pub returns-in-Ok-clause-ok : goal.returns-in-Ok-clause-ok
returns-in-Ok-clause-ok c = built c.in-Ok.field-0 c.in-Ok.ensures.build c.new-in-Ok.ensures.bytes

pub returns-clause-ok : goal.returns-clause-ok
returns-clause-ok c = of_error string_bytes _ c.in-Err.error c.picture_of.result c.in-Err.ensures.build
    c.picture_of.ensures.drawn c.picture_of.ensures.not_memory
