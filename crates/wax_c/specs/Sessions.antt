-- What a session does: it builds a glob by the exported call, asks it about paths, and frees it.
use Rattle.std.specs.{Prelude.{◌≡◌, ℤ, neg_ℤ, List, Result, Ok, Err, ℕ}, Global.Vec, List.AllZip}
use Rattle.wax.specs.GlobView.{GlobView}
use Rattle.wax_c.specs.{Numbers.error_number, Outcomes.{DecidesAs, IsGlobOf, IsNoGlob, SaysMatch}}
use Rattle.wax_c.specs.declared.error.CallError.{CallError}

-- the numbers that the glob's calls return for these paths, each as its bytes
abbrev pub AnswersEach : GlobView → List (List ℕ) → List ℤ → Type 0
AnswersEach g = AllZip (λ path number. DecidesAs (SaysMatch g) path number)

-- the numbers of the glob of the expression for each path; or that of the error, if there is none or if
-- memory runs out
abbrev pub IsSession : List ℕ → List (List ℕ) → Result (Vec ℤ) ℤ → Type 0
IsSession e paths (Ok numbers) = (g : GlobView) × IsGlobOf e g × AnswersEach g paths numbers.items
IsSession e paths (Err number) =
    (error : CallError) × IsNoGlob e error × (number ≡ neg_ℤ (error_number error))
