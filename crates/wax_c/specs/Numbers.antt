-- The numbers that calls return.
use Rattle.std.specs.Prelude.{ℤ, pos, neg_ℤ, Bool, true, false, Result, Ok, Err}
use Rattle.wax_c.specs.declared.error.CallError.{CallError}
use Rattle.wax_c.specs.declared.error.CallError.TheVariants.{Build, NotText, NoRoom}
use Rattle.wax.specs.Language.{build_number}

-- an error
abbrev pub error_number : CallError → ℤ
error_number (Build error) = pos (build_number error)
error_number NotText = pos 20
error_number NoRoom = pos 21

-- a yes, a no, or minus the number of an error
abbrev pub answer_number : Result Bool CallError → ℤ
answer_number (Ok true) = pos 1
answer_number (Ok false) = pos 0
answer_number (Err error) = neg_ℤ (error_number error)

-- 0, or minus the number of an error
abbrev pub status_number : {A : Type 0} → Result A CallError → ℤ
status_number (Ok a) = pos 0
status_number (Err error) = neg_ℤ (error_number error)
