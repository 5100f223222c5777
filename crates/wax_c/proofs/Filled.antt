-- Bytes that were put into an output.
use Rattle.std.proofs.Common.{◌≡◌, ℕ, List, Result, Ok, Err, IsUtf8, chars, sym, subst}
use Rattle.wax_c.specs.{Outcomes.{Fills, OfText, Output, is_text}, declared.error.CallError.CallError}
use Rattle.wax_c.specs.declared.error.CallError.TheVariants.{Build, NotText, NoRoom}

-- if they are wanted, the output is filled as wanted
filled : (Wanted : List ℕ → Type 0) (bytes before : List ℕ) (output : Output)
    (outcome : Result (Unit {0}) CallError)
    → Wanted bytes → Fills (λ out. out ≡ bytes) before output outcome → Fills Wanted before output outcome
filled Wanted bytes before output (Ok done) wanted (same, fits, rest) =
    (subst Wanted (sym same) wanted, fits, rest)
filled Wanted bytes before output (Err NoRoom) wanted (out, same, size, over) =
    (out, subst Wanted (sym same) wanted, size, over)
filled Wanted bytes before output (Err (Build error)) wanted is = is
filled Wanted bytes before output (Err NotText) wanted wrong = absurd wrong

-- if they are wanted of the characters of a text
pub filled_of_text : (Wanted : List ℕ → List ℕ → Type 0) (given text bytes before : List ℕ) (output : Output)
    (outcome : Result (Unit {0}) CallError)
    → (text ≡ given) × IsUtf8 given → Wanted (chars text) bytes
    → Fills (λ out. out ≡ bytes) before output outcome
    → OfText given (λ characters. Fills (Wanted characters) before output) outcome
filled_of_text Wanted given text bytes before output outcome (same, utf8) wanted fills =
    is_text utf8 (filled (Wanted (chars given)) bytes before output outcome
    (subst (λ t. Wanted (chars t) bytes) same wanted) fills)
