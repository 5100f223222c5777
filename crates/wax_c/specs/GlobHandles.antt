-- How calls of handles of globs end.
use Rattle.std.specs.Prelude.{◌≡◌, ℕ, ℤ, List, Option, Some, None, Result, Ok, Err, chars}
use Rattle.wax.specs.{GlobView.GlobView, Language.location_of, Partition.HasParts, Queries.Label}
use Rattle.wax_c.specs.{Numbers.status_number, Outcomes.{Fills, IsGlobOf, IsNoGlob, KeepsAfterError, Output}}
use Rattle.wax_c.specs.declared.error.CallError.{CallError}
use Rattle.wax_c.specs.declared.error.CallError.TheVariants.{Build, NotText, NoRoom}
use Rattle.wax_c.specs.{declared.handle.GlobHandle.GlobHandle, declared.globs.WaxSpan.WaxSpan}
use denote.RawPtr.{null_ptr}

abbrev pub no_span : WaxSpan
no_span = record { start = 0; length = 0 }

-- the span of a place, if there is one
abbrev pub span_at : Option Label → WaxSpan
span_at None = no_span
span_at (Some label) = record { start = label.1.0; length = label.1.1 }

-- where a build was refused
abbrev pub span_of : Result (Unit {0}) CallError → WaxSpan
span_of (Ok done) = no_span
span_of (Err (Build error)) = span_at (location_of error)
span_of (Err NotText) = no_span
span_of (Err NoRoom) = no_span

-- the handle has a glob of these bytes, or it is null for this error
abbrev pub HasGlob : List ℕ → GlobHandle → Result (Unit {0}) CallError → Type 0
HasGlob e handle (Ok done) = (g : GlobView) × (handle.held ≡ Some g) × IsGlobOf e g
HasGlob e handle (Err error) = (handle.held ≡ None) × (handle.at ≡ null_ptr) × IsNoGlob e error

-- so it is, with the place and the number of the error
abbrev pub IsGlobHandle : List ℕ → GlobHandle → WaxSpan → ℤ → Type 0
IsGlobHandle e handle span number =
    (outcome : Result (Unit {0}) CallError) × HasGlob e handle outcome
    × (span ≡ span_of outcome) × (number ≡ status_number outcome)

-- the handle is null if it has no glob
abbrev pub IsNullIfEmpty : GlobHandle → Type 0
IsNullIfEmpty handle = handle.held ≡ None → handle.at ≡ null_ptr

-- the output has the prefix of the glob, and the handle has the rest, if there is one; or it is null for this
-- error
abbrev pub HasRest : GlobView → List ℕ → Output → GlobHandle → Result (Unit {0}) CallError → Type 0
HasRest g before output rest (Ok done) =
    Fills (λ prefix. HasParts g (chars prefix) rest.held) before output (Ok done) × IsNullIfEmpty rest
HasRest g before output rest (Err error) =
    Fills (λ prefix. (u : Option GlobView) × HasParts g (chars prefix) u) before output (Err error)
    × (rest.held ≡ None) × (rest.at ≡ null_ptr)

-- so it is, with the number of the error
abbrev pub IsPartitioned : GlobView → List ℕ → Output → GlobHandle → ℤ → Type 0
IsPartitioned g before output rest number =
    (outcome : Result (Unit {0}) CallError) × HasRest g before output rest outcome
    × KeepsAfterError before output outcome × (number ≡ status_number outcome)
