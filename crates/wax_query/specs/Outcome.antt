-- What the outcome of a build says.
use Rattle.std.specs.Prelude.{Result, Ok, Err, ⊤}
use Rattle.wax_query.specs.declared.diagnostics.Refusal.{Refusal}
use Rattle.wax_query.specs.declared.diagnostics.Refusal.TheVariants.{Refused, Memory}

-- a fact of the value, one of the reason for the refusal, and nothing where memory was refused
abbrev pub MatchBuild : {T E : Type 0} → Result T (Refusal E) → (T → Type 0) → (E → Type 0) → Type 0
MatchBuild (Ok t) Accepted Reason = Accepted t
MatchBuild (Err (Refused e)) Accepted Reason = Reason e
MatchBuild (Err Memory) Accepted Reason = ⊤
