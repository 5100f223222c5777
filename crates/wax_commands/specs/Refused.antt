-- Expressions for which no glob is built.
use Rattle.std.specs.Prelude.{◌≢◌, ℕ, List, Err, chars}
use Rattle.wax.specs.Headline.{MatchGlob}
use Rattle.wax_rule.specs.declared.error.build_error.BuildError.{BuildError}
use Rattle.wax_rule.specs.declared.error.build_error.BuildError.TheVariants.{Memory}

-- the expression has an error: it spells no glob, breaks a rule, or its program would be too long
abbrev pub IsRefused : List ℕ → Type 0
IsRefused e = (error : BuildError) × (error ≢ Memory) × MatchGlob (chars e) (Err error)
