-- What calls return of a glob or of a set by itself. Both are known by the tree of their tokens.
use Rattle.std.specs.Prelude.{◌≡◌, ◌≤◌, ◌++◌, ◌∷◌, ◌-◌, ◌^◌, ℕ, ℤ, pos, Bool, true, false, List, chars}
use Rattle.std.specs.Prelude.{Option, Some, None, Result, Ok, Err, IfErr, IsUtf8}
use Rattle.wax.specs.{GlobView.GlobView, Language.{Span, Tree}, Matching.MeansText}
use Rattle.wax.specs.Queries.{Always, AtMost, Bare, BeginsWithSlash, Bounds, Depth, Never, Sometimes, Text}
use Rattle.wax.specs.Queries.{Variant, When, component_total, exhaustive, root}
use Rattle.wax_c.specs.{Numbers.{answer_number, status_number}, Outcomes.{Fills, KeepsAfterError, Output}}
use Rattle.wax_c.specs.{declared.error.CallError.CallError, declared.error.CallError.TheVariants.NoRoom}
use Rattle.wax_c.specs.declared.facts.WaxFacts.{WaxFacts}

-- a bound, or the greatest number of 64 bits if there is none
abbrev pub bound_or_greatest : Option ℕ → ℕ
bound_or_greatest None = 2 ^ 64 - 1
bound_or_greatest (Some bound) = bound

-- always, sometimes or never, as a number
abbrev pub when_number : When → ℤ
when_number Always = pos 2
when_number Sometimes = pos 1
when_number Never = pos 0

-- What is known of all paths that the tree matches.
pub record AreFacts (t : Tree Span) (facts : WaxFacts) : Type 0 where
  pub depth : Bounds
  pub depth_is : Depth t depth
  pub least : facts.least_depth ≡ depth.0
  pub greatest : facts.greatest_depth ≡ bound_or_greatest depth.1
  pub root_is : facts.has_root ≡ when_number (root t)
  pub exhaustive_is : facts.is_exhaustive ≡ when_number (exhaustive t)
  -- a match has no more components than the greatest depth, and no fewer than the least, unless it is empty
  -- or has a `/` at an end
  pub no_more : (path : List ℕ) → MeansText t path → AtMost (component_total path) depth.1
  pub no_fewer : (path : List ℕ) → MeansText t path → Bare path → depth.0 ≤ component_total path
  pub rooted : root t ≡ Always → (path : List ℕ) → MeansText t path → BeginsWithSlash path
  pub below : exhaustive t ≡ Always → (path name : List ℕ) → MeansText t path
      → MeansText t (path ++ 47 ∷ name)

-- the bytes of the glob's expression
abbrev pub IsExpression : GlobView → List ℕ → Type 0
IsExpression g bytes = IsUtf8 bytes × (chars bytes ≡ g.expression)

-- the output has the expression; or it is too small, and as before
abbrev pub HasExpression : GlobView → List ℕ → Output → Result (Unit {0}) CallError → Type 0
HasExpression g before output outcome =
    Fills (IsExpression g) before output outcome
    × IfErr outcome (λ error. (error ≡ NoRoom) × (output.bytes ≡ before))

-- the number is that of such an outcome
abbrev pub HasExpressionAs : GlobView → List ℕ → Output → ℤ → Type 0
HasExpressionAs g before output number =
    (outcome : Result (Unit {0}) CallError) × HasExpression g before output outcome
    × (number ≡ status_number outcome)

-- The bytes of the only text that the tree matches, as its tokens show.
pub record IsOnlyText (t : Tree Span) (bytes : List ℕ) : Type 0 where
  pub shown : Text t (chars bytes)
  pub only : (path : List ℕ) → MeansText t path → path ≡ chars bytes

-- the output has that text; or there is none, and the output is as before
abbrev pub HasText : Tree Span → List ℕ → Output → Result Bool CallError → Type 0
HasText t before output (Ok true) = Fills (IsOnlyText t) before output (Ok tt)
HasText t before output (Ok false) = Variant t × (output.bytes ≡ before) × (output.written ≡ 0)
HasText t before output (Err error) = Fills (IsOnlyText t) before output (Err error)

-- the number is that of such an outcome
abbrev pub HasTextAs : Tree Span → List ℕ → Output → ℤ → Type 0
HasTextAs t before output number =
    (outcome : Result Bool CallError) × HasText t before output outcome
    × KeepsAfterError before output outcome × (number ≡ answer_number outcome)
