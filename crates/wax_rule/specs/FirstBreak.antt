-- The error that answers a list of breaks.
use Rattle.std.specs.{Prelude.{◌≡◌, ℕ, List, [], ◌∷◌, ◌++◌, Option, Some, None}, List.flat_map}
use Rattle.wax_query.specs.Labels.{Composite}
use Rattle.wax_facts.specs.{declared.rules.Break.Break, declared.rules.RuleErrorKind.RuleErrorKind}
use Rattle.wax_facts.specs.Situated.{Situated}
use Rattle.wax_facts.specs.Rules.{boundary_breaks, bounds_breaks, branch_breaks, size_breaks}
use Rattle.wax_rule.specs.{declared.rule.Rule.Rule, declared.rule.Rule.TheVariants.{Boundary, Bounds, Branch}}
use Rattle.wax_token.specs.Reads.{Span}
use Rattle.wax_token.specs.Syntax.{Tree, leaf, alternation, concatenation, repetition, Trees, none, more}

-- What contracts see of an error: the rule, where it is broken, and the characters of the expression.
pub record ErrorView : Type 0 where
  pub kind : RuleErrorKind
  pub location : Composite
  pub expression : List ℕ

-- the error is the first of the breaks
abbrev pub TellsFirst : List Break → ErrorView → Type 0
TellsFirst [] e = ⊥
TellsFirst (b ∷ bs) e = (e.kind ≡ b.kind) × (e.location ≡ b.location)

abbrev pub head_of : {A : Type 0} → List A → Option A
head_of [] = None
head_of (x ∷ xs) = Some x

abbrev pub breaks_of : Rule → Situated → List Break
breaks_of Boundary s = boundary_breaks s.token
breaks_of Bounds s = bounds_breaks s.token
breaks_of Branch s = branch_breaks s.left s.right s.token

-- the breaks of all but sizes
abbrev pub shape_breaks : List Situated → List Break
shape_breaks row =
    flat_map (breaks_of Boundary) row ++ flat_map (breaks_of Bounds) row ++ flat_map (breaks_of Branch) row

abbrev pub oversized : List Situated → List Break
oversized row = flat_map (λ s. size_breaks s.token) row

-- the breaks of sizes of these tokens themselves
abbrev pub oversized_among : Trees Span → List Break
oversized_among none = []
oversized_among (more t ts) = size_breaks t ++ oversized_among ts

-- those of the tokens that a token holds, at the next level only
abbrev pub oversized_in : Tree Span → List Break
oversized_in (leaf a l) = []
oversized_in (alternation a ts) = oversized_among ts
oversized_in (concatenation a ts) = oversized_among ts
oversized_in (repetition a t low high) = size_breaks t

abbrev pub oversized_inside : List Situated → List Break
oversized_inside row = flat_map (λ s. oversized_in s.token) row
