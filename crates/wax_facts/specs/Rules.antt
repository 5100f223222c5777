-- The breaks of the rules, in order.
use Rattle.std.specs.Prelude.{ℕ, Bool, true, false, ◌&&◌, ◌||◌, not, nat_lt, ◌==◌, List, [], ◌∷◌, ◌++◌}
use Rattle.std.specs.{Prelude.{if◌then◌else◌, Option, Some, None, codes}, List.flat_map, Option.is_none}
use Rattle.wax_query.specs.{Spans.span_union, declared.diagnostics.located.CorrelatedSpan.CorrelatedSpan}
use Rattle.wax_query.specs.declared.diagnostics.located.CorrelatedSpan.TheVariants.{Contiguous, Split}
use Rattle.wax_facts.specs.{declared.rules.Break.Break, declared.rules.RuleErrorKind.RuleErrorKind}
use Rattle.wax_facts.specs.declared.rules.RuleErrorKind.TheVariants.{AdjacentBoundary, IncompatibleBounds}
use Rattle.wax_facts.specs.declared.rules.RuleErrorKind.TheVariants.{SingularTree, AdjacentZeroOrMore}
use Rattle.wax_facts.specs.declared.rules.RuleErrorKind.TheVariants.{RootedSubGlob, SingularZeroOrMore}
use Rattle.wax_facts.specs.declared.rules.RuleErrorKind.TheVariants.{OversizedInvariant}
use Rattle.wax_facts.specs.{declared.rules.Row.Row, declared.rules.Terminal.Terminal}
use Rattle.wax_facts.specs.{declared.rules.Sort.Sort, declared.rules.Side.Side, Sizes.is_oversized}
use Rattle.wax_facts.specs.Situated.{Situated, breadth_first}
use Rattle.wax_token.specs.Kinds.{is_such, is_separator_leaf, is_zero_or_more_leaf, is_tree_leaf}
use Rattle.wax_token.specs.{Kinds.{is_boundary_leaf, is_rooting_leaf}, Reads.Span}
use Rattle.wax_token.specs.Syntax.{Tree, leaf, alternation, concatenation, repetition, Trees, none, more}
use Rattle.wax_token.specs.Words.{annotation_of, members}
use Rattle.wax_facts.specs.declared.rules.Sort.TheVariants as sort

-- a break at one place
abbrev pub break_here : RuleErrorKind → Span → Break
break_here kind s =
    record { kind = kind; location = record { label = codes "here"; span = s; correlated = None } }

-- ---- adjacent boundaries: two neighbours of a concatenation are both `/` or `**`
-- the span of two tokens that are both boundaries
abbrev pub adjacent_span : Tree Span → Tree Span → Option Span
adjacent_span t u =
    if is_such is_boundary_leaf t && is_such is_boundary_leaf u
    then Some (span_union (annotation_of t) (annotation_of u)) else None

abbrev pub boundary_break : Option Span → List Break
boundary_break None = []
boundary_break (Some s) = break_here AdjacentBoundary s ∷ []

abbrev pub adjacent_boundaries : Trees Span → List Break
adjacent_boundaries none = []
adjacent_boundaries (more t none) = []
adjacent_boundaries (more t (more u us)) =
    boundary_break (adjacent_span t u) ++ adjacent_boundaries (more u us)

abbrev pub boundary_breaks : Tree Span → List Break
boundary_breaks (leaf a l) = []
boundary_breaks (alternation a ts) = []
boundary_breaks (concatenation a ts) = adjacent_boundaries ts
boundary_breaks (repetition a t low high) = []

-- ---- incompatible bounds: the upper bound is below the lower one, or both are zero
abbrev pub are_incompatible : ℕ → Option ℕ → Bool
are_incompatible low None = false
are_incompatible low (Some high) = nat_lt high low || (low == 0) && (high == 0)

abbrev pub bounds_breaks : Tree Span → List Break
bounds_breaks (leaf a l) = []
bounds_breaks (alternation a ts) = []
bounds_breaks (concatenation a ts) = []
bounds_breaks (repetition a t low high) =
    if are_incompatible low high then break_here IncompatibleBounds a ∷ [] else []

-- ---- what a sub-glob makes of the branch around it and of the branch's neighbours
-- its first or last token
abbrev pub terminal_of : Tree Span → Terminal
terminal_of t = record {
  span = annotation_of t;
  is_boundary = is_such is_boundary_leaf t;
  is_separator = is_such is_separator_leaf t;
  is_tree = is_such is_tree_leaf t;
  is_rooting = is_such is_rooting_leaf t;
  is_zero_or_more = is_such is_zero_or_more_leaf t;
}

-- the neighbour, if there is one, has a boundary at its side
abbrev pub side_has_boundary : Option Side → Bool
side_has_boundary None = false
side_has_boundary (Some s) = s.has_boundary

-- rows like these for `*` and `$`
abbrev pub has_zero_or_more : Option Side → Bool
has_zero_or_more None = false
has_zero_or_more (Some s) = s.has_zero_or_more

-- the neighbour, if there is one, and the token
abbrev pub split_from : Option Side → Terminal → CorrelatedSpan
split_from None t = Contiguous t.span
split_from (Some s) t = Split s.span t.span

-- what neither an alternation nor a repetition may hold, by the first and the last token of the sub-glob and
-- whether they are several
abbrev pub shared_rows : Option Side → Option Side → Terminal → Terminal → Bool → List Row
shared_rows left right first last several =
    record {
      holds = first.is_separator && side_has_boundary left;
      kind = AdjacentBoundary;
      correlated = split_from left first;
    }
    ∷ record {
      holds = last.is_separator && side_has_boundary right;
      kind = AdjacentBoundary;
      correlated = split_from right last;
    }
    ∷ record { holds = not several && first.is_tree; kind = SingularTree; correlated = Contiguous first.span }
    ∷ record {
      holds = several && first.is_tree && side_has_boundary left;
      kind = AdjacentBoundary;
      correlated = split_from left first;
    }
    ∷ record {
      holds = several && last.is_tree && side_has_boundary right;
      kind = AdjacentBoundary;
      correlated = split_from right last;
    }
    ∷ record {
      holds = first.is_zero_or_more && has_zero_or_more left;
      kind = AdjacentZeroOrMore;
      correlated = split_from left first;
    }
    ∷ record {
      holds = last.is_zero_or_more && has_zero_or_more right;
      kind = AdjacentZeroOrMore;
      correlated = split_from right last;
    }
    ∷ []

-- what an alternation may not hold
abbrev pub alternation_rows : Option Side → Terminal → List Row
alternation_rows left first =
    record {
      holds = is_none left && first.is_rooting;
      kind = RootedSubGlob;
      correlated = Contiguous first.span;
    }
    ∷ []

-- what a repetition may not hold
abbrev pub repetition_rows : Option Side → ℕ → Terminal → Terminal → Bool → List Row
repetition_rows left low first last several =
    record {
      holds = is_none left && (low == 0) && first.is_rooting;
      kind = RootedSubGlob;
      correlated = Contiguous first.span;
    }
    ∷ record {
      holds = several && first.is_boundary && last.is_boundary;
      kind = AdjacentBoundary;
      correlated = Split first.span last.span;
    }
    ∷ record {
      holds = not several && first.is_separator;
      kind = AdjacentBoundary;
      correlated = Contiguous first.span;
    }
    ∷ record {
      holds = not several && first.is_zero_or_more;
      kind = SingularZeroOrMore;
      correlated = Contiguous first.span;
    }
    ∷ []

abbrev pub own_rows : Sort → Option Side → Terminal → Terminal → Bool → List Row
own_rows sort.Alternation left first last several = alternation_rows left first
own_rows (sort.Repetition low) left first last several = repetition_rows left low first last several

abbrev pub first_that_holds : List Row → Option Row
first_that_holds [] = None
first_that_holds (row ∷ rows) = if row.holds then Some row else first_that_holds rows

abbrev pub label_of : Sort → List ℕ
label_of sort.Alternation = codes "in this alternation"
label_of (sort.Repetition low) = codes "in this repetition"

abbrev pub break_in : Sort → Span → Option Row → List Break
break_in branch s None = []
break_in branch s (Some row) =
    record {
      kind = row.kind;
      location = record { label = label_of branch; span = s; correlated = Some row.correlated };
    } ∷ []

abbrev pub last_of : {A : Type 0} → Tree A → Trees A → Tree A
last_of t none = t
last_of t (more u us) = last_of u us

abbrev pub are_some : {A : Type 0} → Trees A → Bool
are_some none = false
are_some (more t ts) = true

-- the rows for the tokens of a sub-glob
abbrev pub rows_of : Sort → Option Side → Option Side → Trees Span → List Row
rows_of branch left right none = []
rows_of branch left right (more t ts) =
    shared_rows left right (terminal_of t) (terminal_of (last_of t ts)) (are_some ts)
    ++ own_rows branch left (terminal_of t) (terminal_of (last_of t ts)) (are_some ts)

-- the first row that holds, of a sub-glob in a branch of this span
abbrev pub sub_glob_breaks : Sort → Span → Option Side → Option Side → Tree Span → List Break
sub_glob_breaks branch s left right t =
    break_in branch s (first_that_holds (rows_of branch left right (members t)))

abbrev pub alternative_breaks : Span → Option Side → Option Side → Trees Span → List Break
alternative_breaks s left right none = []
alternative_breaks s left right (more t ts) =
    sub_glob_breaks sort.Alternation s left right t ++ alternative_breaks s left right ts

-- of each sub-glob of a branch
abbrev pub branch_breaks : Option Side → Option Side → Tree Span → List Break
branch_breaks left right (leaf a l) = []
branch_breaks left right (alternation a ts) = alternative_breaks a left right ts
branch_breaks left right (concatenation a ts) = []
branch_breaks left right (repetition a t low high) = sub_glob_breaks (sort.Repetition low) a left right t

-- ---- oversized invariants: a fixed size of 65,536 or more
abbrev pub size_breaks : Tree Span → List Break
size_breaks t = if is_oversized t then break_here OversizedInvariant (annotation_of t) ∷ [] else []

-- ---- all breaks: rule by rule, and for each rule breadth first
abbrev pub breaks_among : List Situated → List Break
breaks_among tokens =
    flat_map (λ s. boundary_breaks s.token) tokens
    ++ flat_map (λ s. bounds_breaks s.token) tokens
    ++ flat_map (λ s. branch_breaks s.left s.right s.token) tokens
    ++ flat_map (λ s. size_breaks s.token) tokens

abbrev pub broken : Tree Span → List Break
broken t = breaks_among (breadth_first t)
