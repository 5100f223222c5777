-- Patterns that are excluded from walks.
use Rattle.std.specs.Prelude.{◌≡◌, ◌<◌, ◌≤◌, ◌⊎◌, false, ℕ, List, map}
use Rattle.wax_exclude.specs.{GlobRequests.IsRuleOf, Length.{alternatives_length, list_length}}
use Rattle.wax_exclude.specs.{Marks.not_mark, Wanted.not_meant}
use Rattle.wax_token.specs.{Cost.program_length, Reads.Span, Syntax.Tree}
use Rattle.wax_walk.specs.{Candidates.Candidate, Given.Mark, Ruled.ruled_view, View.{IsSeenAs, WalkView}}
use Rattle.wax_tree.specs.Programs.{any_mark}
use Rattle.wax_set.specs.Patterns.{IsFirstRefused, IsOnly, SpellEach, WhyNotBuilt}
use Rattle.wax_rule.specs.declared.error.build_error.BuildError.{BuildError}
use Rattle.wax_rule.specs.declared.error.build_error.BuildError.TheVariants.{Memory}
use Rattle.wax.specs.{declared.ignoring.IgnoreList.IgnoreList, declared.walk_filter.WalkFilter.WalkFilter}
use Rattle.wax.specs.declared.walk_filter.WalkFilter.TheVariants.{Not, Ignore}

-- The only tree that is spelled, which fits.
pub record FitsAlone (SpellsTree : Tree Span → Type 0) (t : Tree Span) : Type 0 where
  pub only : IsOnly SpellsTree t
  pub fits : program_length t ≤ 1048576

-- the rule leaves out what the tree that is spelled means, with what lies below where an alternative covers
-- it
abbrev pub IsExclusionOf : (Tree Span → Type 0) → (Candidate → Mark) → Type 0
IsExclusionOf SpellsTree rule = (t : Tree Span) × FitsAlone SpellsTree t × (rule ≡ not_mark t)

-- why nothing is excluded: the pattern has an error, or its tree would cost too much
abbrev pub NoExclusion : (Tree Span → Type 0) → (BuildError → Type 0) → BuildError → Type 0
NoExclusion SpellsTree RefusesAs =
    WhyNotBuilt RefusesAs ((t : Tree Span) × IsOnly SpellsTree t × (1048576 < program_length t))

-- ---- several patterns as one

-- the rule leaves out what the tree of one of the patterns means
abbrev pub IsAnyExclusionOf : {P : Type 0} → (P → Tree Span → Type 0) → List P → (Candidate → Mark) → Type 0
IsAnyExclusionOf SpellsTree patterns rule = (ts : List (Tree Span))
    × SpellEach (λ p. FitsAlone (SpellsTree p)) patterns ts × (rule ≡ any_mark (map not_mark ts))

-- why nothing is excluded: the reason of the first pattern that has one, or memory ran out
abbrev pub NoAnyExclusion : {P : Type 0} → (P → Tree Span → Type 0) → (P → BuildError → Type 0) → List P
    → BuildError → Type 0
NoAnyExclusion SpellsTree RefusesAs patterns error = (error ≡ Memory) ⊎ IsFirstRefused
    (λ p. FitsAlone (SpellsTree p)) (λ p. NoExclusion (SpellsTree p) (RefusesAs p)) patterns error

-- ---- walks

-- one walk is seen as the other without what the spelled tree matches
abbrev pub IsWalkExcluding : {D : Type 0} → (Tree Span → Type 0) → WalkView D → WalkView D → Type 0
IsWalkExcluding SpellsTree inner outer = (t : Tree Span) × FitsAlone SpellsTree t
    × IsSeenAs (ruled_view inner (not_mark t) false) outer

-- ---- filters

-- the rule is that of the tree that is spelled, which fits
abbrev pub IsNotRule : (Tree Span → Type 0) → (Candidate → Mark) → Type 0
IsNotRule SpellsTree rule = (t : Tree Span) × FitsAlone SpellsTree t × IsRuleOf (not_meant t) rule

-- what a filter says, by what its pattern or its list says
abbrev pub rule_by : (List (Tree Span) → Candidate → Mark) → (IgnoreList → Candidate → Mark) → WalkFilter
    → Candidate → Mark
rule_by not_rule ignore_rule (Not alternatives) = not_rule alternatives
rule_by not_rule ignore_rule (Ignore list) = ignore_rule list

-- how long the program of a filter may be
abbrev pub filter_length : WalkFilter → ℕ
filter_length (Not alternatives) = alternatives_length alternatives
filter_length (Ignore list) = list_length list
