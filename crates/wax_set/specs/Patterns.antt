-- What patterns stand for, and how the building of a set of them ends.
use Rattle.std.specs.Prelude.{◌≡◌, ◌↔◌, ◌<◌, ◌≤◌, ◌++◌, ◌∷◌, ◌⊎◌, ℕ, zero, suc, List, [], Result, Ok, Err, ⊤}
use Rattle.std.specs.List.{AllZip}
use Rattle.wax_token.specs.{Cost.program_length, Reads.Span, Syntax.{Tree, alternation}, Words.trees}
use Rattle.wax_rule.specs.declared.error.build_error.BuildError.{BuildError}
use Rattle.wax_rule.specs.declared.error.build_error.BuildError.TheVariants.{Parse, Rule, Compile, Memory}
use Rattle.wax_set.specs.Sets.{MeansAt, MeansText}

-- ---- single patterns

-- memory ran out, and nothing else
abbrev pub LacksMemory : BuildError → Type 0
LacksMemory error = error ≡ Memory

-- ---- what may have been refused before

abbrev pub SpellsOk : {P : Type 0} → (P → Tree Span → Type 0) → Result P BuildError → Tree Span → Type 0
SpellsOk SpellsTree (Ok pattern) t = SpellsTree pattern t
SpellsOk SpellsTree (Err e) t = ⊥

abbrev pub RefusesOk : {P : Type 0} → (P → BuildError → Type 0) → Result P BuildError → BuildError → Type 0
RefusesOk RefusesAs (Ok pattern) error = RefusesAs pattern error
RefusesOk RefusesAs (Err e) error = error ≡ e

-- ---- sets

-- the only tree that is spelled
abbrev pub IsOnly : (Tree Span → Type 0) → Tree Span → Type 0
IsOnly SpellsTree t = SpellsTree t × ((u : Tree Span) → SpellsTree u → u ≡ t)

-- the only tree of each pattern, in their order
abbrev pub SpellEach : {P : Type 0} → (P → Tree Span → Type 0) → List P → List (Tree Span) → Type 0
SpellEach SpellsTree patterns ts = AllZip (λ pattern t. IsOnly (SpellsTree pattern) t) patterns ts

-- one of the patterns spells a tree that means the text
abbrev pub OneMeans : {P : Type 0} → (P → Tree Span → Type 0) → List P → List ℕ → Type 0
OneMeans SpellsTree [] s = ⊥
OneMeans SpellsTree (pattern ∷ patterns) s =
    ((t : Tree Span) × SpellsTree pattern t × MeansText t s) ⊎ OneMeans SpellsTree patterns s

-- the pattern with this index spells a tree that means the text
abbrev pub NumberMeans : {P : Type 0} → (P → Tree Span → Type 0) → List P → ℕ → List ℕ → Type 0
NumberMeans SpellsTree [] number s = ⊥
NumberMeans SpellsTree (pattern ∷ patterns) zero s = (t : Tree Span) × SpellsTree pattern t × MeansText t s
NumberMeans SpellsTree (pattern ∷ patterns) (suc number) s = NumberMeans SpellsTree patterns number s

-- The set of the patterns: the alternation of their trees, which fits.
pub record IsAnyOf {P : Type 0} (SpellsTree : P → Tree Span → Type 0) (patterns : List P) (t : Tree Span)
    : Type 0 where
  pub branches : List (Tree Span)
  pub each : SpellEach SpellsTree patterns branches
  pub tree : t ≡ alternation (0, 0) (trees branches)
  pub fits : program_length t ≤ 1048576
  pub means : (s : List ℕ) → MeansText t s ↔ OneMeans SpellsTree patterns s
  pub numbers : (number : ℕ) (s : List ℕ) → MeansAt t number s ↔ NumberMeans SpellsTree patterns number s

-- The alternation of their trees costs too much.
pub record AreOversized {P : Type 0} (SpellsTree : P → Tree Span → Type 0) (patterns : List P) : Type 0 where
  pub branches : List (Tree Span)
  pub each : SpellEach SpellsTree patterns branches
  pub oversized : 1048576 < program_length (alternation (0, 0) (trees branches))

-- This is the error of the pattern, and each one before it spells a tree.
pub record IsFirstRefused {P : Type 0} (SpellsTree : P → Tree Span → Type 0)
    (RefusesAs : P → BuildError → Type 0) (patterns : List P) (error : BuildError) : Type 0 where
  pub before : List P
  pub branches : List (Tree Span)
  pub each : SpellEach SpellsTree before branches
  pub pattern : P
  pub refused : RefusesAs pattern error
  pub after : List P
  pub all : patterns ≡ before ++ pattern ∷ after

-- why nothing is built: it has an error, or would cost too much; if memory ran out, nothing is claimed
abbrev pub WhyNotBuilt : (BuildError → Type 0) → Type 0 → BuildError → Type 0
WhyNotBuilt RefusedAs Oversized (Parse place) = RefusedAs (Parse place)
WhyNotBuilt RefusedAs Oversized (Rule error) = RefusedAs (Rule error)
WhyNotBuilt RefusedAs Oversized (Compile error) = RefusedAs (Compile error) ⊎ Oversized
WhyNotBuilt RefusedAs Oversized Memory = ⊤

-- why there is no set of the patterns: the first that has an error, or the cost of all
abbrev pub NoSet : {P : Type 0} → (P → Tree Span → Type 0) → (P → BuildError → Type 0) → List P
    → BuildError → Type 0
NoSet SpellsTree RefusesAs patterns =
    WhyNotBuilt (IsFirstRefused SpellsTree RefusesAs patterns) (AreOversized SpellsTree patterns)
