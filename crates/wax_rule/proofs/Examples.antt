-- Worked examples of the rules: the trees that expressions spell, and the first break of each.
use Rattle.std.proofs.Common.{◌≡◌, ℕ, false, List, [], ◌∷◌, Option, Some, None, refl, codes}
use Rattle.wax_query.specs.declared.diagnostics.located.CorrelatedSpan.{CorrelatedSpan}
use Rattle.wax_query.specs.declared.diagnostics.located.CorrelatedSpan.TheVariants.{Contiguous, Split}
use Rattle.wax_facts.specs.{declared.rules.Break.Break, declared.rules.RuleErrorKind.RuleErrorKind}
use Rattle.wax_facts.specs.declared.rules.RuleErrorKind.TheVariants.{AdjacentBoundary, IncompatibleBounds}
use Rattle.wax_facts.specs.declared.rules.RuleErrorKind.TheVariants.{SingularTree, AdjacentZeroOrMore}
use Rattle.wax_facts.specs.declared.rules.RuleErrorKind.TheVariants.{RootedSubGlob, SingularZeroOrMore}
use Rattle.wax_facts.specs.declared.rules.RuleErrorKind.TheVariants.{OversizedInvariant}
use Rattle.wax_facts.specs.Rules.{broken, break_here}
use Rattle.wax_rule.specs.FirstBreak.{head_of}
use Rattle.wax_token.specs.{declared.token.Evaluation.TheVariants.Eager, Reads.Span}
use Rattle.wax_token.specs.Syntax.{Tree, leaf, alternation, concatenation, repetition, literal, separator}
use Rattle.wax_token.specs.{Syntax.{zero_or_more, tree}, Words.trees}

-- a glob or sub-glob of these tokens
abbrev glob : ℕ → ℕ → List (Tree Span) → Tree Span
glob start len ts = concatenation (start, len) (trees ts)

-- one letter
abbrev letter : ℕ → Tree Span
letter start = leaf (start, 1) (literal false (codes "a"))

abbrev slash : ℕ → Tree Span
slash start = leaf (start, 1) separator

abbrev star : ℕ → Tree Span
star start = leaf (start, 1) (zero_or_more Eager)

abbrev in_alternation : RuleErrorKind → Span → CorrelatedSpan → Option Break
in_alternation kind s c = Some (record {
  kind = kind;
  location = record { label = codes "in this alternation"; span = s; correlated = Some c };
})

abbrev in_repetition : RuleErrorKind → Span → CorrelatedSpan → Option Break
in_repetition kind s c = Some (record {
  kind = kind;
  location = record { label = codes "in this repetition"; span = s; correlated = Some c };
})

-- `a//b`
pub neighbours : broken (glob 0 4 (letter 0 ∷ slash 1 ∷ slash 2 ∷ letter 3 ∷ []))
    ≡ break_here AdjacentBoundary (1, 2) ∷ []
neighbours = refl

-- `{**}//a`: neighbours before branches
pub neighbours_first : head_of (broken (glob 0 7 (alternation (0, 4)
    (trees (glob 1 2 (leaf (1, 2) (tree false) ∷ []) ∷ [])) ∷ slash 4 ∷ slash 5 ∷ letter 6 ∷ [])))
    ≡ Some (break_here AdjacentBoundary (4, 2))
neighbours_first = refl

-- `<a/:10,9>`
pub bounds_turned :
    broken (glob 0 9 (repetition (0, 9) (glob 1 2 (letter 1 ∷ slash 2 ∷ [])) 10 (Some 9) ∷ []))
    ≡ break_here IncompatibleBounds (0, 9) ∷ []
bounds_turned = refl

-- `<a:0>`
pub bounds_of_zero : broken (glob 0 5 (repetition (0, 5) (glob 1 1 (letter 1 ∷ [])) 0 (Some 0) ∷ []))
    ≡ break_here IncompatibleBounds (0, 5) ∷ []
bounds_of_zero = refl

-- `{a,**}`
pub tree_alone : head_of (broken (glob 0 6 (alternation (0, 6)
    (trees (glob 1 1 (letter 1 ∷ []) ∷ glob 3 2 (leaf (3, 2) (tree false) ∷ []) ∷ [])) ∷ [])))
    ≡ in_alternation SingularTree (0, 6) (Contiguous (3, 2))
tree_alone = refl

-- `*{a,*}`
pub stars : head_of (broken (glob 0 6
    (star 0 ∷ alternation (1, 5) (trees (glob 2 1 (letter 2 ∷ []) ∷ glob 4 1 (star 4 ∷ []) ∷ [])) ∷ [])))
    ≡ in_alternation AdjacentZeroOrMore (1, 5) (Split (0, 1) (4, 1))
stars = refl

-- `{a,/a}`
pub root : head_of (broken (glob 0 6
    (alternation (0, 6) (trees (glob 1 1 (letter 1 ∷ []) ∷ glob 3 2 (slash 3 ∷ letter 4 ∷ []) ∷ [])) ∷ [])))
    ≡ in_alternation RootedSubGlob (0, 6) (Contiguous (3, 1))
root = refl

-- `</a/:1,>`
pub copies :
    head_of (broken (glob 0 8 (repetition (0, 8) (glob 1 3 (slash 1 ∷ letter 2 ∷ slash 3 ∷ [])) 1 None ∷ [])))
    ≡ in_repetition AdjacentBoundary (0, 8) (Split (1, 1) (3, 1))
copies = refl

-- `<*:1,>`
pub star_alone : head_of (broken (glob 0 6 (repetition (0, 6) (glob 1 1 (star 1 ∷ [])) 1 None ∷ [])))
    ≡ in_repetition SingularZeroOrMore (0, 6) (Contiguous (1, 1))
star_alone = refl

-- `b<a:65536>`: the whole before its tokens
pub size_of_the_whole : head_of
    (broken (glob 0 10 (letter 0 ∷ repetition (1, 9) (glob 2 1 (letter 2 ∷ [])) 65536 (Some 65536) ∷ [])))
    ≡ Some (break_here OversizedInvariant (0, 10))
size_of_the_whole = refl

-- `*<a:65536>`
pub size_of_a_token : head_of
    (broken (glob 0 10 (star 0 ∷ repetition (1, 9) (glob 2 1 (letter 2 ∷ [])) 65536 (Some 65536) ∷ [])))
    ≡ Some (break_here OversizedInvariant (1, 9))
size_of_a_token = refl

-- `<a:65535>`
pub size_that_fits : broken (glob 0 9 (repetition (0, 9) (glob 1 1 (letter 1 ∷ [])) 65535 (Some 65535) ∷ []))
    ≡ []
size_that_fits = refl

-- `a/{{/b}c}`: neighbours of the branch around, each side by itself
pub inherited : head_of (broken (glob 0 9 (letter 0 ∷ slash 1 ∷ alternation (2, 7) (trees (glob 3 5
    (alternation (3, 4) (trees (glob 4 2 (slash 4 ∷ letter 5 ∷ []) ∷ [])) ∷ letter 7 ∷ []) ∷ [])) ∷ [])))
    ≡ in_alternation AdjacentBoundary (3, 4) (Split (1, 1) (4, 1))
inherited = refl

-- `{a}/{b/}`
pub apart : broken (glob 0 8 (alternation (0, 3) (trees (glob 1 1 (letter 1 ∷ []) ∷ [])) ∷ slash 3
    ∷ alternation (4, 4) (trees (glob 5 2 (letter 5 ∷ slash 6 ∷ []) ∷ [])) ∷ [])) ≡ []
apart = refl

-- `{a/}x{/b}`
pub letter_between : broken (glob 0 9 (alternation (0, 4) (trees (glob 1 2 (letter 1 ∷ slash 2 ∷ []) ∷ []))
    ∷ letter 4 ∷ alternation (5, 4) (trees (glob 6 2 (slash 6 ∷ letter 7 ∷ []) ∷ [])) ∷ [])) ≡ []
letter_between = refl

-- `{</a:1>,b}`
pub root_in_a_repetition : broken (glob 0 10 (alternation (0, 10) (trees (glob 1 6 (repetition (1, 6)
    (glob 2 2 (slash 2 ∷ letter 3 ∷ [])) 1 (Some 1) ∷ []) ∷ glob 8 1 (letter 8 ∷ []) ∷ [])) ∷ [])) ≡ []
root_in_a_repetition = refl

-- `<</a:1,>:0,1>`
pub root_in_a_copy : broken (glob 0 13 (repetition (0, 13)
    (glob 1 7 (repetition (1, 7) (glob 2 2 (slash 2 ∷ letter 3 ∷ [])) 1 None ∷ [])) 0 (Some 1) ∷ [])) ≡ []
root_in_a_copy = refl
