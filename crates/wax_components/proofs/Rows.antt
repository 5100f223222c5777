-- Worked examples: the trees that expressions spell, and what the definitions say of them.
use Rattle.std.proofs.Common.{◌≡◌, ℕ, false, true, List, [], ◌∷◌, refl, codes}
use Rattle.wax_token.specs.{declared.token.Evaluation.TheVariants.Eager, Reads.Span}
use Rattle.wax_token.specs.Syntax.{Tree, leaf, alternation, concatenation, literal, separator, zero_or_more}
use Rattle.wax_token.specs.{Syntax.tree, Words.trees}
use Rattle.wax_components.specs.{Capturing.captures, Parts.components, Views.SemanticView, Warnings.warnings}
use Rattle.wax_components.specs.declared.warnings.Warning.TheVariants.{SemanticLiteral, TerminatingSeparator}

-- a glob or sub-glob of these tokens
abbrev glob : ℕ → ℕ → List (Tree Span) → Tree Span
glob start len ts = concatenation (start, len) (trees ts)

abbrev text : ℕ → ℕ → List ℕ → Tree Span
text start len s = leaf (start, len) (literal false s)

abbrev slash : ℕ → Tree Span
slash start = leaf (start, 1) separator

abbrev star : ℕ → Tree Span
star start = leaf (start, 1) (zero_or_more Eager)

-- `a/b*`
abbrev a_star : Tree Span
a_star = glob 0 4 (text 0 1 (codes "a") ∷ slash 1 ∷ text 2 1 (codes "b") ∷ star 3 ∷ [])

pub star_components : components a_star ≡ (text 0 1 (codes "a") ∷ [])
    ∷ (text 2 1 (codes "b") ∷ star 3 ∷ []) ∷ []
star_components = refl

pub star_captures : captures a_star ≡ (1, (3, 1)) ∷ []
star_captures = refl

pub star_warnings : warnings (codes "a/b*") a_star ≡ []
star_warnings = refl

-- `../a/`
abbrev parent : Tree Span
parent = glob 0 5 (text 0 2 (codes "..") ∷ slash 2 ∷ text 3 1 (codes "a") ∷ slash 4 ∷ [])

pub parent_warnings : warnings (codes "../a/") parent
    ≡ SemanticLiteral (record { expression = codes "../a/"; span = (0, 2); literal = codes ".." })
    ∷ TerminatingSeparator (record { expression = codes "../a/"; span = (4, 1) })
    ∷ []
parent_warnings = refl

-- `./{..}/(?i).`
abbrev nested : Tree Span
nested =
    glob 0 12
    (text 0 1 (codes ".")
    ∷ slash 1
    ∷ alternation (2, 4) (trees (glob 3 2 (text 3 2 (codes "..") ∷ []) ∷ []))
    ∷ slash 6
    ∷ leaf (7, 5) (literal true (codes "."))
    ∷ [])

abbrev said : List ℕ → Span → SemanticView
said t s = record { expression = codes "./{..}/(?i)."; span = s; literal = t }

-- those of the whole before those of its sub-globs
pub nested_warnings : warnings (codes "./{..}/(?i).") nested
    ≡ SemanticLiteral (said (codes ".") (0, 1))
    ∷ SemanticLiteral (said (codes ".") (7, 5))
    ∷ SemanticLiteral (said (codes "..") (3, 2))
    ∷ []
nested_warnings = refl

-- `a/**/b`
abbrev between : Tree Span
between = glob 0 6 (text 0 1 (codes "a") ∷ leaf (1, 4) (tree true) ∷ text 5 1 (codes "b") ∷ [])

pub between_components : components between
    ≡ (text 0 1 (codes "a") ∷ []) ∷ (leaf (1, 4) (tree true) ∷ []) ∷ (text 5 1 (codes "b") ∷ []) ∷ []
between_components = refl

pub between_captures : captures between ≡ (1, (1, 4)) ∷ []
between_captures = refl
