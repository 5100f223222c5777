-- What a token is: its kind and what it holds, what bounds components, what roots and what captures.
use Rattle.std.specs.Prelude.{ℕ, Bool, true, false, ◌||◌, not, List, Option, Some, None, is_some}
use Rattle.wax_token.specs.Syntax.{Leaf, literal, class, separator, one, zero_or_more, tree, Tree, leaf}
use Rattle.wax_token.specs.Syntax.{alternation, concatenation, repetition, Trees, none, more}
use Rattle.wax_token.specs.{Words.is_leaf_tree, declared.token.Archetype.Archetype}
use Rattle.wax_token.specs.{declared.token.Wildcard.Wildcard, declared.token.boundary.Boundary.Boundary}
use Rattle.wax_token.specs.declared.token.Wildcard.TheVariants as wild
use Rattle.wax_token.specs.declared.token.boundary.Boundary.TheVariants as boundary

-- ---- branches, each with what it holds

abbrev pub alternation_of : {A : Type 0} → Tree A → Option (Trees A)
alternation_of (leaf a l) = None
alternation_of (alternation a ts) = Some ts
alternation_of (concatenation a ts) = None
alternation_of (repetition a t low high) = None

abbrev pub concatenation_of : {A : Type 0} → Tree A → Option (Trees A)
concatenation_of (leaf a l) = None
concatenation_of (alternation a ts) = None
concatenation_of (concatenation a ts) = Some ts
concatenation_of (repetition a t low high) = None

-- the body, and the least and the greatest number of copies
abbrev pub repetition_of : {A : Type 0} → Tree A → Option (Tree A × ℕ × Option ℕ)
repetition_of (leaf a l) = None
repetition_of (alternation a ts) = None
repetition_of (concatenation a ts) = None
repetition_of (repetition a t low high) = Some (t, low, high)

-- ---- leaves, each with what it holds

-- what the function returns for a leaf, and nothing for a branch
abbrev pub of_leaf : {A B : Type 0} → (Leaf → Option B) → Tree A → Option B
of_leaf f (leaf a l) = f l
of_leaf f (alternation a ts) = None
of_leaf f (concatenation a ts) = None
of_leaf f (repetition a t low high) = None

abbrev pub leaf_class : Leaf → Option (Bool × List Archetype)
leaf_class (literal b t) = None
leaf_class (class b xs) = Some (b, xs)
leaf_class separator = None
leaf_class one = None
leaf_class (zero_or_more e) = None
leaf_class (tree rooted) = None

abbrev pub leaf_literal : Leaf → Option (Bool × List ℕ)
leaf_literal (literal b t) = Some (b, t)
leaf_literal (class b xs) = None
leaf_literal separator = None
leaf_literal one = None
leaf_literal (zero_or_more e) = None
leaf_literal (tree rooted) = None

abbrev pub leaf_wildcard : Leaf → Option Wildcard
leaf_wildcard (literal b t) = None
leaf_wildcard (class b xs) = None
leaf_wildcard separator = None
leaf_wildcard one = Some wild.One
leaf_wildcard (zero_or_more e) = Some (wild.ZeroOrMore e)
leaf_wildcard (tree rooted) = Some (wild.Tree rooted)

-- whether it is negated, and its archetypes
abbrev pub class_of : {A : Type 0} → Tree A → Option (Bool × List Archetype)
class_of t = of_leaf leaf_class t

-- whether its case doesn't matter, and its characters
abbrev pub literal_of : {A : Type 0} → Tree A → Option (Bool × List ℕ)
literal_of t = of_leaf leaf_literal t

abbrev pub wildcard_of : {A : Type 0} → Tree A → Option Wildcard
wildcard_of t = of_leaf leaf_wildcard t

-- ---- kinds of leaves

abbrev pub is_literal_leaf : Leaf → Bool
is_literal_leaf (literal b t) = true
is_literal_leaf (class b xs) = false
is_literal_leaf separator = false
is_literal_leaf one = false
is_literal_leaf (zero_or_more e) = false
is_literal_leaf (tree rooted) = false

abbrev pub is_separator_leaf : Leaf → Bool
is_separator_leaf (literal b t) = false
is_separator_leaf (class b xs) = false
is_separator_leaf separator = true
is_separator_leaf one = false
is_separator_leaf (zero_or_more e) = false
is_separator_leaf (tree rooted) = false

-- `*` or `$`
abbrev pub is_zero_or_more_leaf : Leaf → Bool
is_zero_or_more_leaf (literal b t) = false
is_zero_or_more_leaf (class b xs) = false
is_zero_or_more_leaf separator = false
is_zero_or_more_leaf one = false
is_zero_or_more_leaf (zero_or_more e) = true
is_zero_or_more_leaf (tree rooted) = false

-- `**`
abbrev pub is_tree_leaf : Leaf → Bool
is_tree_leaf (literal b t) = false
is_tree_leaf (class b xs) = false
is_tree_leaf separator = false
is_tree_leaf one = false
is_tree_leaf (zero_or_more e) = false
is_tree_leaf (tree rooted) = true

-- `/` or `**`
abbrev pub is_boundary_leaf : Leaf → Bool
is_boundary_leaf (literal b t) = false
is_boundary_leaf (class b xs) = false
is_boundary_leaf separator = true
is_boundary_leaf one = false
is_boundary_leaf (zero_or_more e) = false
is_boundary_leaf (tree rooted) = true

-- `/` or a rooted `**`
abbrev pub is_rooting_leaf : Leaf → Bool
is_rooting_leaf (literal b t) = false
is_rooting_leaf (class b xs) = false
is_rooting_leaf separator = true
is_rooting_leaf one = false
is_rooting_leaf (zero_or_more e) = false
is_rooting_leaf (tree rooted) = rooted

-- a class or a wildcard
abbrev pub is_capturing_leaf : Leaf → Bool
is_capturing_leaf (literal b t) = false
is_capturing_leaf (class b xs) = true
is_capturing_leaf separator = false
is_capturing_leaf one = true
is_capturing_leaf (zero_or_more e) = true
is_capturing_leaf (tree rooted) = true

-- ---- kinds

-- a leaf of that kind
abbrev pub is_such : {A : Type 0} → (Leaf → Bool) → Tree A → Bool
is_such such (leaf a l) = such l
is_such such (alternation a ts) = false
is_such such (concatenation a ts) = false
is_such such (repetition a t low high) = false

abbrev pub is_branch : {A : Type 0} → Tree A → Bool
is_branch t = not (is_leaf_tree t)

abbrev pub is_alternation : {A : Type 0} → Tree A → Bool
is_alternation t = is_some (alternation_of t)

abbrev pub is_concatenation : {A : Type 0} → Tree A → Bool
is_concatenation t = is_some (concatenation_of t)

abbrev pub is_literal : {A : Type 0} → Tree A → Bool
is_literal t = is_such is_literal_leaf t

-- `/`
abbrev pub is_separator : {A : Type 0} → Tree A → Bool
is_separator t = is_such is_separator_leaf t

-- `**`
abbrev pub is_tree_wildcard : {A : Type 0} → Tree A → Bool
is_tree_wildcard t = is_such is_tree_leaf t

-- ---- what bounds components: `/` and `**`

abbrev pub leaf_boundary : Leaf → Option Boundary
leaf_boundary (literal b t) = None
leaf_boundary (class b xs) = None
leaf_boundary separator = Some boundary.Separator
leaf_boundary one = None
leaf_boundary (zero_or_more e) = None
leaf_boundary (tree rooted) = Some boundary.Component

abbrev pub boundary_of : {A : Type 0} → Tree A → Option Boundary
boundary_of t = of_leaf leaf_boundary t

abbrev pub is_boundary : {A : Type 0} → Tree A → Bool
is_boundary t = is_separator t || is_tree_wildcard t

-- the token is a boundary or holds one, at any depth
abbrev mutual
  pub has_boundary : {A : Type 0} → Tree A → Bool
  has_boundary (leaf a l) = is_boundary_leaf l
  has_boundary (alternation a ts) = some_has_boundary ts
  has_boundary (concatenation a ts) = some_has_boundary ts
  has_boundary (repetition a t low high) = has_boundary t

  pub some_has_boundary : {A : Type 0} → Trees A → Bool
  some_has_boundary none = false
  some_has_boundary (more t ts) = has_boundary t || some_has_boundary ts

-- ---- what captures: classes, wildcards, alternations and repetitions

abbrev pub is_capturing : {A : Type 0} → Tree A → Bool
is_capturing (leaf a l) = is_capturing_leaf l
is_capturing (alternation a ts) = true
is_capturing (concatenation a ts) = false
is_capturing (repetition a t low high) = true
