-- One level of a token, as a plain tree.
use Rattle.wax_token.specs.Syntax.{Leaf, literal, class, separator, one, zero_or_more, tree, Tree, leaf}
use Rattle.wax_token.specs.{Syntax.{alternation, concatenation, repetition}, Words.trees}
use Rattle.wax_token.specs.{declared.token.LeafKind.LeafKind, declared.token.Wildcard.Wildcard}
use Rattle.wax_token.specs.declared.token.Topology.{Topology}
use Rattle.wax_token.specs.declared.token.Topology.TheVariants.{Branch, Leaf as LeafOf}
use Rattle.wax_token.specs.declared.token.BranchKind.{BranchKind}
use Rattle.wax_token.specs.declared.token.LeafKind.TheVariants as kind
use Rattle.wax_token.specs.declared.token.Wildcard.TheVariants as wild
use Rattle.wax_token.specs.declared.token.BranchKind.TheVariants as branch

abbrev pub wildcard_leaf : Wildcard → Leaf
wildcard_leaf wild.One = one
wildcard_leaf (wild.ZeroOrMore evaluation) = zero_or_more evaluation
wildcard_leaf (wild.Tree has_root) = tree has_root

abbrev pub leaf_of : LeafKind → Leaf
leaf_of (kind.Class c) = class c.0 c.1
leaf_of (kind.Literal l) = literal l.0 l.1
leaf_of (kind.Separator s) = separator
leaf_of (kind.Wildcard w) = wildcard_leaf w

abbrev pub branch_tree : {A : Type 0} → BranchKind A → A → Tree A
branch_tree (branch.Alternation ts) a = alternation a (trees ts.tokens.items)
branch_tree (branch.Concatenation ts) a = concatenation a (trees ts.tokens.items)
branch_tree (branch.Repetition r) a = repetition a r.token.value r.lower r.upper

abbrev pub topology_tree : {A : Type 0} → Topology (BranchKind A) LeafKind → A → Tree A
topology_tree (Branch b) a = branch_tree b a
topology_tree (LeafOf l) a = leaf a (leaf_of l)
