-- A child of a token is smaller than the token.
use Rattle.std.specs.Prelude.{◌≤◌}
use Rattle.std.proofs.Common.{arith}
use Rattle.wax_token.specs.{Syntax.tree_size, View.topology_tree, TreeCode.most_le-trees_size}
use Rattle.wax_token.specs.{declared.token.Token.TheDeep.deep-Token, declared.token.Topology.Topology}
use Rattle.wax_token.specs.declared.token.Topology.TheVariants.{Branch, Leaf as LeafOf}
use Rattle.wax_token.specs.{declared.token.BranchKind.BranchKind, declared.token.LeafKind.LeafKind}
use Rattle.wax_token.specs.declared.token.BranchKind.TheVariants as branch

pub deep_le : {A : Type 0} (x : Topology (BranchKind A) LeafKind) (a : A) →
    deep-Token A (record { topology = x; annotation = a }) ≤ tree_size (topology_tree x a)
deep_le (LeafOf l) a = omega arith
deep_le (Branch (branch.Alternation ts)) a = omega (arith, most_le-trees_size ts.tokens.items)
deep_le (Branch (branch.Concatenation ts)) a = omega (arith, most_le-trees_size ts.tokens.items)
deep_le (Branch (branch.Repetition r)) a = omega arith
