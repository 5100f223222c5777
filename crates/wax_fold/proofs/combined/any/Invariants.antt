use Rattle.std.proofs.Common.{◌≡◌, ◌++◌, length, map}
use Rattle.std.specs.Vec.Iter.{into_iter_items, into_iter_len}
use Rattle.wax_fold.specs.Bare.{bare}
use Rattle.wax_fold.proofs.combined.any.Given as goal

-- the tokens that were taken, and those that are left
abbrev pub invariant-loop-tree : goal.invariant-loop-tree
invariant-loop-tree g l = record {
  items : l.tokens.items ++ map (λ t. bare (g.T.TokenTree.token t)) (into_iter_items l.tree-iterator)
      ≡ map (λ t. bare (g.T.TokenTree.token t)) l.fn.all.items;
  count : into_iter_len l.tree-iterator ≡ length (into_iter_items l.tree-iterator);
}
