use Rattle.std.proofs.Common.{◌≡◌, ◌+◌, map}
use Rattle.wax_token.specs.View.{branch_tree}
use Rattle.wax_fold.specs.{Mapped.mapped, inner.OpenTokens.{open_token, mapping, tree_visits}}
use Rattle.wax_fold.specs.inner.Opens.{closed, closed_all, steps_in, steps_left}
use Rattle.wax_fold.proofs.walk.mapping.map_branch.Given as goal

-- the branches around the current one and it have the new token of the whole
abbrev pub invariant-loop-token : goal.invariant-loop-token
invariant-loop-token g l =
    let f = g.F.FoldMap.answers l.fn.folder in
    record {
      token : closed_all (mapped f) (map (λ o. mapping f (open_token o)) l.outer.items)
          (closed (mapped f) (mapping f (open_token l.current)))
          ≡ mapped f (branch_tree l.fn.branch l.fn.annotation);
      same : g.F.FoldMap.answers l.folder ≡ f;
    }

abbrev pub decreases-loop-token : goal.decreases-loop-token
decreases-loop-token g l =
    let f = g.F.FoldMap.answers l.fn.folder in
    steps_left tree_visits (map (λ o. mapping f (open_token o)) l.outer.items)
    + steps_in tree_visits (mapping f (open_token l.current))
