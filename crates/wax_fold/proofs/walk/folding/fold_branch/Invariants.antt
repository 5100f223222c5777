use Rattle.std.proofs.Common.{◌≡◌, ◌+◌, map}
use Rattle.wax_fold.specs.{Branches.branch_of, Folded.folded, inner.BranchFolded.branch_folded}
use Rattle.wax_fold.specs.inner.OpenBranches.{open_branch, folding, branch_visits}
use Rattle.wax_fold.specs.inner.Opens.{closed, closed_all, steps_in, steps_left}
use Rattle.wax_fold.proofs.walk.folding.fold_branch.Given as goal

-- the branches around the current one and it have the term of the whole
abbrev pub invariant-loop-token : goal.invariant-loop-token
invariant-loop-token g l =
    let chosen = g.F.Sequencer.Sequencer.chosen g.row.A.Denot in
    let f = g.F.Fold.answers l.fn.folder in
    record {
      term : closed_all (folded chosen f) (map (λ o. folding f (open_branch o)) l.outer.items)
          (closed (folded chosen f) (folding f (open_branch l.current)))
          ≡ branch_folded chosen f (branch_of l.branch);
      same : g.F.Fold.answers l.folder ≡ f;
    }

abbrev pub decreases-loop-token : goal.decreases-loop-token
decreases-loop-token g l =
    let chosen = g.F.Sequencer.Sequencer.chosen g.row.A.Denot in
    let f = g.F.Fold.answers l.fn.folder in
    steps_left (branch_visits chosen) (map (λ o. folding f (open_branch o)) l.outer.items)
    + steps_in (branch_visits chosen) (folding f (open_branch l.current))
