use Rattle.std.proofs.Common.{◌∙◌, refl, map}
use Rattle.wax_token.specs.Words.{annotation_of}
use Rattle.wax_fold.specs.{Branches.branch_of, inner.BranchFolded.branch_folded}
use Rattle.wax_fold.specs.inner.OpenBranches.{open_branch, folding, counting}
use Rattle.wax_fold.proofs.Folds.{folded_token, begun, deeper, back, fewer_deeper, fewer_back}
use Rattle.wax_fold.proofs.Picking.{mapped_last}
use Rattle.wax_fold.proofs.walk.folding.fold_branch.Goals as goal

pub loop-token-init : goal.loop-token-init
loop-token-init g c =
    let chosen = g.F.Sequencer.Sequencer.chosen g.row.A.Denot in
    let f = g.F.Fold.answers c.args.folder.now in
    let b = branch_of c.args.branch.now in
    record {
      term =
          begun chosen f (branch_folded chosen f b) (λ o. folding f (open_branch o)) c.new-outer.result.items
          (open_branch c.in_ok-current.current) b c.new-outer.ensures.items c.in_ok-current.ensures;
      same = refl;
    }

pub loop-token-smaller-in-Branch : goal.loop-token-smaller-in-Branch
loop-token-smaller-in-Branch g c =
    let chosen = g.F.Sequencer.Sequencer.chosen g.row.A.Denot in
    let f = g.F.Fold.answers c.args.folder.now in
    let token = c.in-Some.token.now in
    fewer_deeper chosen f
    (map (λ o. folding f (open_branch o)) c.loop-token.outer.items)
    (map (λ o. folding f (open_branch o)) c.push.new.self.items)
    (open_branch c.loop-token.current) (open_branch c.next_child.new.of)
    (open_branch c.in_ok-inner-in-Branch.inner) token (branch_of c.in-Branch.branch)
    (mapped_last (λ o. folding f (open_branch o)) c.push.new.self.items c.loop-token.outer.items
    c.next_child.new.of c.in_ok-push-in-Branch.ensures.items)
    c.in-Some.ensures.0 c.in_ok-inner-in-Branch.ensures
    (folded_token chosen counting c.topology.result.now c.in-Branch.branch token (annotation_of token)
    c.in-Branch.is c.topology.ensures)

pub loop-token-preserved-in-Branch : goal.loop-token-preserved-in-Branch
loop-token-preserved-in-Branch g c =
    let chosen = g.F.Sequencer.Sequencer.chosen g.row.A.Denot in
    let f = g.F.Fold.answers c.args.folder.now in
    let token = c.in-Some.token.now in
    record {
      term = deeper chosen f (branch_folded chosen f (branch_of c.args.branch.now))
          (map (λ o. folding f (open_branch o)) c.loop-token.outer.items)
          (map (λ o. folding f (open_branch o)) c.push.new.self.items)
          (open_branch c.loop-token.current) (open_branch c.next_child.new.of)
          (open_branch c.in_ok-inner-in-Branch.inner) token (branch_of c.in-Branch.branch)
          (mapped_last (λ o. folding f (open_branch o)) c.push.new.self.items c.loop-token.outer.items
          c.next_child.new.of c.in_ok-push-in-Branch.ensures.items)
          c.in-Some.ensures c.in_ok-inner-in-Branch.ensures
          (folded_token chosen f c.topology.result.now c.in-Branch.branch token (annotation_of token)
          c.in-Branch.is c.topology.ensures)
          c.loop-token.invariant.term;
      same = c.loop-token.invariant.same;
    }

pub loop-token-preserved : goal.loop-token-preserved
loop-token-preserved g c =
    let chosen = g.F.Sequencer.Sequencer.chosen g.row.A.Denot in
    let f = g.F.Fold.answers c.args.folder.now in
    record {
      term = back chosen f (branch_folded chosen f (branch_of c.args.branch.now))
          (map (λ o. folding f (open_branch o)) c.pop.new.self.items)
          (map (λ o. folding f (open_branch o)) c.loop-token.outer.items)
          (open_branch c.loop-token.current) (open_branch c.next_child.new.of)
          (open_branch c.in-Some-pop.around) (open_branch c.in_ok-current-in-Some-pop.current)
          (g.F.Fold.answers c.loop-token.folder) c.in_ok-term-in-None.term
          (mapped_last (λ o. folding f (open_branch o)) c.loop-token.outer.items c.pop.new.self.items
          c.in-Some-pop.around c.in-Some-pop.ensures.items)
          c.in-None.ensures c.loop-token.invariant.same c.in_ok-term-in-None.ensures.term
          c.in_ok-current-in-Some-pop.ensures c.loop-token.invariant.term;
      same = c.close.ensures.same ∙ c.loop-token.invariant.same;
    }

pub loop-token-smaller : goal.loop-token-smaller
loop-token-smaller g c =
    let chosen = g.F.Sequencer.Sequencer.chosen g.row.A.Denot in
    let f = g.F.Fold.answers c.args.folder.now in
    fewer_back chosen f
    (map (λ o. folding f (open_branch o)) c.pop.new.self.items)
    (map (λ o. folding f (open_branch o)) c.loop-token.outer.items)
    (open_branch c.loop-token.current) (open_branch c.in-Some-pop.around)
    (open_branch c.in_ok-current-in-Some-pop.current) c.in_ok-term-in-None.term
    (mapped_last (λ o. folding f (open_branch o)) c.loop-token.outer.items c.pop.new.self.items
    c.in-Some-pop.around c.in-Some-pop.ensures.items)
    c.in_ok-current-in-Some-pop.ensures
