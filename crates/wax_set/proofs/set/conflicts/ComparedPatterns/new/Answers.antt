use Rattle.std.proofs.{Common.{length, refl}, lemmas.Option.slice_get_read}
use Rattle.wax_set.proofs.Conflicts.{all_compiled, branch_fits, one_compiled}
use Rattle.wax_set.proofs.set.conflicts.ComparedPatterns.new.Goals as goal

pub new-requires : goal.new-requires
new-requires c =
    let ts = c.args.branches.now in
    let i = c.loop-branch.branch-index in
    branch_fits ts i c.branch-item.result
    (slice_get_read ts (length ts) i c.branch-item.result refl c.loop-branch-test.true c.branch-item.is)
    c.requires

pub loop-branch-preserved : goal.loop-branch-preserved
loop-branch-preserved c =
    let ts = c.args.branches.now in
    let i = c.loop-branch.branch-index in
    one_compiled ts i c.branch-item.result c.loop-branch.compiled.items c.push.new.self.items
    c.in_ok-new.field-0
    (slice_get_read ts (length ts) i c.branch-item.result refl c.loop-branch-test.true c.branch-item.is)
    c.in_ok-push.ensures.items c.in_ok-new.ensures c.loop-branch.invariant

pub returns-clause-compiled : goal.returns-clause-compiled
returns-clause-compiled c = all_compiled c.args.branches.now c.loop-branch.branch-index
    c.loop-branch.compiled.items c.loop-branch-test.false c.loop-branch.invariant
