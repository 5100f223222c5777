use Rattle.std.proofs.Common.{◌+◌, subst, sym}
use Rattle.wax_set.specs.inner.Conflicts.{IsPairDecided, set_tree}
use Rattle.wax_set.proofs.Conflicts.{FoundBefore, none_shared, one_found, row_ends}
use Rattle.wax_set.proofs.set.conflicts.ComparedPatterns.add_conflicts.Goals.{in-Some+in_ok-push, in_default}
use Rattle.wax_set.proofs.set.conflicts.ComparedPatterns.add_conflicts.Goals as goal

pub loop-second-preserved : goal.loop-second-preserved
loop-second-preserved c =
    let ts = c.args.self.now.branches.now in
    let most = c.args.self.now.most_states in
    let i = c.args.first in
    let j = c.loop-second.second in
    let old = c.loop-second.conflicts.items in
    let held = c.loop-second.invariant in
    elim c.match-branch-2.branch [
      | in-Some+in_ok-push w ↦
          let found = subst (IsPairDecided (set_tree ts) most (i, j)) w.in-Some.is c.in_ok-conflict.ensures in
          subst (λ v. FoundBefore ts most (i, j + 1) v.items) (sym w.conflicts-is)
          (one_found ts most i j old w.push.new.self.items w.in-Some.conflict w.in_ok-push.ensures.items
          found.0 found.1 held)
      | in_default w ↦
          let none =
          subst (IsPairDecided (set_tree ts) most (i, j)) w.in_default.is c.in_ok-conflict.ensures in
          subst (λ v. FoundBefore ts most (i, j + 1) v.items) (sym w.conflicts-is)
          (none_shared ts most i j old none held)
    ]

pub returns : goal.returns
returns c = row_ends c.args.self.now.branches.now c.args.self.now.most_states c.args.first
    c.loop-second.second c.loop-second.conflicts.items c.loop-second-test.false c.loop-second.invariant
