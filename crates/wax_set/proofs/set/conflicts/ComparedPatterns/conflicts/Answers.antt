use Rattle.wax_set.proofs.Conflicts.{all_found}
use Rattle.wax_set.proofs.set.conflicts.ComparedPatterns.conflicts.Goals as goal

pub returns : goal.returns
returns c = all_found c.args.self.now.branches.now c.args.self.now.most_states c.loop-first.first
    c.loop-first.conflicts.items c.loop-first-test.false c.loop-first.invariant
