use Rattle.std.proofs.Common.{refl}
use Rattle.wax_fold.specs.Walking.{cancelled, walking}
use Rattle.wax_fold.proofs.Splits.{left_out}
use Rattle.wax_fold.proofs.walk.iterator.Walk.cancel_walk_tree.Goals as goal

pub returns-clause-left_out : goal.returns-clause-left_out
returns-clause-left_out g c =
    let old = walking c.args.self.now in
    left_out (g.S.Sequencer.chosen g.row.A.Denot) old (cancelled old) refl
