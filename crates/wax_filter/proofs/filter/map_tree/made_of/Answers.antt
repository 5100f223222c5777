use Rattle.wax_filter.proofs.Lending.{lent}
use Rattle.wax_filter.proofs.filter.map_tree.made_of.Goals as goal

pub returns-clause-makes : goal.returns-clause-makes
returns-clause-makes g c =
    lent g.I.CancelWalk.cancels c.requires.cancels c.f.ensures
