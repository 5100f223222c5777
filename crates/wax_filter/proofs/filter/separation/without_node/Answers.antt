use Rattle.std.proofs.Common.{refl}
use Rattle.wax_filter.proofs.filter.separation.without_node.Goals as goal

pub returns-in-Filtrate : goal.returns-in-Filtrate
returns-in-Filtrate g c = rw c.in-Filtrate.is (c.filter_node.result, c.filter_node.ensures, refl)
