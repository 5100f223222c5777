use Rattle.std.proofs.Common.{refl}
use Rattle.wax_filter.proofs.filter.separation.Separation.filter_map_node.Goals as goal

pub returns-in-Filtrate : goal.returns-in-Filtrate
returns-in-Filtrate g c = rw c.in-Filtrate.is (c.filter_map_node.result, c.filter_map_node.ensures, refl)
