use Rattle.std.proofs.Common.{refl}
use Rattle.wax_filter.proofs.filter.separation.Separation.map_filtrate.Goals as goal

pub returns-in-Filtrate : goal.returns-in-Filtrate
returns-in-Filtrate g c = rw c.in-Filtrate.is (c.map.result, c.map.ensures, refl)
