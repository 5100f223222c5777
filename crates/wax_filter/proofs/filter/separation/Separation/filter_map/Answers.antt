use Rattle.std.proofs.Common.{rules, refl}
use Rattle.wax_filter.proofs.filter.separation.Separation.filter_map.Goals as goal

pub returns-in-Filtrate : goal.returns-in-Filtrate
returns-in-Filtrate g c = rw c.in-Filtrate.is (c.new.result, search rules, refl)
