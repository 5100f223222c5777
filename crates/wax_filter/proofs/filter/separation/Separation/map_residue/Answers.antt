use Rattle.std.proofs.Common.{refl}
use Rattle.wax_filter.proofs.filter.separation.Separation.map_residue.Goals as goal

pub returns-in-Residue : goal.returns-in-Residue
returns-in-Residue g c = rw c.in-Residue.is (c.map.result, c.map.ensures, refl)
