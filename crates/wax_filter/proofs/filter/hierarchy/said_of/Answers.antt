use Rattle.std.proofs.Common.{refl, sym}
use Rattle.wax_filter.proofs.filter.hierarchy.said_of.Goals as goal

pub returns-in-Some-clause-says : goal.returns-in-Some-clause-says
returns-in-Some-clause-says g c = rw (sym c.in-Some.ensures) (c.in-Some.entry, refl, c.f.ensures)
