use Rattle.std.proofs.Common.{rules, refl, sym}
use Rattle.wax_filter.proofs.filter.separation.Isomeric.substituent.Goals as goal

pub returns-in-Some : goal.returns-in-Some
returns-in-Some g c = rw (sym (c.in-Some.ensures)) (c.f.result, (c.in-Some.entry, search rules, refl), refl)
