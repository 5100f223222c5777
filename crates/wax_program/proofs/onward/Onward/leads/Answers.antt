use Rattle.std.proofs.Common.{ap}
use Rattle.wax_program.specs.Tests.{test_of}
use Rattle.wax_program.proofs.onward.Onward.leads.Goals as goal

pub leads_by-requires : goal.leads_by-requires
leads_by-requires c = c.requires.other _ (ap test_of c.in-Check.is)

pub leads_by-requires-else-holds : goal.leads_by-requires-else-holds
leads_by-requires-else-holds c = c.requires.other _ (ap test_of c.in-Repeat.is)
