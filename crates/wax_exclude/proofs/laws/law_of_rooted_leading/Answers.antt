use Rattle.wax_exclude.proofs.RootedLeads.{leads_from_root}
use Rattle.wax_exclude.proofs.laws.law_of_rooted_leading.Goals as goal

pub returns : goal.returns
returns c = λ t h. leads_from_root t h
