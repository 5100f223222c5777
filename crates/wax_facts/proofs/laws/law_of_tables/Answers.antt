use Rattle.wax_facts.proofs.FirstRows.{first_broken_decides}
use Rattle.wax_facts.proofs.laws.law_of_tables.Goals as goal

pub returns : goal.returns
returns c = first_broken_decides
