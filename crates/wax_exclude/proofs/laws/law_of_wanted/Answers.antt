use Rattle.wax_tree.specs.{Begins.origin_location, Whole.whole_at}
use Rattle.wax_exclude.proofs.SelectingWanted.{selects}
use Rattle.wax_exclude.proofs.laws.law_of_wanted.Goals as goal

pub returns : goal.returns
returns c = λ w asked origin s. selects w asked (whole_at (origin_location origin) s)
