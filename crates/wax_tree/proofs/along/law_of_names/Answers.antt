use Rattle.wax_tree.proofs.Following.{follows_names, stops_at_fault}
use Rattle.wax_tree.proofs.along.law_of_names.Goals as goal

pub returns : goal.returns
returns c = record { follows = follows_names; stops = stops_at_fault }
