use Rattle.wax_directory.proofs.CursorsApart.{tree_independent}
use Rattle.wax_directory.proofs.independent.law_of_tree_cursors.Goals as goal

pub returns : goal.returns
returns c = tree_independent
