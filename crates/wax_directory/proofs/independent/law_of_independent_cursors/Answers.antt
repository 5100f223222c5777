use Rattle.wax_directory.proofs.CursorsApart.{leaves_others}
use Rattle.wax_directory.proofs.independent.law_of_independent_cursors.Goals as goal

pub returns : goal.returns
returns g c = λ apart. leaves_others g.D.Directory.law apart
