use Rattle.wax_compare.proofs.PlainPaths.{bare_plain, plain_bare}
use Rattle.wax_compare.proofs.law.law_of_plain_paths.Goals as goal

pub returns : goal.returns
returns c = λ s. (plain_bare s, bare_plain s)
