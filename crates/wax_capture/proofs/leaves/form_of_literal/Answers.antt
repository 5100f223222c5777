use Rattle.std.proofs.Common.{rules}
use Rattle.wax_capture.proofs.TokenWays.{spelled_folded, spelled_plain}
use Rattle.wax_capture.proofs.leaves.form_of_literal.Goals as goal

pub returns-then-is_case_insensitive-clause-means : goal.returns-then-is_case_insensitive-clause-means
returns-then-is_case_insensitive-clause-means c = search (rules, spelled_folded)

pub returns-clause-means : goal.returns-clause-means
returns-clause-means c = search (rules, spelled_plain)
