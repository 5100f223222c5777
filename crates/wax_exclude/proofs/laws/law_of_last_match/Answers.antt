use Rattle.wax_exclude.proofs.{DecidingLine.deciding_line_decides, LastMatch.last_match_decides}
use Rattle.wax_exclude.proofs.laws.law_of_last_match.Goals as goal

pub returns-clause-last : goal.returns-clause-last
returns-clause-last c = λ lines s. last_match_decides s lines

pub returns-clause-index : goal.returns-clause-index
returns-clause-index c = deciding_line_decides
