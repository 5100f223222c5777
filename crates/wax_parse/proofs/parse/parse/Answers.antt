use Rattle.wax_parse.proofs.Spelled.{lies_within, slashless}
use Rattle.wax_parse.proofs.parse.parse.Goals as goal

pub returns-clause-spans : goal.returns-clause-spans
returns-clause-spans c =
    lies_within c.args.expression.now c.in_ok-token.token c.utf8.expression c.in_ok-token.ensures.0

pub returns-clause-literals : goal.returns-clause-literals
returns-clause-literals c = slashless _ c.in_ok-token.token c.in_ok-token.ensures.0
