use Rattle.std.proofs.Common.{◌≢◌, length, rules}
use Rattle.wax_facts.proofs.Openings.{opened_several}
use Rattle.wax_facts.proofs.opened.+opened_from.Goals as goal

pub returns-else-tokens-eq1-clause-open : goal.returns-else-tokens-eq1-clause-open
returns-else-tokens-eq1-clause-open g t c =
    let n : length c.args.tokens.now ≢ 1 = search rules in
    opened_several c.args.tokens.now n
