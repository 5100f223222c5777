use Rattle.std.proofs.Common.{sym}
use Rattle.wax_compare.proofs.LastNumbers.{last_is_odd}
use Rattle.wax_compare.proofs.automaton.ends_odd.Goals as goal

pub returns-in-Some : goal.returns-in-Some
returns-in-Some c =
    last_is_odd c.args.numbers.now c.in-Some.number.now c.requires (sym c.in-Some.ensures.value)
