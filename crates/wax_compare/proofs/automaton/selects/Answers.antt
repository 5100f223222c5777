use Rattle.std.proofs.Common.{◌↔◌, Contains, IsTrue, subst}
use Rattle.wax_compare.proofs.LastNumbers.{selected_by_numbers}
use Rattle.wax_compare.specs.Selected.{HasOddLast}
use Rattle.wax_compare.proofs.automaton.selects.Goals as goal

pub returns-in_ok-list_ends-in-OddLast-clause-selected :
    goal.returns-in_ok-list_ends-in-OddLast-clause-selected
returns-in_ok-list_ends-in-OddLast-clause-selected c =
    selected_by_numbers c.args.criterion c.args.program.now.0 c.args.places.now c.list_ends.new.numbers.items
    c.ends_odd.result c.in-OddLast.is c.in_ok-list_ends-in-OddLast.ensures.ends
    (subst (λ ns. IsTrue c.ends_odd.result ↔ HasOddLast (Contains ns)) c.deref.ensures.value
    c.ends_odd.ensures)
