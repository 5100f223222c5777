use Rattle.wax_states.proofs.Cells.{leads_everywhere, leads_nowhere, leads_on}
use Rattle.wax_states.proofs.table.next_of.Goals as goal

pub returns-then-cell-ge-FIRST : goal.returns-then-cell-ge-FIRST
returns-then-cell-ge-FIRST c = λ code states places k says.
    rw c.from.ensures (leads_on code states places k c.args.cell says c.if-cell-ge-FIRST.true)

pub returns-then-cell-eq-DEAD : goal.returns-then-cell-eq-DEAD
returns-then-cell-eq-DEAD c =
    λ code states places k says. leads_nowhere code states places k c.args.cell says c.if-cell-eq-DEAD.true

pub returns-then-cell-eq-ALL : goal.returns-then-cell-eq-ALL
returns-then-cell-eq-ALL c =
    λ code states places k says. leads_everywhere code states places k c.args.cell says c.if-cell-eq-ALL.true
