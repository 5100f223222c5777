use Rattle.std.proofs.Common.{[], sym, ◌∙◌, ap, subst}
use Rattle.wax_lazy.specs.inner.Rows.{AreRows, HasRow}
use Rattle.wax_lazy.proofs.RowCells.{has_last, rows_push}
use Rattle.wax_lazy.proofs.rows.Rows.row_of.Goals as goal

pub returns-clause-rows : goal.returns-clause-rows
returns-clause-rows c =
    let code = c.args._program.now.0 in
    let states = c.args._table.now.states.items in
    let old = c.args.self.now in
    let met = c.is_counted.ensures in
    let made = c.in_ok-row.ensures in
    let keys = ap (λ z. z.items) c.name.ensures.keys ∙ made.keys in
    let cells = ap (λ z. z.items) c.name.ensures.cells ∙ made.cells in
    let was = subst (λ z. AreRows code states z.items c.is_counted.new.self.cells.items) (sym met.keys)
    (subst (λ z. AreRows code states old.keys.items z.items) (sym met.cells) c.requires.rows) in
    subst (λ z. AreRows code states z c.name.new.self.cells.items) (sym keys)
    (subst (AreRows code states _) (sym cells) (rows_push code states c.is_counted.new.self.keys.items
    c.is_counted.new.self.cells.items was _ c.requires.has_state))

pub returns-clause-found : goal.returns-clause-found
returns-clause-found c =
    let made = c.in_ok-row.ensures in
    let keys = ap (λ z. z.items) c.name.ensures.keys ∙ made.keys in
    subst (λ z. HasRow z c.in_ok-row.row c.args.state []) (sym keys)
    (has_last c.is_counted.new.self.keys.items _ c.in_ok-row.row made.number)
