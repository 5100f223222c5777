use Rattle.std.proofs.Common.{ℕ, ◌<◌, ◌≤◌, List, length, ◌∙◌, arith, rules}
use Rattle.wax_lazy.proofs.RowCells.{recorded}
use Rattle.wax_lazy.proofs.rows.Rows.record.Goals as goal

pub returns : goal.returns
returns c =
    let bytes : List ℕ = c.as_bytes-bytes.result.now in
    let low : c.from.result < 256 = search rules in
    let some : 1 ≤ length bytes =
    omega (arith, c.as_bytes-bytes.ensures.len, c.encode_utf8.ensures.lower_bound) in
    recorded c.args.program.now.0 c.args.table.now.states.items c.link_all.new.self.keys.items
    c.link_all.new.self.cells.items c.in_ok-row-2.ensures.rows
    c.in_ok-row-2.row c.args.state c.args.c c.from.result bytes c.in_ok-row-2.ensures.row
    (c.as_bytes-bytes.ensures.value ∙ c.encode_utf8.ensures.value) some c.from.ensures low
    c.args.next c.cell_to-cell.result c.cell_to-cell.ensures c.requires.leads
