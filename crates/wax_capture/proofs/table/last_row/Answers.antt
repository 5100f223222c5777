use Rattle.std.proofs.Common.{◌≡◌, ◌++◌, ◌∷◌, [], length, replicate, None, Some, rules}
use Rattle.wax_capture.proofs.Rows.{row_none}
use Rattle.wax_capture.proofs.table.last_row.Goals as goal

pub returns-clause-row : goal.returns-clause-row
returns-clause-row c =
    let e : c.push.new.self.items ≡ replicate (length c.args.text.now) None ++ Some 0 ∷ [] = search rules in
    rw e (row_none c.args.text.now)
