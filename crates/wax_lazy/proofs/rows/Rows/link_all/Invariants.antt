use Rattle.std.proofs.Common.{◌+◌, ◌-◌, ◌≤◌, length, take}
use Rattle.wax_lazy.specs.inner.Rows.{AreRows, HasRow}
use Rattle.wax_lazy.proofs.rows.Rows.link_all.Given as goal

abbrev pub invariant-loop-count : goal.invariant-loop-count
invariant-loop-count l = record {
  rows : AreRows l.program.0 l.table.states.items l.self.keys.items l.self.cells.items;
  row : HasRow l.self.keys.items l.row l.state (take l.count l.bytes);
  within : l.count + 1 ≤ length l.bytes;
}

abbrev pub decreases-loop-count : goal.decreases-loop-count
decreases-loop-count l = length l.bytes - l.count
