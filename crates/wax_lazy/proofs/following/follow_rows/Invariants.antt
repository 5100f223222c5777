use Rattle.std.proofs.Common.{◌-◌, ◌≤◌, length}
use Rattle.wax_lazy.proofs.RowCells.{IsAlong}
use Rattle.wax_states.specs.States.{places_at}
use Rattle.wax_lazy.proofs.following.follow_rows.Given as goal

abbrev pub invariant-loop-index : goal.invariant-loop-index
invariant-loop-index l = record {
  along : IsAlong l._program.0 l.cache.table.states.items l.cache.rows.keys.items
      (places_at l.cache.table.states.items l._state) l.text l.index (l.here - 3);
  named : 3 ≤ l.here;
}

abbrev pub decreases-loop-index : goal.decreases-loop-index
decreases-loop-index l = length l.text - l.index
