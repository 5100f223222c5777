use Rattle.std.proofs.Common.{◌≡◌, ◌↔◌, ◌≤◌, ◌+◌, [], length}
use Rattle.wax_lazy.specs.inner.Cached.{IsCacheOf}
use Rattle.wax_states.specs.States.{HasState, places_at}
use Rattle.wax_program.specs.Threads.{AnyAmong}
use Rattle.wax_lazy.proofs.cache.Cache.computed.Given as goal

abbrev pub invariant-loop-part : goal.invariant-loop-part
invariant-loop-part l = record {
  cache : IsCacheOf l.program.0 l.self;
  start : l.self.start ≡ l.fn.self.start;
  table : l.self.table ≡ l.fn.self.table;
  rows : l.self.rows ≡ l.fn.self.rows;
  first : l.self.first ≡ l.fn.self.first;
  above : l.meter ≤ l.most + length l.program.0;
  steady : l.fn.meter ≤ l.meter;
  has_state : HasState l.self.table.states.items l.here;
  same : AnyAmong l.program.0 (places_at l.fn.self.table.states.items l.state) []
      ↔ AnyAmong l.program.0 (places_at l.self.table.states.items l.here) [];
}
