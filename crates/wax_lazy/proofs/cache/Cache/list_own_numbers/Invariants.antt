use Rattle.std.proofs.Common.{◌≡◌, ◌≤◌, ◌+◌, ◌*◌, length}
use Rattle.wax_lazy.specs.{inner.Cached.IsCacheOf, inner.Table.AreJoined}
use Rattle.wax_states.specs.States.{HasState}
use Rattle.wax_lazy.proofs.cache.Cache.list_own_numbers.Given as goal

abbrev pub invariant-loop-part : goal.invariant-loop-part
invariant-loop-part l = record {
  cache : IsCacheOf l.program.0 l.self;
  start : l.self.start ≡ l.fn.self.start;
  table : l.self.table ≡ l.fn.self.table;
  above : l.meter ≤ l.most + (2 * length l.program.0 + 1);
  steady : l.fn.meter ≤ l.meter;
  has_state : HasState l.fn.self.table.states.items l.rest;
  joined : AreJoined l.program.0 l.fn.self.table.states.items l.state l.own.items l.rest;
}
