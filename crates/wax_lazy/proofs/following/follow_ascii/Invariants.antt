use Rattle.std.proofs.Common.{◌≡◌, ◌↔◌, ◌++◌, ℕ, List, ◌-◌, ◌+◌, ◌*◌, ◌≤◌, drop, length}
use Rattle.wax_lazy.specs.{Cost.char_visits, inner.Cached.IsCacheOf}
use Rattle.wax_states.specs.States.{HasState, places_at}
use Rattle.wax_program.specs.{Machine.Accepts, Threads.AnyAmong}
use Rattle.wax_lazy.proofs.following.follow_ascii.Given as goal

abbrev pub invariant-loop-index : goal.invariant-loop-index
invariant-loop-index l = record {
  cache : IsCacheOf l.program.0 l.cache;
  start : l.cache.start ≡ l.fn.cache.start;
  has_state : HasState l.cache.table.states.items l.state;
  above : l.meter ≤ l.fn.meter + char_visits l.program.0 * l.index;
  steady : l.fn.meter ≤ l.meter;
  within : l.index ≤ length l.text;
  stays : (s : List ℕ) → Accepts l.program.0 l.fn.cache.start (l.text ++ s)
      ↔ AnyAmong l.program.0 (places_at l.cache.table.states.items l.state) (drop l.index l.text ++ s);
}

abbrev pub decreases-loop-index : goal.decreases-loop-index
decreases-loop-index l = length l.text - l.index
