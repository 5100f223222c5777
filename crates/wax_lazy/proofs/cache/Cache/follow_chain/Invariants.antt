use Rattle.std.proofs.Common.{◌≡◌, ◌↔◌, ◌⊎◌, ◌<◌, ◌≤◌, ◌+◌, ◌*◌, ◌-◌, ◌++◌, ℕ, List, IfSome, drop, get_or}
use Rattle.std.proofs.Common.{length, true}
use Rattle.wax_lazy.specs.{Cost.char_visits, inner.Cached.{IsCacheOf, IsChain}}
use Rattle.wax_states.specs.States.{HasState, places_or_none}
use Rattle.wax_program.specs.{Checks.IsCheckAt, Machine.Accepts, Threads.AnyAmong}
use Rattle.wax_lazy.proofs.cache.Cache.follow_chain.Given as goal

abbrev pub invariant-loop-next : goal.invariant-loop-next
invariant-loop-next l = record {
  cache : IsCacheOf l.program.0 l.self;
  start : l.self.start ≡ l.fn.self.start;
  has_state : IfSome l.here.failure (HasState l.self.table.states.items);
  few : length l.self.table.states.items < 60000;
  from : l.fn.index ≤ l.end;
  within : l.end < length l.text;
  spent : l.meter + char_visits l.program.0 * l.fn.index ≤ l.fn.meter + char_visits l.program.0 * l.end;
  steady : l.fn.meter ≤ l.meter;
  check : IsCheckAt l.program.0 l.here.place (get_or l.text l.end 0) true;
  stays : (places : List ℕ) → IsChain l.program.0 l.fn.self.table.states.items places l.fn.chain
      → (s : List ℕ) → AnyAmong l.program.0 places (drop l.fn.index l.text ++ s)
      ↔ (AnyAmong l.program.0 (places_or_none l.self.table.states.items l.here.failure)
      (drop l.end l.text ++ s) ⊎ Accepts l.program.0 l.here.place (drop l.end l.text ++ s));
}

abbrev pub decreases-loop-next : goal.decreases-loop-next
decreases-loop-next l = length l.text - l.end
