use Rattle.std.proofs.Common.{◌≡◌, ◌↔◌, ◌++◌, ◌+◌, ◌*◌, ◌≤◌, ℕ, List, IsUtf8, length}
use Rattle.std.specs.Str.{chars}
use Rattle.wax_lazy.specs.{Cost.char_visits, inner.Cached.IsCacheOf}
use Rattle.wax_states.specs.States.{HasState, places_at}
use Rattle.wax_program.specs.{Machine.Accepts, Threads.AnyAmong}
use Rattle.wax_lazy.proofs.following.follow_chars.Given as goal

abbrev pub invariant-loop-left : goal.invariant-loop-left
invariant-loop-left l = record {
  utf8 : IsUtf8 l.left;
  cache : IsCacheOf l.program.0 l.cache;
  start : l.cache.start ≡ l.fn.cache.start;
  above : l.meter + char_visits l.program.0 * length (chars l.left)
      ≤ l.fn.meter + char_visits l.program.0 * length (chars l.text);
  steady : l.fn.meter ≤ l.meter;
  has_state : HasState l.cache.table.states.items l.state;
  stays : (s : List ℕ) → Accepts l.program.0 l.fn.cache.start (chars l.text ++ s)
      ↔ AnyAmong l.program.0 (places_at l.cache.table.states.items l.state) (chars l.left ++ s);
}

abbrev pub decreases-loop-left : goal.decreases-loop-left
decreases-loop-left l = length l.left
