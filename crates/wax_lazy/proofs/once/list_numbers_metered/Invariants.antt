use Rattle.std.proofs.Common.{◌≡◌, ◌≤◌, ◌+◌, ◌*◌, ◌↔◌, ◌++◌, List, ℕ, IsUtf8, length}
use Rattle.std.specs.{Str.chars, Str.Iter.chars_rest}
use Rattle.wax_program.specs.{Machine.Accepts, Threads.AnyAmong}
use Rattle.wax_lazy.proofs.once.list_numbers_metered.Given as goal

abbrev pub invariant-loop-c : goal.invariant-loop-c
invariant-loop-c l = record {
  utf8 : IsUtf8 (chars_rest l.left);
  stepper : l.stepper ≡ length l.program.0;
  above : l.meter + length l.program.0 * length (chars (chars_rest l.left))
      ≤ l.fn.meter + length l.program.0 * length (chars l.text);
  steady : l.fn.meter ≤ l.meter;
  stays : (s : List ℕ) → Accepts l.program.0 0 (chars l.text ++ s)
      ↔ AnyAmong l.program.0 l.places.items (chars (chars_rest l.left) ++ s);
}
