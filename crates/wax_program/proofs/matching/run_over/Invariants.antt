use Rattle.std.proofs.Common.{◌≡◌, ◌≤◌, ◌+◌, ◌*◌, ℕ, length, min, IfSome, IsUtf8}
use Rattle.std.specs.{Str.chars, Str.Iter.chars_rest}
use Rattle.wax_program.specs.{Meter.most_ticks, Steady.IsKnown, Places.IsEmpty, Threads.Stays}
use Rattle.wax_program.proofs.matching.run_over.Given as goal

-- m characters were followed
abbrev pub invariant-loop-c : goal.invariant-loop-c
invariant-loop-c g l = (m : ℕ) × record {
  utf8 : IsUtf8 (chars_rest l.left);
  whole : m + length (chars (chars_rest l.left)) ≡ length (chars l.text);
  size : (g.R.Sets.position l.sets).size ≡ length l.program.0;
  read : IsEmpty (g.R.Sets.position l.sets).read;
  next : IsEmpty (g.R.Sets.position l.sets).next;
  stays : Stays l.program.0 l.start (chars l.text) (chars (chars_rest l.left))
      (g.R.Sets.position l.sets).pending;
  above : l.meter ≤ l.fn.meter + (length l.program.0 + 1) * m;
  below : min (l.fn.meter + m) most_ticks ≤ l.meter;
  steady : l.fn.meter ≤ l.meter;
  known : IfSome l.steady (IsKnown l.program.0);
}
