use Rattle.std.proofs.Common.{◌≡◌, ◌≤◌, ◌+◌, ◌*◌, drop, length, take}
use Rattle.wax_program.specs.Places.{IsEmpty}
use Rattle.wax_lengths.specs.Ends.{MarksBeginnings}
use Rattle.wax_lengths.proofs.Beginnings.{Leads}
use Rattle.wax_lengths.proofs.ends.ends_over.Given as goal

abbrev pub invariant-loop-n : goal.invariant-loop-n
invariant-loop-n g l = record {
  size : (g.R.Sets.position l.sets).size ≡ length l.program.0;
  read : IsEmpty (g.R.Sets.position l.sets).read;
  next : IsEmpty (g.R.Sets.position l.sets).next;
  leads : Leads l.program.0 (take l.n (drop l.at l.text)) (g.R.Sets.position l.sets).pending;
  count : length l.ends.items ≡ l.n;
  marked : MarksBeginnings l.program.0 (drop l.at l.text) l.ends.items l.n;
  above : l.meter ≤ l.fn.meter + length l.program.0 * l.n;
  steady : l.fn.meter ≤ l.meter;
}
