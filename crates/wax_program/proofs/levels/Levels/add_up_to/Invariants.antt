use Rattle.std.proofs.Common.{◌+◌, ◌*◌, ◌-◌, ◌≤◌, ℕ, length}
use Rattle.wax_program.specs.{Onward.AreLevelsOf, Visits.flags_visits}
use Rattle.wax_program.proofs.levels.Levels.add_up_to.Given as goal

abbrev pub invariant-loop-alloc : goal.invariant-loop-alloc
invariant-loop-alloc l = (added : ℕ) × record {
  levels : AreLevelsOf l.program.0 l.self;
  counted : added ≤ length l.self.levels;
  few : added ≤ l.most + 1;
  above : l.meter ≤ l.fn.meter + flags_visits l.program.0 * added;
  steady : l.fn.meter ≤ l.meter;
}

abbrev pub decreases-loop-alloc : goal.decreases-loop-alloc
decreases-loop-alloc l = l.most + 1 - length l.self.levels
