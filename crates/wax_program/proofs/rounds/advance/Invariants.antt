use Rattle.std.proofs.Common.{◌≡◌, ◌≤◌, ◌-◌, ℕ, length}
use Rattle.wax_program.specs.{Steady.ActsAlike, Places.{HoldsPlace, member_count}, Threads.Round}
use Rattle.wax_program.proofs.rounds.advance.Given as goal

abbrev pub invariant-loop-at : goal.invariant-loop-at
invariant-loop-at g l = record {
  size : (g.R.Sets.position l.sets).size ≡ length l.program.0;
  round : Round l.program.0 l.c (g.R.Sets.position l.fn.sets).pending (g.R.Sets.position l.sets);
  visits : l.visits ≡ member_count (g.R.Sets.position l.sets).read;
  watched : (x : ℕ) → HoldsPlace (g.R.Sets.position l.sets).read x → ActsAlike l.program.0 l.c l.watch x;
  few : l.visits ≤ length l.program.0;
}

abbrev pub decreases-loop-at : goal.decreases-loop-at
decreases-loop-at g l = length l.program.0 - member_count (g.R.Sets.position l.sets).read
