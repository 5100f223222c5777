use Rattle.std.proofs.Common.{◌≡◌, ◌≤◌, ◌<◌, ◌⊎◌, ℕ, get_or}
use Rattle.wax_program.specs.Places.{HoldsPlace}
use Rattle.wax_states.proofs.listed_sets.ListedSets.add_next.Given as goal

abbrev pub invariant-loop-place : goal.invariant-loop-place
invariant-loop-place l = record {
  size : l.self.size ≡ l.fn.self.size;
  keeps : (k : ℕ) → HoldsPlace l.fn.self.next k → HoldsPlace l.self.next k;
  only : (k : ℕ) → HoldsPlace l.self.next k → HoldsPlace l.fn.self.next k
      ⊎ ((j : ℕ) × (j < l.place-index) × (get_or l.places j k ≡ k));
  all : (j k : ℕ) → j < l.place-index → get_or l.places j k ≡ k → k ≤ l.self.size → HoldsPlace l.self.next k;
}
