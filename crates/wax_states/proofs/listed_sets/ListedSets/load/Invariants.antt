use Rattle.std.proofs.Common.{◌≡◌, ◌≤◌, ◌<◌, ℕ, get_or}
use Rattle.wax_program.specs.Places.{HoldsPlace, IsEmpty}
use Rattle.wax_states.proofs.listed_sets.ListedSets.load.Given as goal

abbrev pub invariant-loop-place : goal.invariant-loop-place
invariant-loop-place l = record {
  size : l.self.size ≡ l.fn.self.size;
  read : IsEmpty l.self.read;
  next : IsEmpty l.self.next;
  only : (k : ℕ) → HoldsPlace l.self.pending k → (j : ℕ) × (j < l.place-index) × (get_or l.places j k ≡ k);
  all : (j k : ℕ) → j < l.place-index → get_or l.places j k ≡ k → k ≤ l.self.size
      → HoldsPlace l.self.pending k;
}
