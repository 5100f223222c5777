use Rattle.std.proofs.Common.{ℕ, ◌≡◌, ◌<◌, length, not, replicate, slice_index}
use Rattle.wax_compare.specs.inner.Distinctions.{AreMarkedAt, KeepsMarks}
use Rattle.wax_compare.proofs.distinctions.Distinctions.mark.Given as goal

abbrev pub invariant-loop-place : goal.invariant-loop-place
invariant-loop-place l = KeepsMarks (replicate (length l.letters) (not l.all)) l.marked.items
    × (length l.marked.items ≡ length l.letters)
    × ((j : ℕ) → j < l.place-index
    → AreMarkedAt l.fn.self.exceptions.items l.marked.items (slice_index l.place-items j))
