use Rattle.std.proofs.Common.{◌≡◌, ◌<◌, ℕ, Contains, length, slice_index}
use Rattle.wax_compare.proofs.closure.Closure.add_all.Given as goal

abbrev pub invariant-loop-place : goal.invariant-loop-place
invariant-loop-place l = (length l.self.index.items ≡ length l.fn.self.index.items)
    × ((j : ℕ) → j < l.place-index → slice_index l.places j < length l.fn.self.index.items
    → Contains l.self.places.items (slice_index l.places j))
