use Rattle.std.proofs.Common.{◌≡◌, filter_map, slice_get, take}
use Rattle.wax_exclude.proofs.tidy.lines_at.Given as goal

abbrev pub invariant-loop-index : goal.invariant-loop-index
invariant-loop-index l = l.found.items ≡ filter_map (slice_get l.lines) (take l.index-index l.indexes)
