use Rattle.std.proofs.Common.{◌≡◌, take}
use Rattle.wax_exclude.specs.{Idle.without, Tidy.indexes_of}
use Rattle.wax_exclude.proofs.tidy.staying.Given as goal

abbrev pub invariant-loop-place : goal.invariant-loop-place
invariant-loop-place l = l.stay.items ≡ without (indexes_of l.known) (take l.place l.indexes)
