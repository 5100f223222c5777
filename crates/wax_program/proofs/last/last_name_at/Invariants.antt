use Rattle.std.proofs.Common.{◌≤◌, length}
use Rattle.wax_program.specs.inner.Slashes.{NoSlashFrom}
use Rattle.wax_program.proofs.last.last_name_at.Given as goal

abbrev pub invariant-loop-end : goal.invariant-loop-end
invariant-loop-end l = (l.end ≤ length l.bytes) × NoSlashFrom l.end l.bytes

abbrev pub decreases-loop-end : goal.decreases-loop-end
decreases-loop-end l = l.end

abbrev pub invariant-loop-end-2 : goal.invariant-loop-end-2
invariant-loop-end-2 l = (l.end ≤ length l.bytes) × NoSlashFrom l.end l.bytes

abbrev pub decreases-loop-end-2 : goal.decreases-loop-end-2
decreases-loop-end-2 l = l.end
