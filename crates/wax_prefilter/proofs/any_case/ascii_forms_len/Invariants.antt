use Rattle.std.proofs.Common.{ℕ, ◌-◌, ◌<◌, ◌≤◌, length, get_or}
use Rattle.wax_prefilter.specs.inner.Forms.{HasAsciiForms}
use Rattle.wax_prefilter.proofs.any_case.ascii_forms_len.Given as goal

-- the bytes so far are such
abbrev pub invariant-loop-len : goal.invariant-loop-len
invariant-loop-len l = (l.len ≤ length l.bytes) × ((k : ℕ) → k < l.len → HasAsciiForms (get_or l.bytes k 0))

abbrev pub decreases-loop-len : goal.decreases-loop-len
decreases-loop-len l = length l.bytes - l.len
