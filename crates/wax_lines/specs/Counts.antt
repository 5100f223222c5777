-- How the calls of a reader or a writer are counted.
use Rattle.std.specs.Prelude.{ℕ, ◌+◌, ◌-◌, ◌^◌, min, Bool, true, not, ◌&&◌, ◌==◌, if◌then◌else◌, Result, Ok}
use Rattle.std.specs.Prelude.{Err, List, length}

abbrev pub greatest_count : ℕ
greatest_count = 2 ^ 64 - 1

-- adds one to a count that stops at its greatest
abbrev pub one_more : ℕ → ℕ
one_more n = min (n + 1) greatest_count

-- adds one if there is something to count
abbrev pub one_more_if : Bool → ℕ → ℕ
one_more_if b n = if b then one_more n else n

-- the write failed, or wrote none of some bytes
abbrev pub is_failed_write : {E : Type 0} → Result ℕ E → List ℕ → Bool
is_failed_write (Ok n) bytes = n == 0 && not (length bytes == 0)
is_failed_write (Err e) bytes = true

-- how many bytes a call read or wrote: none if it failed
abbrev pub bytes_passed : {E : Type 0} → Result ℕ E → ℕ
bytes_passed (Ok n) = n
bytes_passed (Err e) = 0
