-- How long a program may be.
use Rattle.std.specs.Prelude.{ℕ}

-- the greatest length, in instructions
abbrev pub longest : ℕ
longest = 1048576
