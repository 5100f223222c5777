-- How far a meter counts.
use Rattle.std.specs.Prelude.{ℕ, ◌^◌, ◌-◌}

-- a meter's number never passes this
abbrev pub most_ticks : ℕ
most_ticks = 2 ^ 128 - 1
