-- Texts that are counted dot by dot.
use Rattle.std.specs.Prelude.{ℕ, ◌+◌, ◌==◌, ◌&&◌, List, fold, if◌then◌else◌, nat_lt}

-- one more character; 3 stands for any other text that isn't empty
abbrev pub dot_after : ℕ → ℕ → ℕ
dot_after dots c = if (c == 46) && nat_lt dots 2 then dots + 1 else 3

abbrev pub dots_of : List ℕ → ℕ
dots_of s = fold dot_after 0 s
