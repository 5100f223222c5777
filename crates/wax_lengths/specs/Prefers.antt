-- Which of two lengths is the better one.
use Rattle.std.specs.Prelude.{ℕ, ◌≤◌, Bool, true, false}

-- n characters are as good as m, or better: of the lazy token no more, of another no fewer
abbrev pub Prefers : Bool → ℕ → ℕ → Type 0
Prefers true n m = n ≤ m
Prefers false n m = m ≤ n
