-- How long the program of an ignore list may be, and that of an excluded pattern.
use Rattle.std.specs.Prelude.{ℕ, ◌+◌, List, sum_by}
use Rattle.wax_token.specs.{Cost.program_length, Syntax.Tree}
use Rattle.wax_exclude.specs.Ignored.{Line}

-- the programs of all globs, with 1 more for each, and 2
abbrev pub list_length : {A : Type 0} → List (Line A) → ℕ
list_length lines = sum_by (λ line. program_length line.glob + 1) lines + 2

-- the programs of all alternatives, with 1 more for each, and 2
abbrev pub alternatives_length : {A : Type 0} → List (Tree A) → ℕ
alternatives_length ts = sum_by (λ t. program_length t + 1) ts + 2
