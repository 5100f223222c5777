-- The texts that a matcher matches. Only private types cite this file.
use Rattle.std.specs.Prelude.{ℕ, Bool, IsTrue, List}

-- the matcher returns true
abbrev pub IsMatchedBy : (List ℕ → Bool) → List ℕ → Type 0
IsMatchedBy decides s = IsTrue (decides s)

-- the matcher returns true, and the program matches the text too
abbrev pub IsMatchedByBoth : (List ℕ → Bool) → (List ℕ → Type 0) → List ℕ → Type 0
IsMatchedByBoth decides Means s = IsTrue (decides s) × Means s
