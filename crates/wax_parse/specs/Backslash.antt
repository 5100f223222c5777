-- Texts without a backslash.
use Rattle.std.specs.Prelude.{◌≢◌, ℕ, List, [], ◌∷◌, ⊤}

abbrev pub HasNoBackslash : List ℕ → Type 0
HasNoBackslash [] = ⊤
HasNoBackslash (c ∷ s) = (c ≢ 92) × HasNoBackslash s
