-- Patterns that have numbers, several of them perhaps the same one.
use Rattle.std.specs.Prelude.{◌≡◌, ℕ, ◌+◌, ◌⊎◌, false, List, [], ◌∷◌, sum_by}
use Rattle.wax_match.specs.declared.encode.ends.Numbered.{Numbered}
use Rattle.wax_token.specs.{Cost.cost, Meaning.Means}

-- one of the patterns with this number means the text
abbrev pub MeansNumbered : List Numbered → ℕ → List ℕ → Type 0
MeansNumbered [] number s = ⊥
MeansNumbered (p ∷ ps) number s =
    ((p.number ≡ number) × Means p.pattern.now false false s) ⊎ MeansNumbered ps number s

-- how long their program is at most: what each costs and 2 more, and 1
abbrev pub numbered_length : List Numbered → ℕ
numbered_length ps = sum_by (λ p. cost p.pattern.now + 2) ps + 1
