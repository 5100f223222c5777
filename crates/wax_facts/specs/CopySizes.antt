-- Which repetitions have a fixed size.
use Rattle.std.specs.Prelude.{◌≡◌, ◌↔◌, ℕ, ◌*◌, Option, Some}
use Rattle.wax_facts.specs.Sizes.{size_of_copies}

-- a repetition has a fixed size exactly if what is repeated has one and its two bounds are one number; it
-- is the size of that many copies
abbrev pub SizesOfCopies : Type 0
SizesOfCopies = (low size : ℕ) (high each : Option ℕ) → (size_of_copies low high each ≡ Some size)
    ↔ ((n : ℕ) × (each ≡ Some n) × (high ≡ Some low) × (size ≡ low * n))
