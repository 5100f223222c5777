-- Archetypes as ranges of numbers.
use Rattle.std.specs.Prelude.{◌≡◌, ℕ, ◌+◌, ◌<◌, ◌&&◌, Bool, true, false, List, ◌∷◌, map, nat_le, nat_lt}
use Rattle.std.specs.List.{list_any}
use Rattle.wax_token.specs.declared.token.Archetype.{Archetype}
use Rattle.wax_token.specs.declared.token.Archetype.TheVariants.{Character, Range}

-- from the first number up to the second one, which isn't among them
abbrev pub NumberRange : Type 0
NumberRange = ℕ × ℕ

abbrev pub lies_in : ℕ → NumberRange → Bool
lies_in c r = nat_le r.0 c && nat_lt c r.1

-- the numbers of the archetype, none if it is reversed
abbrev pub number_range_of : Archetype → NumberRange
number_range_of (Character d) = (d, d + 1)
number_range_of (Range low high) = (low, high + 1)

-- those of `/`, those that are no characters, and those of the archetypes
abbrev pub ranges_with : List Archetype → List NumberRange
ranges_with xs = (47, 48) ∷ (55296, 57344) ∷ map number_range_of xs

-- the number is in none of the ranges, and each lesser one is in one
pub record IsLeastOutside (ranges : List NumberRange) (n : ℕ) : Type 0 where
  pub outside : list_any (lies_in n) ranges ≡ false
  pub lesser : (c : ℕ) → c < n → list_any (lies_in c) ranges ≡ true
