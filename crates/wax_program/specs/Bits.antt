-- Words as bits.
use Rattle.std.specs.Prelude.{ℕ, ◌*◌, ◌/◌, ◌%◌, Bool, List, [], ◌∷◌, length, map, ◌==◌, slice_index}
use Rattle.std.specs.{List.range_with_len, Int.bit_at}

-- bit n of the words, counted from the lowest bit of the first
abbrev pub bit_of : List ℕ → ℕ → Bool
bit_of words n = bit_at (slice_index words (n / 64)) (n % 64) == 1

-- all the bits of the words
unfoldable pub bits_of : List ℕ → List Bool
bits_of words = map (bit_of words) (range_with_len 0 (64 * length words))

-- the places below 64 that one word holds
abbrev pub places_of : ℕ → List Bool
places_of word = bits_of (word ∷ [])
