-- Places in the bytes of a text.
use Rattle.std.specs.Prelude.{ℕ, ◌-◌, List, take}
use Rattle.wax_token.specs.Reads.{utf8_len}

-- how many bytes the first n characters have
abbrev pub byte_at : List ℕ → ℕ → ℕ
byte_at s n = utf8_len (take n s)

-- the part's places in bytes
abbrev pub in_bytes : List ℕ → ℕ × ℕ → ℕ × ℕ
in_bytes s places = (byte_at s places.0, byte_at s places.1)

-- the first byte and the number of bytes, of a part with these places
abbrev pub span_between : ℕ × ℕ → ℕ × ℕ
span_between places = (places.0, places.1 - places.0)
