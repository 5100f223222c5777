-- The forms of a character in any case. Only private functions cite this file.
use Rattle.std.specs.{Prelude.{◌≡◌, ◌<◌, ℕ}, Char.to_ascii_lowercase}
use Rattle.wax_token.specs.Meaning.{SameFold}

-- the character is of ASCII, and so are its forms in any case, which are the same in lower case
abbrev pub HasAsciiForms : ℕ → Type 0
HasAsciiForms d =
    (d < 128) × ((c : ℕ) → SameFold d c → (c < 128) × (to_ascii_lowercase c ≡ to_ascii_lowercase d))
