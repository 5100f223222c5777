-- The characters of a text.
use Rattle.std.specs.Prelude.{ℕ, List}
use Rattle.wax_lengths.specs.declared.text.Letters.{Letters}
use Rattle.wax_lengths.specs.declared.text.Letters.TheVariants.{Bytes, Listed}

abbrev pub letters_of : Letters → List ℕ
letters_of (Bytes bytes) = bytes.now
letters_of (Listed characters) = characters.items
