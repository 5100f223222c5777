-- Indexes of lines that are found.
use Rattle.std.specs.Prelude.{◌≡◌, ℕ, Bool, List, Result, Ok, Err}
use Rattle.wax.specs.declared.NoMemory.{NoMemory}
use Rattle.wax_c.specs.declared.lines.FoundLines.{FoundLines}

-- these indexes are found, and whether nothing is left open of any line
abbrev pub AreFoundLines : Result FoundLines NoMemory → List ℕ → Bool → Type 0
AreFoundLines (Ok found) indexes is_all = (indexes ≡ found.indexes.items) × (is_all ≡ found.is_all_known)
AreFoundLines (Err error) indexes is_all = ⊥
