-- How far a filter of lines has come. Only private functions cite this file.
use Rattle.std.specs.Prelude.{◌≡◌, ◌≤◌, ℕ, List, [], ◌++◌, length, Option}
use Rattle.std.specs.{Io.KnownBytes.{Consumes, Appends, IsAtEnd}, Io.Iter.u64_saturate}
use Rattle.wax_lines.specs.declared.lines.LinesError.{LinesError}
use Rattle.wax_lines.specs.declared.lines.LinesError.TheVariants.{Read, Write, Memory}
use Rattle.wax_lines.specs.{declared.lines.sieve.Sieve.Sieve, Lines.{Filters, lines, StoppedWriting}}
use Rattle.wax_lines.specs.inner.Sifted.{Sifted}

abbrev pub SieveSifted : (List ℕ → List ℕ → Type 0) → List ℕ → List ℕ → Sieve → Type 0
SieveSifted Writes taken written s =
    Sifted Writes taken written s.carry.items s.kept.bytes.items s.kept.not_text

-- these bytes were taken in
abbrev pub TakesIn : (List ℕ → List ℕ → Type 0) → List ℕ → Sieve → Sieve → Type 0
TakesIn Writes bytes old new =
    (taken written : List ℕ) → SieveSifted Writes taken written old
    → SieveSifted Writes (taken ++ bytes) written new

-- a sieve at the beginning of a line takes these bytes in as it is
abbrev pub GivesNothing : (List ℕ → List ℕ → Type 0) → List ℕ → Type 0
GivesNothing Writes bytes = (sieve : Sieve) → sieve.carry.items ≡ [] → TakesIn Writes bytes sieve sieve

-- a prefix of these bytes was taken in
abbrev pub TakesInPart : (List ℕ → List ℕ → Type 0) → List ℕ → Sieve → Sieve → Type 0
TakesInPart Writes bytes old new =
    (front rest : List ℕ) × (bytes ≡ front ++ rest) × TakesIn Writes front old new

-- the output of all lines, including the last one, was written or waits
pub record AllSifted (Writes : List ℕ → List ℕ → Type 0) (taken written : List ℕ) (s : Sieve) : Type 0 where
  pub bad : ℕ
  pub filters : Filters Writes (lines taken) (written ++ s.kept.bytes.items) bad
  pub counts : s.kept.not_text ≡ u64_saturate bad

-- the rest was taken in as the last line
abbrev pub TakesLast : (List ℕ → List ℕ → Type 0) → Sieve → Sieve → Type 0
TakesLast Writes old new =
    (taken written : List ℕ) → SieveSifted Writes taken written old → AllSifted Writes taken written new

-- all that was read was taken in
pub record Came (Writes : List ℕ → List ℕ → Type 0) (left left' held held' : Option (List ℕ))
    (s : Sieve) : Type 0 where
  pub taken : List ℕ
  pub written : List ℕ
  pub reads : Consumes left left' taken
  pub writes : Appends held held' written
  pub sifted : SieveSifted Writes taken written s

-- what was read was taken in, except a rest of the last read, which was of so many bytes
pub record CameShort (Writes : List ℕ → List ℕ → Type 0) (left left' held held' : Option (List ℕ))
    (last_len : ℕ) (s : Sieve) : Type 0 where
  pub front : List ℕ
  pub rest : List ℕ
  pub written : List ℕ
  pub reads : Consumes left left' (front ++ rest)
  pub of_one_read : length rest ≤ last_len
  pub of_one_chunk : length rest ≤ 65536
  pub writes : Appends held held' written
  pub sifted : SieveSifted Writes front written s

-- all was read and taken in
pub record Finished (Writes : List ℕ → List ℕ → Type 0) (left left' held held' : Option (List ℕ))
    (s : Sieve) : Type 0 where
  pub taken : List ℕ
  pub written : List ℕ
  pub reads : Consumes left left' taken
  pub ends : IsAtEnd left'
  pub writes : Appends held held' written
  pub sifted : AllSifted Writes taken written s

-- what happened until an error, before the waiting bytes are written; after a failed write nothing waits
abbrev pub Halted : (List ℕ → List ℕ → Type 0) → (left left' held held' : Option (List ℕ)) (last_len : ℕ)
    → Sieve → LinesError → Type 0
Halted Writes left left' held held' last_len s Read = Came Writes left left' held held' s
Halted Writes left left' held held' last_len s Write =
    StoppedWriting Writes left left' held held' × (s.kept.bytes.items ≡ [])
Halted Writes left left' held held' last_len s Memory = CameShort Writes left left' held held' last_len s
