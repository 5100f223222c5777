-- The lines of an input, and what a filter of lines writes.
use Rattle.std.specs.Prelude.{◌≡◌, ◌≤◌, ◌<◌, ℕ, ◌+◌, ◌==◌, Bool, true, false, IsTrue, if◌then◌else◌, List, []}
use Rattle.std.specs.Prelude.{◌∷◌, ◌++◌, length, map, Option, IsUtf8, chars, encode_utf8_all}
use Rattle.std.specs.{List.join_with_byte, Io.KnownBytes.{Consumes, Appends, IsAtEnd}, Io.Iter.u64_saturate}
use Rattle.wax_lines.specs.declared.lines.LinesError.{LinesError}
use Rattle.wax_lines.specs.declared.lines.LinesError.TheVariants.{Read, Write, Memory}

-- a byte that isn't a line feed, put before these lines
abbrev pub onto_lines : ℕ → List (List ℕ) → List (List ℕ)
onto_lines b [] = (b ∷ []) ∷ []
onto_lines b (line ∷ rest) = (b ∷ line) ∷ rest

-- the pieces that end at a line feed, and the last piece if it isn't empty
abbrev pub lines : List ℕ → List (List ℕ)
lines [] = []
lines (b ∷ bs) = if b == 10 then [] ∷ lines bs else onto_lines b (lines bs)

-- a byte that isn't a line feed, put before these lines, each of which ends at a line feed
abbrev pub onto_whole : ℕ → List (List ℕ) → List (List ℕ)
onto_whole b [] = []
onto_whole b (line ∷ rest) = (b ∷ line) ∷ rest

-- the pieces that end at a line feed
abbrev pub whole_lines : List ℕ → List (List ℕ)
whole_lines [] = []
whole_lines (b ∷ bs) = if b == 10 then [] ∷ whole_lines bs else onto_whole b (whole_lines bs)

-- the complete lines; at the end of the input, a last piece without a line feed is one too
abbrev pub complete_lines : Bool → List ℕ → List (List ℕ)
complete_lines true taken = lines taken
complete_lines false taken = whole_lines taken

-- the text and a line feed if it matches, else nothing
pub data WritesMeant (Means : List ℕ → Type 0) (s out : List ℕ) : Type 0 where
  meant : Means s → out ≡ encode_utf8_all s ++ 10 ∷ [] → WritesMeant Means s out
  not_meant : (Means s → ⊥) → out ≡ [] → WritesMeant Means s out

-- the texts, with a tab between each two
abbrev pub tabbed : List (List ℕ) → List ℕ
tabbed texts = join_with_byte 9 (map encode_utf8_all texts)

-- the text, its captures and a line feed if it matches, else nothing
pub data WritesCaptures (Means : List ℕ → Type 0) (Captured : List ℕ → List (List ℕ) → Type 0)
    (s out : List ℕ) : Type 0 where
  captured : (captures : List (List ℕ)) → Means s → Captured s captures
      → out ≡ tabbed (s ∷ captures) ++ 10 ∷ [] → WritesCaptures Means Captured s out
  not_captured : (Means s → ⊥) → out ≡ [] → WritesCaptures Means Captured s out

-- nothing may be written for a part of the text, before a line feed or at its end, that ends before so many
-- bytes
abbrev pub WritesNothingBefore : (List ℕ → List ℕ → Type 0) → List ℕ → ℕ → Type 0
WritesNothingBefore Writes text n =
    (x y z : List ℕ) → text ++ 10 ∷ [] ≡ x ++ (y ++ 10 ∷ z) → IsUtf8 y → length (x ++ y) < n
    → Writes (chars y) []

-- The output of one line, and 1 if it isn't text. For a text, `Writes` says which bytes may be written.
pub data Gives (Writes : List ℕ → List ℕ → Type 0) (line out : List ℕ) (bad : ℕ) : Type 0 where
  text : IsUtf8 line → Writes (chars line) out → bad ≡ 0 → Gives Writes line out bad
  no_text : (IsUtf8 line → ⊥) → out ≡ [] → bad ≡ 1 → Gives Writes line out bad

-- the output of lines, one after another, and how many of them aren't text
abbrev pub Filters : (List ℕ → List ℕ → Type 0) → List (List ℕ) → List ℕ → ℕ → Type 0
Filters Writes [] out bad = (out ≡ []) × (bad ≡ 0)
Filters Writes (line ∷ rest) out bad =
    (x y : List ℕ) × (m n : ℕ) × Gives Writes line x m × Filters Writes rest y n
    × (out ≡ x ++ y) × (bad ≡ m + n)

-- All input was read, and the output of its lines was written. `left` is what the reader has left and `held`
-- what the writer holds, before and after.
pub record Filtered (Writes : List ℕ → List ℕ → Type 0) (left left' held held' : Option (List ℕ))
    (answer : ℕ) : Type 0 where
  pub taken : List ℕ
  pub out : List ℕ
  pub bad : ℕ
  pub reads : Consumes left left' taken
  pub ends : IsAtEnd left'
  pub writes : Appends held held' out
  pub filters : Filters Writes (lines taken) out bad
  pub answers : answer ≡ u64_saturate bad

-- the output of the whole lines of the bytes that were read was written
pub record StoppedReading (Writes : List ℕ → List ℕ → Type 0)
    (left left' held held' : Option (List ℕ)) : Type 0 where
  pub taken : List ℕ
  pub out : List ℕ
  pub bad : ℕ
  pub reads : Consumes left left' taken
  pub writes : Appends held held' out
  pub filters : Filters Writes (whole_lines taken) out bad

-- Of a prefix of the bytes that were read (all of them, if the end of the input was reached), a prefix of the
-- output of the complete lines was written.
pub record StoppedWriting (Writes : List ℕ → List ℕ → Type 0)
    (left left' held held' : Option (List ℕ)) : Type 0 where
  pub has_ended : Bool
  pub front : List ℕ
  pub rest : List ℕ
  pub out : List ℕ
  pub unwritten : List ℕ
  pub bad : ℕ
  pub reads : Consumes left left' (front ++ rest)
  pub ends : IsTrue has_ended → IsAtEnd left' × (rest ≡ [])
  pub writes : Appends held held' out
  pub filters : Filters Writes (complete_lines has_ended front) (out ++ unwritten) bad

-- The output of the whole lines was written, of all bytes that were read except a rest, which is no longer
-- than so many bytes. If these are the bytes of the last read, the rest is of that read.
pub record StoppedShort (Writes : List ℕ → List ℕ → Type 0)
    (left left' held held' : Option (List ℕ)) (last_len : ℕ) : Type 0 where
  pub front : List ℕ
  pub rest : List ℕ
  pub out : List ℕ
  pub bad : ℕ
  pub reads : Consumes left left' (front ++ rest)
  pub of_one_read : length rest ≤ last_len
  pub writes : Appends held held' out
  pub filters : Filters Writes (whole_lines front) out bad

-- what was read and written until an error
abbrev pub Stopped : (List ℕ → List ℕ → Type 0) → (left left' held held' : Option (List ℕ))
    → LinesError → Type 0
Stopped Writes left left' held held' Read = StoppedReading Writes left left' held held'
Stopped Writes left left' held held' Write = StoppedWriting Writes left left' held held'
Stopped Writes left left' held held' Memory = StoppedShort Writes left left' held held' 65536
