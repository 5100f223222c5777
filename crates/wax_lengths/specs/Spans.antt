-- Lengths of the parts of a text that a form takes.
use Rattle.std.specs.Prelude.{◌≡◌, ◌↔◌, ◌⊎◌, ℕ, zero, suc, ◌-◌, ◌<◌, ◌≤◌, Bool, List, ⊤, length, take}
use Rattle.std.specs.Prelude.{slice_index_or}
use Rattle.wax_program.specs.Places.{HoldsPlace}
use Rattle.wax_lengths.specs.{Prefers.Prefers, Forms.TakenBy, declared.form.Form.Form}
use Rattle.wax_lengths.specs.declared.span.Marks.{Marks}
use Rattle.wax_lengths.specs.declared.span.Marks.TheVariants.{All, AfterSlash, Flags}
use Rattle.wax_lengths.specs.declared.span.LengthSpan.{LengthSpan}

-- the length is one of those that match
abbrev pub IsMarked : Marks → List ℕ → ℕ → Type 0
IsMarked All s n = ⊤
IsMarked AfterSlash s zero = ⊤
IsMarked AfterSlash s (suc n) = slice_index_or s n 0 ≡ 47
IsMarked (Flags flags) s n = HoldsPlace flags.items n

abbrev pub InSpan : LengthSpan → List ℕ → ℕ → Type 0
InSpan span s n = (span.low ≤ n) × (n < span.end) × IsMarked span.marks s n

-- the lengths of those beginnings of the text
abbrev pub AreLengths : (List ℕ → Type 0) → List ℕ → LengthSpan → Type 0
AreLengths Takes s span = (n : ℕ) → n ≤ length s → Takes (take n s) ↔ InSpan span s n

-- the lengths of the beginnings of the text that the form takes
abbrev pub HasLengths : Form → List ℕ → LengthSpan → Type 0
HasLengths form s span = AreLengths (TakenBy form) s span

-- how often a character has still to be looked at, where so many lengths are left
abbrev pub looks_of : Marks → ℕ → ℕ
looks_of All n = 0
looks_of AfterSlash n = n
looks_of (Flags flags) n = 0

abbrev pub looks : LengthSpan → ℕ
looks span = looks_of span.marks (span.end - span.low)

-- the best length of the old span, and each other is left in the new one
abbrev pub IsPicked : LengthSpan → LengthSpan → List ℕ → Bool → ℕ → Type 0
IsPicked old new s is_lazy n =
    InSpan old s n × ((m : ℕ) → InSpan old s m → (m ≡ n) ⊎ (InSpan new s m × Prefers is_lazy n m))

-- nothing is in the new span that wasn't in the old one
abbrev pub IsNarrowed : LengthSpan → LengthSpan → List ℕ → Type 0
IsNarrowed old new s = (m : ℕ) → InSpan new s m → InSpan old s m
