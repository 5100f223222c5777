-- Pieces of a program after which nothing follows: each way through them ends at the end of a pattern.
use Rattle.std.specs.Prelude.{◌≡◌, ℕ, ◌+◌, ◌≤◌, List, [], ◌∷◌, ◌++◌, Some, length, slice_get}
use Rattle.wax_match.specs.{declared.encode.shared.WrittenEnd.WrittenEnd, inner.Left.EndMeans}
use Rattle.wax_program.specs.{Closed.IsClosed, declared.instruction.Instruction.Instruction}
use Rattle.wax_program.specs.Machine.{Accepts, AcceptsIn, mark}

-- the code has these instructions from a place on
abbrev pub Stands : List Instruction → ℕ → List Instruction → Type 0
Stands code at [] = Unit {0}
Stands code at (i ∷ is) = (slice_get code at ≡ Some i) × Stands code (at + 1) is

-- a text of a number, and the number's mark
abbrev pub Marked : (ℕ → List ℕ → Type 0) → List ℕ → Type 0
Marked Q s = (number : ℕ) × (x : List ℕ) × (s ≡ x ++ mark number ∷ []) × Q number x

-- from where these instructions stand, exactly these texts are accepted with the mark of their number
pub record IsEnded (piece : List Instruction) (Q : ℕ → List ℕ → Type 0) : Type 0 where
  pub sound : (code : List Instruction) (at n : ℕ) (s : List ℕ) → Stands code at piece → AcceptsIn code n at s
      → Marked Q s
  pub complete : (code : List Instruction) (at number : ℕ) (x : List ℕ) → Stands code at piece → Q number x
      → Accepts code at (x ++ mark number ∷ [])

-- the last instructions of the code, so many
pub record IsTail (code : List Instruction) (len : ℕ) (Q : ℕ → List ℕ → Type 0) : Type 0 where
  pub front : List Instruction
  pub back : List Instruction
  pub splits : code ≡ front ++ back
  pub size : length back ≡ len
  pub ends : IsEnded back Q

-- the end is where it was written
abbrev pub IsIn : List Instruction → WrittenEnd → Type 0
IsIn code e = 1 ≤ e.len → IsTail code e.len (EndMeans e.number e.gap)

-- a piece for these texts was written before the others
pub record AreWritten (old new : List Instruction) (Q : ℕ → List ℕ → Type 0) : Type 0 where
  pub piece : List Instruction
  pub splits : new ≡ piece ++ old
  pub some : 1 ≤ length piece
  pub ends : IsEnded new Q
  pub closed : IsClosed old → IsClosed new
