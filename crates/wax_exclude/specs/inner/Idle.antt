-- How lines that decide nothing are found.
use Rattle.std.specs.Prelude.{ℕ, List}
use Rattle.wax_exclude.specs.{Deciding.SaysLines, Idle.{IsCoveredBy, IsLastOfSome, LineMeans}, Ignored.Line}
use Rattle.wax_exclude.specs.{Undecided.IsUndecided, declared.idle.Covering.Covering}
use Rattle.wax_exclude.specs.declared.idle.Covering.TheVariants.{By, Missing, Unknown}
use Rattle.wax_program.specs.{Closed.IsClosed, declared.instruction.Instruction.Instruction}
use Rattle.wax_token.specs.Reads.{Span}

-- the program accepts a text with the indexes of the lines that mean it, and no other numbers
pub record AreMatchedBy (lines : List (Line Span)) (code : List Instruction) : Type 0 where
  pub closed : IsClosed code
  pub means : SaysLines lines code

abbrev pub IsCovering : List (Line Span) → ℕ → ℕ → Covering → Type 0
IsCovering lines most index (By covers) = IsCoveredBy (LineMeans lines) index covers.items
IsCovering lines most index Missing = IsLastOfSome (LineMeans lines) index
IsCovering lines most index Unknown = IsUndecided lines most index
