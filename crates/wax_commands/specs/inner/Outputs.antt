-- What each command for lines writes. Only private functions cite this file.
use Rattle.std.specs.Prelude.{ℕ, List}
use Rattle.wax.specs.GlobView.{GlobView, HasCaptures, IsMeant}
use Rattle.wax_lines.specs.Lines.{WritesCaptures, WritesMeant}
use Rattle.wax_commands.specs.{LineCommands.LineCommand, declared.run.Lines.Lines}
use Rattle.wax_commands.specs.declared.run.Lines.TheVariants.{Matching, Captured}

-- the bytes that may be written for a text
abbrev pub writes_of : Lines → GlobView → List ℕ → List ℕ → Type 0
writes_of Matching = λ g. WritesMeant (IsMeant g)
writes_of Captured = λ g. WritesCaptures (IsMeant g) (HasCaptures g)

abbrev pub command_of : Lines → List ℕ → LineCommand
command_of output e = record { expression = e; writes = writes_of output }
