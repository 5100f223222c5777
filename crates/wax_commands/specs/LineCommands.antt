-- How a run of `match` or of `captures` can end.
use Rattle.std.specs.Prelude.{◌≡◌, ◌≢◌, ℕ, List, chars}
use Rattle.wax.specs.{Headline.IsGlob, GlobView.{GlobView, HasCaptures, IsMeant}}
use Rattle.wax_lines.specs.Lines.{Filtered, Stopped, WritesCaptures, WritesMeant}
use Rattle.wax_lines.specs.declared.lines.LinesError.{LinesError}
use Rattle.wax_commands.specs.{Refused.IsRefused, Streams.{IsShown, SaysNoMemory, Stream, Writers}}

-- an expression, and which bytes may be written for a text, by the glob of the expression
pub record LineCommand : Type 1 where
  pub expression : List ℕ
  pub writes : GlobView → List ℕ → List ℕ → Type 0

-- writes each line that the glob matches
abbrev pub match_command : List ℕ → LineCommand
match_command e = record { expression = e; writes = λ g. WritesMeant (IsMeant g) }

-- writes each line that the glob matches, with its captures
abbrev pub captures_of : List ℕ → LineCommand
captures_of e = record { expression = e; writes = λ g. WritesCaptures (IsMeant g) (HasCaptures g) }

-- The command was run on the lines of the input, which is `input` before and `input'` after, as the writers
-- are `old` and `new`.
pub data LinesEnd (command : LineCommand) (input input' : Stream) (old new : Writers) (status : ℕ)
    : Type 0 where
  -- all lines were text, and their output was written
  done : (g : GlobView) → IsGlob (chars command.expression) g
      → Filtered (command.writes g) input.bytes input'.bytes old.output.bytes new.output.bytes 0
      → status ≡ 0 → LinesEnd command input input' old new status
  -- some lines weren't text, and the output of the others was written
  not_text : (g : GlobView) (n : ℕ) → IsGlob (chars command.expression) g
      → Filtered (command.writes g) input.bytes input'.bytes old.output.bytes new.output.bytes n → n ≢ 0
      → status ≡ 1 → LinesEnd command input input' old new status
  -- the filter of lines stopped at an error that is shown
  stopped : (g : GlobView) (error : LinesError) → IsGlob (chars command.expression) g
      → Stopped (command.writes g) input.bytes input'.bytes old.output.bytes new.output.bytes error
      → IsShown error input input' old new → status ≡ 1 → LinesEnd command input input' old new status
  -- the expression has an error, and nothing was read or written
  refused : IsRefused command.expression → input' ≡ input → new.output ≡ old.output
      → status ≡ 1 → LinesEnd command input input' old new status
  -- memory ran out before anything was read or written
  lacks_memory : SaysNoMemory old.faults new.faults → input' ≡ input → new.output ≡ old.output
      → status ≡ 1 → LinesEnd command input input' old new status
