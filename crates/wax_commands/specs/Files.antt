-- Ignore lists in files.
use Rattle.std.specs.{Prelude.{ℕ, List, Result, Ok, Err, Vec}, List.AllZip, Str.IsUtf8}
use Rattle.wax.specs.Ignoring.{IsFirstUnread, IsReadAs}
use Rattle.wax_rule.specs.declared.error.build_error.BuildError.{BuildError}
use Rattle.wax_exclude.specs.{Lines.written_lines, Ignored.Line}
use Rattle.wax_token.specs.Reads.{Span}
use Rattle.wax_commands.specs.declared.files.FileFault.{FileFault}
use Rattle.wax_commands.specs.declared.files.FileFault.TheVariants.{ReadFailed}

-- what reading a file may return, by the name of the file
abbrev pub FileAnswers : Type 0 → Type 1
FileAnswers Z = List ℕ → Result (Vec ℕ Z) FileFault → Type 0

module _ {Z : Type 0} (answers : FileAnswers Z) where
  -- the file is UTF-8 text, whose lines that aren't skipped are read as these
  abbrev pub IsListIn : List ℕ → List (Line Span) → Type 0
  IsListIn file lines = (bytes : Vec ℕ Z) × answers file (Ok bytes) × IsUtf8 bytes.items
      × AllZip IsReadAs (written_lines bytes.items) lines

  -- the file can't be read, isn't UTF-8 text, or has a line that isn't built
  pub data IsUnlisted (file : List ℕ) : Type 0 where
    unread : answers file (Err ReadFailed) → IsUnlisted file
    no_text : (bytes : Vec ℕ Z) → answers file (Ok bytes) → ¬ (IsUtf8 bytes.items) → IsUnlisted file
    no_list : (bytes : Vec ℕ Z) (number : ℕ) (error : BuildError) → answers file (Ok bytes)
        → IsFirstUnread bytes.items number error → IsUnlisted file
