-- What is written for a walk. Only private functions cite this file.
use Rattle.std.specs.{Prelude.{◌≡◌, ℕ, Bool, List, [], ◌++◌, Option}, Io.KnownBytes.Appends, List.list_any}
use Rattle.wax_directory.specs.{History.Answer, Law.Law}
use Rattle.wax_lines.specs.declared.lines.LinesError.{LinesError}
use Rattle.wax_lines.specs.{declared.lines.LinesError.TheVariants.Memory, Written.WritesPart}
use Rattle.wax_walk.specs.{Collected.{EndsThere, Took, TookCourse}, Forest.{Pending, all_pending, preorder}}
use Rattle.wax_walk.specs.{Given.Given, View.WalkView}
use Rattle.wax_command_line.specs.Candidates.{candidate_lines, is_error}

-- A line was put after the waiting bytes; the first of these were written, and the others wait. `held` is
-- what the writer holds, before and after.
abbrev pub MovesBytes : (held held' : Option (List ℕ)) → (waiting waiting' line : List ℕ) → Type 0
MovesBytes held held' waiting waiting' line =
    (bytes : List ℕ) × Appends held held' bytes × (bytes ++ waiting' ≡ waiting ++ line)

-- a prefix of the bytes was written, and then came an error; all of them if that is that memory ran out
pub record StopsAt (held held' : Option (List ℕ)) (bytes : List ℕ) (error : LinesError) : Type 0 where
  pub part : WritesPart held held' bytes
  pub whole : error ≡ Memory → part.rest ≡ []

-- the walk was taken to its end, and the lines of its items were written
pub record WroteAll {D C : Type 0} (law : Law D C) (walk : WalkView D) (held held' : Option (List ℕ))
    (has_errors : Bool) : Type 0 where
  pub directory : D
  pub given : List Given
  pub took : Took law walk directory given
  pub writes : Appends held held' (candidate_lines given)
  pub errors : has_errors ≡ list_any is_error given

-- a prefix of the lines was written: of all that was to come; and of what the walk yielded for the answers so
-- far, cut short there as if memory ran out. If it did, these lines were written whole
pub record WroteSome {D C : Type 0} (law : Law D C) (walk : WalkView D) (held held' : Option (List ℕ))
    (error : LinesError) : Type 0 where
  pub bytes : List ℕ
  pub writes : Appends held held' bytes
  pub starts : (p : Pending Given) → walk.to_come p
      → (unwritten : List ℕ) × (bytes ++ unwritten ≡ candidate_lines (preorder (all_pending p)))
  pub directory : D
  pub told : List Answer
  pub answered : law.answered directory ≡ law.answered walk.directory ++ told
  pub given : List Given
  pub course : TookCourse walk told given
  pub ends_there : EndsThere given
  pub unwritten : List ℕ
  pub lines : bytes ++ unwritten ≡ candidate_lines given
  pub whole : error ≡ Memory → unwritten ≡ []
