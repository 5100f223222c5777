-- What is written for a walk without what filters exclude.
use Rattle.std.specs.{Prelude.{◌≡◌, ℕ, Bool, false, List, [], ◌++◌, Option, filter}, Io.KnownBytes.Appends}
use Rattle.std.specs.List.{list_any}
use Rattle.wax_exclude.specs.GlobRequests.{AreRulesOf, ComesWanted, KeepsWanted, CanBegin, GlobRequest}
use Rattle.wax_exclude.specs.{GlobRequests.{request_excluding, request_walk}, Told.KeepsAnswered}
use Rattle.wax_exclude.specs.Wanted.{Filter}
use Rattle.wax_directory.specs.{Law.Law, Shown.Shown}
use Rattle.wax_lines.specs.declared.lines.LinesError.{LinesError}
use Rattle.wax_lines.specs.declared.lines.LinesError.TheVariants.{Memory}
use Rattle.wax_token.specs.Reads.{Span}
use Rattle.wax_tree.specs.Programs.{any_mark}
use Rattle.wax_walk.specs.{Collected.Took, Forest.preorder, Candidates.Candidate}
use Rattle.wax_walk.specs.{Given.{Given, Mark, is_kept}, Ruled.ruled_view, View.WalkView}
use Rattle.wax_command_line.specs.Candidates.{candidate_lines, is_error}

module _ {D C : Type 0} (law : Law D C) (walk : WalkView D) (rules : List (Candidate → Mark)) where
  -- P holds of each request whose walk `walk` may be, with the filters of these rules added
  abbrev pub OnRequests : (GlobRequest → Shown → List (List ℕ) → Type 0) → Type 0
  OnRequests P = (d : D) (request : GlobRequest) (filters : List (Filter Span)) (s : Shown)
      (listed : List (List ℕ))
      → ComesWanted law d request walk → AreRulesOf filters rules
      → CanBegin (request_excluding request filters)
      → law.shows d request.origin.path s → law.tells d listed
      → P (request_excluding request filters) s listed

  -- whichever of these walks it is, these items are what it keeps of a tree that answers as the directory did
  -- until it was `new`
  abbrev pub KeepsOnRequests : D → List Given → Type 0
  KeepsOnRequests new items = (d : D) (request : GlobRequest) (filters : List (Filter Span))
      → ComesWanted law d request walk → AreRulesOf filters rules
      → CanBegin (request_excluding request filters)
      → KeepsAnswered law walk.directory new (request_excluding request filters) items

  -- the walk by these rules was taken to its end; what was kept of it is what is wanted of what the directory
  -- shows, and of what it answered; and the lines of these items were written
  pub record WroteWanted (held held' : Option (List ℕ)) (has_errors : Bool) : Type 0 where
    pub directory : D
    pub given : List Given
    pub took : Took law (ruled_view walk (any_mark rules) false) directory given
    pub items : List Given
    pub kept : items ≡ filter is_kept given
    pub wanted : OnRequests (λ request s listed. KeepsWanted (law.tells directory) request s listed items)
    pub answered : KeepsOnRequests directory items
    pub writes : Appends held held' (candidate_lines items)
    pub errors : has_errors ≡ list_any is_error items

  -- a prefix of the lines was written: of what is wanted of what the directory shows; and of what is kept of
  -- a tree that answers as the directory did so far, cut short there as if memory ran out. If it did, these
  -- lines were written whole
  pub record WroteFirst (held held' : Option (List ℕ)) (error : LinesError) : Type 0 where
    pub bytes : List ℕ
    pub writes : Appends held held' bytes
    pub starts : OnRequests (λ request s _. (unwritten : List ℕ)
        × (bytes ++ unwritten ≡ candidate_lines (preorder (request_walk request s))))
    pub directory : D
    pub items : List Given
    pub answered : KeepsOnRequests directory items
    pub unwritten : List ℕ
    pub lines : bytes ++ unwritten ≡ candidate_lines items
    pub whole : error ≡ Memory → unwritten ≡ []
