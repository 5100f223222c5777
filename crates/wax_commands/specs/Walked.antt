-- How a run of `walk` can end.
use Rattle.std.specs.Prelude.{◌≡◌, ◌≢◌, ◌<◌, ◌⊎◌, ℕ, ◌-◌, ◌^◌, true, false, ⊤, List, [], ◌∷◌, ◌++◌, Option}
use Rattle.std.specs.{Prelude.{chars, filter}, Io.KnownBytes.Appends, List.list_any}
use Rattle.wax.specs.{Headline.IsGlob, Exclusions.{FitsAlone, NoExclusion}, GlobView.GlobView}
use Rattle.wax.specs.GlobWalks.{Beginning, GaveBy, HasBrokenPrefix, request_by, origin_from}
use Rattle.wax.specs.Patterns.{Refuses, Spells}
use Rattle.wax_exclude.specs.{Pruned.by_matches, GlobRequests.{KeepsWanted, GlobRequest, request_walk}}
use Rattle.wax_exclude.specs.{Told.KeepsAnswered, Wanted.{Filter, not_meant, not_ignored}}
use Rattle.wax_rule.specs.declared.error.build_error.BuildError.{BuildError}
use Rattle.wax_rule.specs.declared.error.build_error.BuildError.TheVariants.{Memory}
use Rattle.wax_components.specs.Depth.{Depth}
use Rattle.wax_directory.specs.{Law.Law, Shown.Shown}
use Rattle.wax_query.specs.Ranges.{Bounds}
use Rattle.wax_token.specs.{Reads.Span, Syntax.Tree}
use Rattle.wax_tree.specs.{Begins.or_greatest, Prefix.ArePlain, declared.steps.DepthRange.DepthRange}
use Rattle.wax_walk.specs.{Forest.preorder, Given.{Given, is_kept}}
use Rattle.wax_command_line.specs.Candidates.{candidate_lines, is_error}
use Rattle.wax_command_line.specs.Commands.{WalkOption, excluding, ignoring, at_least, at_most, WalkRequest}
use Rattle.wax_command_line.specs.Commands.{greatest_in, least_in}
use Rattle.wax_commands.specs.{Files.{FileAnswers, IsListIn, IsUnlisted}, Refused.IsRefused}
use Rattle.wax_commands.specs.Streams.{HasFailedWrite, SaysNoMemory, Stream, Writers, no_memory_line}

-- what a walk is run over: a directory, with its law; what reading files may return; and what a writer of
-- errors reports
pub record Environment (D C Z F : Type 0) : Type 1 where
  pub law : Law D C
  pub directory : D
  pub answers : FileAnswers Z
  pub reports : F → Option (List ℕ)

-- ---- builds

-- the tree is the only one that the expression spells, and fits
abbrev pub IsNotOf : List ℕ → Tree Span → Type 0
IsNotOf e t = FitsAlone (Spells (chars e)) t

-- the expression of what is excluded has an error
abbrev pub IsNoPattern : List ℕ → Type 0
IsNoPattern e = (error : BuildError) × (error ≢ Memory)
    × NoExclusion (Spells (chars e)) (Refuses (chars e)) error

-- the glob, and the filters of what is excluded
pub record WalkGlobs : Type 0 where
  pub glob : GlobView
  pub filters : List (Filter Span)

module _ {Z : Type 0} (answers : FileAnswers Z) where
  -- the filters that an option requests: one, or none
  abbrev pub AreAskedBy : WalkOption → List (Filter Span) → Type 0
  AreAskedBy (excluding e) (not_meant t ∷ []) = IsNotOf e t
  AreAskedBy (ignoring file) (not_ignored lines ∷ []) = IsListIn answers file lines
  AreAskedBy (at_least n) [] = ⊤
  AreAskedBy (at_most n) [] = ⊤
  AreAskedBy _ _ = ⊥

  -- the filters that options request, in order
  abbrev pub AreAskedByAll : List WalkOption → List (Filter Span) → Type 0
  AreAskedByAll [] filters = filters ≡ []
  AreAskedByAll (o ∷ options) filters = (first rest : List (Filter Span)) × AreAskedBy o first
      × AreAskedByAll options rest × (filters ≡ first ++ rest)

  -- the filter that an option requests can't be built
  abbrev pub IsRefusedOption : WalkOption → Type 0
  IsRefusedOption (excluding e) = IsNoPattern e
  IsRefusedOption (ignoring file) = IsUnlisted answers file
  IsRefusedOption (at_least n) = ⊥
  IsRefusedOption (at_most n) = ⊥

  -- the filter of one of these options can't be built, and those of the options before it were built
  pub record HasRefused (options : List WalkOption) : Type 0 where
    pub before : List WalkOption
    pub filters : List (Filter Span)
    pub built : AreAskedByAll before filters
    pub option : WalkOption
    pub refused : IsRefusedOption option
    pub after : List WalkOption
    pub all : options ≡ before ++ option ∷ after

  -- the requested glob and filters were built; a walk of the glob begins somewhere, but for a broken prefix
  pub record AreBuilt (asked : WalkRequest) (globs : WalkGlobs) : Type 0 where
    pub glob : IsGlob (chars asked.expression) globs.glob
    pub begins : Beginning globs.glob.tree ⊎ HasBrokenPrefix globs.glob.tree
    pub filters : AreAskedByAll asked.options globs.filters

  -- the glob can't be built, or it was built and a filter can't be
  pub data IsUnbuilt (asked : WalkRequest) : Type 0 where
    no_glob : IsRefused asked.expression → IsUnbuilt asked
    no_filter : (g : GlobView) → IsGlob (chars asked.expression) g → HasRefused asked.options
        → IsUnbuilt asked

-- ---- walks

-- the requested depths, with the greatest budget
abbrev pub range_in : List WalkOption → DepthRange
range_in options = record {
  min = least_in options;
  max = or_greatest (greatest_in options);
  budget = 2 ^ 32 - 1;
}

module _ {D C : Type 0} (law : Law D C) (d : D) (asked : WalkRequest) (globs : WalkGlobs) where
  -- P holds of the requested walk, wherever it begins and whatever the directory shows there
  abbrev pub OnWalk : (GlobRequest → Shown → List (List ℕ) → Type 0) → Type 0
  OnWalk P = (depth : Bounds) × Depth globs.glob.tree depth
      × ((b : Beginning globs.glob.tree) (s : Shown) (listed : List (List ℕ)) → ArePlain b.names
      → law.shows d (origin_from asked.start b.rooted b.names).path s → law.tells d listed
      → P (request_by by_matches asked.start (range_in asked.options) depth b globs.filters) s listed)

  -- wherever the requested walk begins, these items are what it keeps of a tree that answers as the directory
  -- did until it was `new`
  abbrev pub KeepsOnWalk : D → List Given → Type 0
  KeepsOnWalk new items = (depth : Bounds) × Depth globs.glob.tree depth
      × ((b : Beginning globs.glob.tree) → ArePlain b.names → KeepsAnswered law d new
      (request_by by_matches asked.start (range_in asked.options) depth b globs.filters) items)

  -- The walk was taken to its end, and kept these items of those that it gave. Whatever the directory shows,
  -- its counts account for what was given, and what was kept is what is wanted of a tree that answers as the
  -- directory did.
  pub record KeepsAllWanted (items : List Given) : Type 0 where
    pub new : D
    pub wanted : OnWalk (λ request s listed. KeepsWanted (law.tells new) request s listed items)
    pub answered : KeepsOnWalk new items
    pub given : List Given
    pub within : GaveBy by_matches globs.glob.tree law d (range_in asked.options) new given
    pub kept : items ≡ filter is_kept given

  -- these bytes are a prefix of the lines of all that the walk keeps
  abbrev pub StartsLines : List ℕ → Type 0
  StartsLines bytes = OnWalk (λ request s listed.
      (rest : List ℕ) × (bytes ++ rest ≡ candidate_lines (preorder (request_walk request s))))

  -- a prefix of the lines was written: of all that the walk keeps of what the directory shows; and of what it
  -- keeps of a tree that answers as the directory did so far, cut short there as if memory ran out
  pub record WroteStart (held held' : Option (List ℕ)) : Type 0 where
    pub bytes : List ℕ
    pub writes : Appends held held' bytes
    pub starts : StartsLines bytes
    pub new : D
    pub items : List Given
    pub answered : KeepsOnWalk new items
    pub unwritten : List ℕ
    pub lines : bytes ++ unwritten ≡ candidate_lines items

-- the last that was written is that memory ran out, or the writer has counted a failed write
abbrev pub EndsInNoMemory : {F : Type 0} → (F → Option (List ℕ)) → Stream → Type 0
EndsInNoMemory {F} reports faults =
    ((before : F) × Appends (reports before) faults.bytes no_memory_line) ⊎ (0 < faults.failures)

-- The requested walk was run, with the writers `old` before and `new` after.
pub data WalkEnds {D C Z F : Type 0} (over : Environment D C Z F) (asked : WalkRequest)
    (old new : Writers) (status : ℕ) : Type 0 where
  -- the candidates of all kept entries were written, and no item was an error
  done : (globs : WalkGlobs) (items : List Given) → AreBuilt over.answers asked globs
      → KeepsAllWanted over.law over.directory asked globs items
      → Appends old.output.bytes new.output.bytes (candidate_lines items)
      → list_any is_error items ≡ false → status ≡ 0 → WalkEnds over asked old new status
  -- the candidates of all kept entries were written, and some item was an error
  faulty : (globs : WalkGlobs) (items : List Given) → AreBuilt over.answers asked globs
      → KeepsAllWanted over.law over.directory asked globs items
      → Appends old.output.bytes new.output.bytes (candidate_lines items)
      → list_any is_error items ≡ true → status ≡ 3 → WalkEnds over asked old new status
  -- a prefix of the lines was written, and then a write failed
  stopped : (globs : WalkGlobs) → AreBuilt over.answers asked globs
      → WroteStart over.law over.directory asked globs old.output.bytes new.output.bytes
      → HasFailedWrite old.output new.output → status ≡ 1 → WalkEnds over asked old new status
  -- the lines of all that was kept so far were written, and then memory ran out
  cut_short : (globs : WalkGlobs) → AreBuilt over.answers asked globs
      → (start : WroteStart over.law over.directory asked globs old.output.bytes new.output.bytes)
      → start.unwritten ≡ [] → EndsInNoMemory over.reports new.faults → status ≡ 1
      → WalkEnds over asked old new status
  -- an expression or an ignore list has an error, and nothing was written
  refused : IsUnbuilt over.answers asked → new.output ≡ old.output → status ≡ 1
      → WalkEnds over asked old new status
  -- memory ran out before the walk began
  lacks_memory : SaysNoMemory old.faults new.faults → new.output ≡ old.output → status ≡ 1
      → WalkEnds over asked old new status
