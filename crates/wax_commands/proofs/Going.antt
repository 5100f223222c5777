-- What a walk writes, from the builds on.
use Rattle.std.proofs.Common.{◌≡◌, ◌≢◌, ◌⊎◌, ℕ, ◌-◌, ◌^◌, Bool, true, false, ◌++◌, List, [], refl, sym, ap}
use Rattle.std.proofs.Common.{arith, inl, inr, subst, ◌∙◌}
use Rattle.std.specs.Prelude.{Option, chars}
use Rattle.wax.specs.{Headline.IsGlob, GlobView.GlobView, GlobWalks.{BeginsBy, request_by}, Walks.any_mark}
use Rattle.wax_exclude.proofs.Telling.{answered_before}
use Rattle.wax_exclude.specs.GlobRequests.{AreRulesOf, KeepsWanted, GlobRequest, goes, request_walk}
use Rattle.wax_exclude.specs.{Wanted.Filter, Pruned.by_matches}
use Rattle.wax_directory.specs.{Law.Law, Shown.Shown}
use Rattle.wax_token.specs.Reads.{Span}
use Rattle.wax_tree.specs.{Begins.{or_greatest, behavior_range}, Depths.behavior_at}
use Rattle.wax_tree.specs.declared.behavior.WalkBehavior.{WalkBehavior}
use Rattle.wax_walk.specs.{Candidates.Candidate, Given.{Given, Mark}, View.WalkView, Forest.preorder}
use Rattle.wax_command_line.specs.{Candidates.candidate_lines, Commands.{SayEach, WalkOption, WalkRequest}}
use Rattle.wax_command_line.specs.declared.walk_words.WalkArguments.{WalkArguments}
use Rattle.wax_command_line.specs.Wanted.{KeepsOnRequests, OnRequests, WroteFirst, WroteWanted}
use Rattle.wax_command_line.specs.WalkArguments.{IsRead}
use Rattle.wax_commands.specs.Files.{FileAnswers}
use Rattle.wax_commands.specs.Streams.{HasFailedWrite, SaysNoMemory, Stream, Writers, stream_of, writers}
use Rattle.wax_commands.specs.Walked.{EndsInNoMemory, KeepsAllWanted, KeepsOnWalk, WroteStart, AreAskedByAll}
use Rattle.wax_commands.specs.Walked.{AreBuilt, Environment, HasRefused, OnWalk, WalkEnds, WalkGlobs}
use Rattle.wax_commands.specs.Walked.{cut_short, done, faulty, lacks_memory, no_filter, range_in, refused}
use Rattle.wax_commands.specs.Walked.{stopped}
use Rattle.wax_lines.specs.{declared.counted.Counted.Counted, declared.lines.LinesError.LinesError}
use Rattle.wax_lines.specs.declared.lines.LinesError.TheVariants.{Read, Write, Memory}
use Rattle.wax.proofs.Kept.{gave_within}

module _ {D C : Type 0} (law : Law D C) (d : D) (asked : WalkRequest) (globs : WalkGlobs)
    (view : WalkView D) where
  -- what holds of all requests that the walk may be of holds of the walk
  pub on_walk : (rules : List (Candidate → Mark)) (P : GlobRequest → Shown → List (List ℕ) → Type 0)
      → BeginsBy by_matches globs.glob.tree law d asked.start (range_in asked.options) view
      → AreRulesOf globs.filters rules
      → OnRequests law view rules P → OnWalk law d asked globs P
  on_walk rules P h are on = (
    h.depth,
    h.depth_is,
    λ b s listed plain shows told.
        on d (request_by by_matches asked.start (range_in asked.options) h.depth b []) globs.filters s listed
        (h.comes b plain) are (goes (h.can b globs.filters plain)) shows told,
  )

  -- the walk begins at the requested start
  pub begins_so : (start : List ℕ) (b : WalkBehavior) → start ≡ asked.start
      → behavior_range b ≡ range_in asked.options
      → BeginsBy by_matches globs.glob.tree law d start (behavior_range b) view
      → BeginsBy by_matches globs.glob.tree law d asked.start (range_in asked.options) view
  begins_so start b e f h =
      subst (λ r. BeginsBy by_matches globs.glob.tree law d asked.start r view) f
      (subst (λ v. BeginsBy by_matches globs.glob.tree law d v (behavior_range b) view) e h)

-- ---- from what was read on

range_read : (walk : WalkArguments) (asked : WalkRequest) (b : WalkBehavior) → IsRead walk asked
    → b ≡ behavior_at walk.depth → behavior_range b ≡ range_in asked.options
range_read walk asked b read e =
    ap behavior_range e
    ∙ (λ i. record { min = read.lower i; max = or_greatest (read.upper i); budget = 2 ^ 32 - 1 })

abbrev pub environment : {D C Z F : Type 0} → Law D C → D → FileAnswers Z → (F → Option (List ℕ))
    → Environment D C Z F
environment law d answers reports =
    record { law = law; directory = d; answers = answers; reports = reports }

-- an error of a walk's lines other than that memory ran out
pub write_shown : {P : Type 0} (error : LinesError) → error ≢ Memory → (error ≡ Read → ⊥)
    → (error ≡ Write → P) → P
write_shown Read n r w = absurd (r refl)
write_shown Write n r w = w refl
write_shown Memory n r w = absurd (n refl)

-- what was written last
pub ends_in_no_memory : {F : Type 0} (reports : F → Option (List ℕ)) (before : Counted F) (faults : Stream)
    → SaysNoMemory (stream_of reports before) faults → EndsInNoMemory reports faults
ends_in_no_memory reports before faults (inl a) = inl (before.inner, a)
ends_in_no_memory reports before faults (inr (inl l)) = inr (omega (arith, l))
ends_in_no_memory reports before faults (inr (inr e)) = inr (omega (arith, e))

module _ {D C Z F : Type 0} (over : Environment D C Z F) (walk : WalkArguments) (asked : WalkRequest)
    (read : IsRead walk asked) where
  -- the rules are those of the filters that the options request
  abbrev pub AreLeftOut : List (Candidate → Mark) → Type 0
  AreLeftOut rules = (os : List WalkOption) → SayEach walk.options.now os
      → (xs : List (Filter Span)) × AreAskedByAll over.answers os xs × AreRulesOf xs rules

  module _ (g : GlobView) (glob : IsGlob (chars walk.expression.now) g) where
    abbrev glob_asked : IsGlob (chars asked.expression) g
    glob_asked = subst (λ e. IsGlob (chars e) g) read.expression glob

    -- nothing is written if a filter can't be built
    pub ends_no_filter : (output faults faults' : Stream)
        → ((os : List WalkOption) → SayEach walk.options.now os → HasRefused over.answers os)
        ⊎ SaysNoMemory faults faults'
        → WalkEnds over asked (writers output faults) (writers output faults') 1
    ends_no_filter output faults faults' (inl h) =
        refused (no_filter g glob_asked (h asked.options read.options)) refl refl
    ends_no_filter output faults faults' (inr s) = lacks_memory s refl refl

    module _ (rules : List (Candidate → Mark)) (left : AreLeftOut rules) (b : WalkBehavior)
        (is : b ≡ behavior_at walk.depth) (view : WalkView D)
        (begins : BeginsBy by_matches g.tree over.law over.directory walk.start.now (behavior_range b) view)
        (output output' faults faults' : Stream) where
      abbrev built : (xs : List (Filter Span)) × AreAskedByAll over.answers asked.options xs
          × AreRulesOf xs rules
      built = left asked.options read.options

      abbrev globs : WalkGlobs
      globs = record { glob = g; filters = built.0 }

      begun : BeginsBy by_matches g.tree over.law over.directory asked.start (range_in asked.options) view
      begun = begins_so over.law over.directory asked globs view walk.start.now b read.start
          (range_read walk asked b read is) begins

      all_built : AreBuilt over.answers asked globs
      all_built = record {
        glob = glob_asked;
        begins = elim begun.begins [
          | inl at ↦ inl at
          | inr e ↦ elim e [ inl broken ↦ inr broken | inr never ↦ absurd never ]
        ];
        filters = built.1;
      }

      abbrev old : Writers
      old = writers output faults

      abbrev new : Writers
      new = writers output' faults'

      keeps_on : (new : D) (items : List Given) → KeepsOnRequests over.law view rules new items
          → KeepsOnWalk over.law over.directory asked globs new items
      keeps_on new items kept = (
        begun.depth,
        begun.depth_is,
        λ b plain.
            answered_before over.law _ _ new _ begun.directory
            (kept over.directory
            (request_by by_matches asked.start (range_in asked.options) begun.depth b []) built.0
            (begun.comes b plain) built.2 (goes (begun.can b built.0 plain))),
      )

      all_kept : (has : Bool) → (w : WroteWanted over.law view rules output.bytes output'.bytes has)
          → KeepsAllWanted over.law over.directory asked globs w.items
      all_kept has w = record {
        new = w.directory;
        wanted = on_walk over.law over.directory asked globs view rules
            (λ request s listed. KeepsWanted (over.law.tells w.directory) request s listed w.items)
            begun built.2 w.wanted;
        answered = keeps_on w.directory w.items w.answered;
        given = w.given;
        within = gave_within by_matches g.tree over.law over.directory asked.start
            (range_in asked.options) view (any_mark rules)
            w.directory w.given begun w.took;
        kept = w.kept;
      }

      on : (P : GlobRequest → Shown → List (List ℕ) → Type 0) → OnRequests over.law view rules P
          → OnWalk over.law over.directory asked globs P
      on P h = on_walk over.law over.directory asked globs view rules P begun built.2 h

      pub ends_done : WroteWanted over.law view rules output.bytes output'.bytes false
          → WalkEnds over asked old new 0
      ends_done w = done globs w.items all_built (all_kept false w) w.writes (sym w.errors) refl

      pub ends_faulty : WroteWanted over.law view rules output.bytes output'.bytes true
          → WalkEnds over asked old new 3
      ends_faulty w = faulty globs w.items all_built (all_kept true w) w.writes (sym w.errors) refl

      abbrev started : (e : LinesError) → WroteFirst over.law view rules output.bytes output'.bytes e
          → WroteStart over.law over.directory asked globs output.bytes output'.bytes
      started e w = record {
        bytes = w.bytes;
        writes = w.writes;
        starts = on (λ request s _. (rest : List ℕ)
            × (w.bytes ++ rest ≡ candidate_lines (preorder (request_walk request s)))) w.starts;
        new = w.directory;
        items = w.items;
        answered = keeps_on w.directory w.items w.answered;
        unwritten = w.unwritten;
        lines = w.lines;
      }

      pub ends_stopped : (e : LinesError) → WroteFirst over.law view rules output.bytes output'.bytes e
          → HasFailedWrite output output' → WalkEnds over asked old new 1
      ends_stopped e w f = stopped globs all_built (started e w) f refl

      pub ends_cut_short : (e : LinesError) → e ≡ Memory
          → WroteFirst over.law view rules output.bytes output'.bytes e
          → EndsInNoMemory over.reports faults' → WalkEnds over asked old new 1
      ends_cut_short e is w m = cut_short globs all_built (started e w) (w.whole is) m refl
