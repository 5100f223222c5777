-- What is proved of globs, on one page: which expressions are accepted, which texts match, and what a walk
-- yields. The contracts of `Glob` are written in these words.
use Rattle.std.specs.Prelude.{◌≡◌, ◌<◌, ◌≤◌, ℕ, List, [], Result, Ok, Err, ⊤}
use Rattle.wax_rule.specs.declared.error.build_error.BuildError.{BuildError}
use Rattle.wax_rule.specs.declared.error.build_error.BuildError.TheVariants.{Parse, Rule, Compile, Memory}
use Rattle.wax_rule.specs.FirstBreak.{TellsFirst}
use Rattle.wax_parse.specs.Accepted.{IsPlace}
use Rattle.wax_token.specs.Syntax.{Tree}
-- ---- Walks (`Glob::collect_excluding`; or `walk`, then `not` and `ignore`, then `collect`). Over a lawful
-- directory, a walk yields exactly the entries of the whole tree (`whole_at`) that are in range (`is_in`),
-- that the glob matches, and that no pattern and no ignore list excludes (`is_wanted`), in order
-- (`wanted_entries`); `SelectsWanted` says which these are by `Means`. So no folder that was skipped hides a
-- match. `KeepsWanted` states how such a walk ends, and `MayList` which folders it may list. `FeedsWanted`
-- states its whole feed as a list, with what is excluded and each error in its place. For a chain of calls,
-- `ComesWanted` states what is to come, and `ComesExcluding` what a filter removes from it.
pub use Rattle.wax_directory.specs.Law.{Law}
pub use Rattle.wax_exclude.specs.{Due.KeepsDue, Feeds.FeedsWanted, Ignored.is_ignored}
pub use Rattle.wax_exclude.specs.GlobRequests.{ComesExcluding, ComesWanted, KeepsWanted, request_due}
pub use Rattle.wax_exclude.specs.{Walked.{MayList, wanted_entries}, Wanted.{Wanted, is_wanted}}
pub use Rattle.wax_exclude.specs.WantedEntries.{SelectsWanted}
pub use Rattle.wax_tree.specs.{Begins.origin_location, Whole.{is_in, whole_at}}
-- ---- Walks of whatever directory: what was answered is what some tree answers, call by call, and the items
-- are the plain walk of that tree (`EntriesAnswered`, of `entries`), or what a glob's walk with filters keeps
-- of it (`KeepsTold`, of `collect_excluding` and `collect`); or both begin so, and one error cuts them short.
-- Both state which folders were opened or couldn't be listed (`opened_folders`): those that the plain walk of
-- that tree lists; or exactly those of these that a walk may open (`MayOpen`) which opens only folders below
-- which something is matched (`ListsBy`, by matches).
-- The directory needn't keep the law: it may be the real file system, change meanwhile, or hold a name twice.
pub use Rattle.wax_directory.specs.History.{Answer}
pub use Rattle.wax_exclude.specs.{Pruned.{ListsBy, MayOpen}, Told.{KeepsAnswered, KeepsTold}}
pub use Rattle.wax_tree.specs.{Courses.{along_course, plain_course}, Whole.{EntriesAnswered, whole, yielded}}
pub use Rattle.wax_walk.specs.Opened.{opened_folders}
-- ---- Matches (`Glob::is_match`): exactly the texts in the meaning of the tree (`IsMeant`, by `Means`).
-- `is_match_counted` visits at most `program_length` instructions for each character, and as many once more
-- at the end. `HasCaptures` defines what `matched` captures, and `HasSpans` where it lies in the text.
pub use Rattle.wax.specs.GlobView.{GlobView, HasCaptures, HasSpans, IsMeant}
pub use Rattle.wax_token.specs.Meaning.{Means}
-- ---- Expressions (`Glob::new`): accepted are exactly those that spell a tree (`Reads`) which breaks no rule
-- (`broken`) and fits (`program_length`).
pub use Rattle.wax_facts.specs.Rules.{broken}
pub use Rattle.wax_token.specs.{Cost.program_length, Reads.{Reads, Span}}

-- a glob of the expression e, and of the one tree that it spells
pub record IsGlob (e : List ℕ) (g : GlobView) : Type 0 where
  pub expression : g.expression ≡ e
  pub spells : Reads e g.tree
  pub only : (t : Tree Span) → Reads e t → t ≡ g.tree
  pub keeps_rules : broken g.tree ≡ []
  pub fits : program_length g.tree ≤ 1048576

-- a tree of the expression e that breaks no rule costs too much
pub record IsOversized (e : List ℕ) : Type 0 where
  pub tree : Tree Span
  pub spells : Reads e tree
  pub keeps_rules : broken tree ≡ []
  pub oversized : 1048576 < program_length tree

-- the result of building the expression e: a glob, or the first reason why there is none; nothing is claimed
-- if allocation fails
abbrev pub MatchGlob : List ℕ → Result GlobView BuildError → Type 0
MatchGlob e (Ok g) = IsGlob e g
MatchGlob e (Err (Parse place)) = ((t : Tree Span) → Reads e t → ⊥) × IsPlace e place
MatchGlob e (Err (Rule error)) =
    (t : Tree Span) × Reads e t × TellsFirst (broken t) error × (error.expression ≡ e)
MatchGlob e (Err (Compile _)) = IsOversized e
MatchGlob e (Err Memory) = ⊤
