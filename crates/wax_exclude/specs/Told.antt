-- What a walk yields to its end, whatever the directory answers.
use Rattle.std.specs.Prelude.{◌≡◌, ◌++◌, ℕ, List, [], ◌∷◌, filter}
use Rattle.wax_directory.specs.{History.Answer, Law.Law, Shown.Shown}
use Rattle.wax_tree.specs.{Courses.IsNamed, Follows.AreDistinctAlong}
use Rattle.wax_walk.specs.Collected.{IsCutShort}
use Rattle.wax_walk.specs.Course.{Course, CutsShort, DirectoryCall, IsKnownFirst, IsStartOf, answers}
use Rattle.wax_walk.specs.{Course.{calls_of, items_of}, Forest.listings, Given.{Given, is_kept}}
use Rattle.wax_walk.specs.Opened.{opened_folders}
use Rattle.wax_exclude.specs.{Feeds.ruled_feed, GlobRequests.{AreOpened, GlobRequest, walk_for}}
use Rattle.wax_exclude.specs.{RuledWalks.{RuledWalk, ruled_forest, walk_course}, Walked.wanted_entries}
use Rattle.wax_exclude.specs.Wanted.{is_kept_entry}

-- the calls of the walk if s is shown, with their answers
abbrev pub walk_calls : RuledWalk → Shown → List DirectoryCall
walk_calls walk s = calls_of (walk_course walk s)

-- what it keeps then
abbrev pub ruled_kept : RuledWalk → Shown → List Given
ruled_kept walk s = filter is_kept (ruled_feed walk s)

abbrev pub request_kept : GlobRequest → Shown → List Given
request_kept request s = ruled_kept (walk_for request) s

-- what was answered begins what a tree answers, in which each name of the origin is looked up among distinct
-- names, and the items begin what is due of that tree: the kept ones are those that its walk yields before it
-- asks more than that. Then one error came, because allocation failed or the budget was reached in the folder
-- that was asked last
pub record ToldInPart (walk : RuledWalk) (due : Shown → List Given) (told : List Answer)
    (xs : List Given) : Type 0 where
  pub shown : Shown
  pub named : IsNamed shown
  pub distinct : AreDistinctAlong walk.origin.names shown
  -- the walk of the tree, as far as it went
  pub course : Course
  pub starts : IsStartOf course (walk_course walk shown)
  pub known : IsKnownFirst course
  pub told_is : told ≡ answers (calls_of course)
  pub rest : List DirectoryCall
  pub calls_are : calls_of course ++ rest ≡ walk_calls walk shown
  pub error : Given
  pub items : IsCutShort (due shown) error xs
  pub came : filter is_kept xs ≡ filter is_kept (items_of course) ++ error ∷ []
  pub cut : CutsShort (calls_of course) error

-- what was answered is what a tree answers, call by call, and the items are what is due of that tree; or both
-- in part
pub data IsTold (walk : RuledWalk) (due : Shown → List Given) (told : List Answer) (xs : List Given) : Type 0
  where
    as_told : (s : Shown) → IsNamed s → AreDistinctAlong walk.origin.names s
        → told ≡ answers (walk_calls walk s) → xs ≡ due s → IsTold walk due told xs
    in_part : ToldInPart walk due told xs → IsTold walk due told xs

-- the entries among these items are the wanted ones of the tree s, in order
abbrev pub AreWanted : GlobRequest → Shown → List Given → Type 0
AreWanted request s ys =
    filter is_kept_entry ys ≡ wanted_entries request.wanted request.asked request.origin s

-- So it is of the walk of a glob: its kept entries are exactly the wanted ones of the tree, in order, and the
-- folders that it opened, or that couldn't be listed, are those that it may open of that tree. In part, the
-- items and the folders begin such lists.
pub data KeepsTold (request : GlobRequest) (told : List Answer) (ys : List Given) : Type 0 where
  keeps_all : (s : Shown) → IsNamed s → AreDistinctAlong request.origin.names s
      → told ≡ answers (walk_calls (walk_for request) s) → ys ≡ request_kept request s
      → AreWanted request s ys → AreOpened request s (opened_folders told) → KeepsTold request told ys
  keeps_in_part : (part : ToldInPart (walk_for request) (request_kept request) told ys)
      → AreWanted request part.shown (request_kept request part.shown)
      → (later : List (List ℕ)) → AreOpened request part.shown (opened_folders told ++ later)
      → KeepsTold request told ys

-- the folders that a walk opens, or that can't be listed, are those that its forest lists, in this order
abbrev pub OpensListed : Type 0
OpensListed = (walk : RuledWalk) (s : Shown)
    → opened_folders (answers (walk_calls walk s)) ≡ listings (ruled_forest walk s)

-- what the directory answered from `old` to `new`, and that this holds of it
pub record Answering {D C : Type 0} (law : Law D C) (old new : D) (holds : List Answer → Type 0) : Type 0
  where
    pub told : List Answer
    pub answered : law.answered new ≡ law.answered old ++ told
    pub holds_of : holds told

-- whatever was answered, the items are the feed of the walk of a tree that answers so
abbrev pub FeedsAnswered : {D C : Type 0} → Law D C → D → D → RuledWalk → List Given → Type 0
FeedsAnswered law old new walk xs = Answering law old new (λ told. IsTold walk (ruled_feed walk) told xs)

-- they are what is kept of that
abbrev pub LeavesAnswered : {D C : Type 0} → Law D C → D → D → RuledWalk → List Given → Type 0
LeavesAnswered law old new walk ys = Answering law old new (λ told. IsTold walk (ruled_kept walk) told ys)

-- they are what the glob's walk keeps of it
abbrev pub KeepsAnswered : {D C : Type 0} → Law D C → D → D → GlobRequest → List Given → Type 0
KeepsAnswered law old new request ys = Answering law old new (λ told. KeepsTold request told ys)
