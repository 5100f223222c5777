-- What contracts see of a walk, and how a call of `feed` and cancelling change it.
use Rattle.std.specs.Prelude.{◌≡◌, ℕ, ◌+◌, ◌<◌, ◌≤◌, ◌^◌, ◌-◌, min, List, Option, Some, None, ⊤, Bool, true}
use Rattle.std.specs.Prelude.{false, cond, ◌&&◌, nat_lt, ◌⊎◌, ◌++◌}
use Rattle.wax_directory.specs.{Counting.{no_counts, grown}, declared.directory.FileType.FileType, Law.Law}
use Rattle.wax_directory.specs.declared.tally.Tally.{Tally}
use Rattle.wax_walk.specs.declared.error.FaultKind.TheVariants.{NotFound, NotAFolder, Listing, BadName}
use Rattle.wax_walk.specs.declared.error.FaultKind.TheVariants.{NotText, Budget}
use Rattle.wax_walk.specs.Course.{Ahead, IsStartOf, DirectoryCall, Course, CutsShort, IsNothing, ahead}
use Rattle.wax_walk.specs.Course.{all_ahead, answers, asking, stop, unknown, yields}
use Rattle.wax_walk.specs.Forest.{Pending, all_pending, cancelled, FirstIs, IsListed}
use Rattle.wax_walk.specs.Given.{Facts, Given, entry, fault, no_memory, kept, alone, with_tree}
use Rattle.wax_walk.specs.Opened.{items_listed}
use Rattle.wax_directory.specs.declared.directory.FileType.TheVariants as F

-- what is to come; what may be ahead, by what the directory will answer; the directory; at most how many more
-- items may be taken from listings; how many names are left to follow to where the walk begins; 1 if the
-- entry there is still to come, else 0; how many listings are open; 1 if the last yielded entry is a folder
-- that is still to be opened, else 0; which folders are opened; the depth from which entries are yielded; the
-- paths, each with its depth, of which errors may come, and those of which errors may come unless what is
-- below the last yielded item is cancelled; that the walk has ended; and that it leaves the directory as it
-- is
pub record WalkView (D : Type 0) : Type 1 where
  pub to_come : Pending Given → Type 0
  pub may_come : Ahead → Type 0
  pub directory : D
  pub listings_left : ℕ
  pub names_left : ℕ
  pub to_begin : ℕ
  pub listings_open : ℕ
  pub to_open : ℕ
  pub may_open : Facts → Bool
  pub yields_from : ℕ
  pub may_fail : List ℕ → ℕ → Type 0
  pub may_fail_below : List ℕ → ℕ → Type 0
  pub has_ended : Type 0
  pub is_idle : Type 0

-- ---- what a result implies

-- what a directory counted if a walk yields this: a miss, a leaf, a failure, a bad name, or nothing
abbrev pub fault_counts : Option Given → Tally
fault_counts (Some (fault NotFound path depth)) = record no_counts { misses = 1 }
fault_counts (Some (fault NotAFolder path depth)) = record no_counts { leaves = 1 }
fault_counts (Some (fault Listing path depth)) = record no_counts { failures = 1 }
fault_counts (Some (fault BadName path depth)) = record no_counts { bad_names = 1 }
fault_counts (Some (fault NotText path depth)) = record no_counts { failures = 1 }
fault_counts r = no_counts

-- the item is an error that ends the walk
abbrev pub IsLast : Option Given → Type 0
IsLast (Some no_memory) = ⊤
IsLast (Some (fault NotFound path depth)) = ⊤
IsLast (Some (fault NotAFolder path depth)) = ⊤
IsLast (Some (fault Budget path depth)) = ⊤
IsLast r = ⊥

-- the item is the error that a file or a link is where a folder should be
abbrev pub IsMisplaced : Option Given → Type 0
IsMisplaced (Some (fault NotAFolder path depth)) = ⊤
IsMisplaced r = ⊥

abbrev pub is_folder_kind : FileType → Bool
is_folder_kind F.Folder = true
is_folder_kind F.File = false
is_folder_kind F.Link = false

-- the entry is above this depth
abbrev pub is_above : ℕ → Facts → Bool
is_above most f = nat_lt f.depth most

-- the item is a folder that is opened and isn't excluded with everything below it
abbrev pub is_to_open : (Facts → Bool) → Given → Bool
is_to_open opens (entry kept f) = is_folder_kind f.kind && opens f
is_to_open opens (entry alone f) = is_folder_kind f.kind && opens f
is_to_open opens (entry with_tree f) = false
is_to_open opens x = false

abbrev pub IsToOpen : (Facts → Bool) → Option Given → Type 0
IsToOpen opens (Some x) = is_to_open opens x ≡ true
IsToOpen opens None = ⊥

-- the item is an error of this path and depth
abbrev pub IsErrorAt : List ℕ → ℕ → Option Given → Type 0
IsErrorAt path depth (Some (fault kind p d)) = (p ≡ path) × (d ≡ depth)
IsErrorAt path depth r = ⊥

-- the item is a folder of this path and depth, which is opened and not excluded with everything below it
abbrev pub IsFolderAt : (Facts → Bool) → List ℕ → ℕ → Option Given → Type 0
IsFolderAt opens path depth (Some (entry m f)) = IsToOpen opens (Some (entry m f)) × (f.path ≡ path)
    × (f.depth ≡ depth)
IsFolderAt opens path depth r = ⊥

-- of the allowed items, n were taken and `left` remain: all the others while the walk goes on, and no more
-- than those after an error that ends it; if the budget is reached, all were taken and none remain
abbrev pub Takes : Option Given → ℕ → ℕ → ℕ → Type 0
Takes (Some no_memory) allowed n left = n + left ≤ allowed
Takes (Some (fault NotFound path depth)) allowed n left = n + left ≤ allowed
Takes (Some (fault NotAFolder path depth)) allowed n left = n + left ≤ allowed
Takes (Some (fault Budget path depth)) allowed n left = (n ≡ allowed) × (left ≡ 0)
Takes r allowed n left = n + left ≡ allowed

-- allocation failed
abbrev pub IsMemoryError : Option Given → Type 0
IsMemoryError (Some no_memory) = ⊤
IsMemoryError r = ⊥

-- at most how many items were taken from listings whose faults aren't yielded: the one past the budget, and
-- the one for which allocation failed
abbrev pub items_lost : Option Given → ℕ
items_lost (Some no_memory) = 1
items_lost (Some (fault Budget path depth)) = 1
items_lost r = 0

-- 1 if the item is a folder that is opened and isn't excluded with everything below it, else 0
abbrev pub opens_one : (Facts → Bool) → Option Given → ℕ
opens_one opens None = 0
opens_one opens (Some x) = cond (is_to_open opens x) 1 0

-- how many items there are
abbrev pub how_many : Option Given → ℕ
how_many None = 0
how_many (Some x) = 1

-- ---- a call

-- each count grew, up to the greatest u64: that of misses, of failures and of bad names by exactly that of n,
-- except for the faults of at most `lost` items; that of leaves by at least that of n
pub record CountsFaults (n : Tally) (lost : ℕ) (old new : Tally) : Type 0 where
  pub misses : new.misses ≡ grown n.misses old.misses
  pub leaves : min (old.leaves + n.leaves) (2 ^ 64 - 1) ≤ new.leaves
  pub failures_lost : ℕ
  pub failures : new.failures ≡ grown (n.failures + failures_lost) old.failures
  pub names_lost : ℕ
  pub bad_names : new.bad_names ≡ grown (n.bad_names + names_lost) old.bad_names
  pub within : failures_lost + names_lost ≤ lost

module _ {D : Type 0} where
  -- an error of this path and depth may come, if nothing is cancelled
  abbrev pub MayFail : WalkView D → List ℕ → ℕ → Type 0
  MayFail view path depth = view.may_fail path depth ⊎ view.may_fail_below path depth

  -- the item r is an error only of a path of which errors could come. After it, errors may come of such paths
  -- and, below r, of r itself if it is a folder
  pub record Places (old : WalkView D) (r : Option Given) (new : WalkView D) : Type 0 where
    pub item : (path : List ℕ) (depth : ℕ) → IsErrorAt path depth r → MayFail old path depth
    pub later : (path : List ℕ) (depth : ℕ) → new.may_fail path depth → MayFail old path depth
    pub below : (path : List ℕ) (depth : ℕ) → new.may_fail_below path depth
        → IsFolderAt old.may_open path depth r

  -- a call yields the first item of what was to come; or allocation failed; or the budget was reached in a
  -- listed folder, which happens only if no fewer items were to be taken than were allowed
  pub data GivesOrStops (old : WalkView D) (p : Pending Given) (r : Option Given) (new : WalkView D) : Type 0
    where
      lacks_memory : r ≡ Some no_memory → GivesOrStops old p r new
      over_budget : (path : List ℕ) (depth : ℕ) → r ≡ Some (fault Budget path depth)
          → old.listings_left ≤ p.items → IsListed p path → GivesOrStops old p r new
      gives : (items : ℕ) → ((IsLast r → ⊥) → items + old.listings_left ≤ p.items + new.listings_left)
          → FirstIs new.to_come (all_pending p) p.listed items r → GivesOrStops old p r new

  -- the course may be ahead
  abbrev pub MayTake : WalkView D → Course → Type 0
  MayTake view c = (a : Ahead) × view.may_come a × (all_ahead a ≡ c)

  -- after these calls r was returned: whatever is ahead of the walk then, before it were the calls, r and
  -- that, as far as it is known; or the course ended with the calls; or it was cut short
  pub data Follows (old : WalkView D) (calls : List DirectoryCall) (r : Option Given)
      (new : WalkView D) : Type 0 where
    went_on : (x : Given) → r ≡ Some x
        → ((a : Ahead) (c : Course) → new.may_come a → IsStartOf c (yields x a.below a.after)
        → MayTake old (asking calls c)) → Follows old calls r new
    ended_so : r ≡ None → MayTake old (asking calls stop) → Follows old calls r new
    was_cut : (x : Given) → r ≡ Some x → CutsShort calls x → new.has_ended → new.is_idle
        → Follows old calls r new

  -- what the directory counted; how many items were taken from listings; how many entries were passed, since
  -- they are above the least depth; whether the item is that a folder couldn't be opened; how many folders
  -- were opened, and how many listings came to their end; and that the walk has ended if the item is its
  -- last. Unless allocation failed, each item that was taken was yielded or passed, and nothing else was but
  -- the entry where the walk begins, and that error; and just those folders were opened that were to be
  -- opened or were passed. If the item isn't the last, the budget isn't used up, and the open listings are
  -- those that were opened and haven't come to their end
  pub record Accounts {C : Type 0} (law : Law D C) (old : WalkView D) (r : Option Given) (new : WalkView D) :
      Type 0 where
    pub counts : CountsFaults (fault_counts r) (items_lost r) (law.tally old.directory)
        (law.tally new.directory)
    pub taken : ℕ
    pub takes : Takes r old.listings_left taken new.listings_left
    pub counted : (law.tally new.directory).items ≡ grown taken (law.tally old.directory).items
    pub passed : ℕ
    pub passes : old.yields_from ≡ 0 → passed ≡ 0
    pub refused : ℕ
    pub refuses : refused ≤ (fault_counts r).failures
    pub gives : ¬ (IsMemoryError r) → taken + (refused + old.to_begin) ≡ how_many r + (passed + new.to_begin)
    pub going : ¬ (IsLast r) → 0 < old.listings_left → 0 < new.listings_left
    pub folders : ℕ
    pub folders_passed : folders ≤ passed
    pub opened : ℕ
    pub opened_is : (law.tally new.directory).opened ≡ grown opened (law.tally old.directory).opened
    pub ended : ℕ
    pub ended_is : (law.tally new.directory).ended ≡ grown ended (law.tally old.directory).ended
    pub opens : ¬ (IsMemoryError r)
        → opened + new.to_open ≡ old.to_open + (folders + opens_one old.may_open r)
    pub closes : ¬ (IsLast r) → old.listings_open + opened ≡ ended + new.listings_open
    pub ends : IsLast r → new.has_ended

  -- what a call of `feed` does that returns r
  pub record FeedStep {C : Type 0} (law : Law D C) (old : WalkView D) (r : Option Given) (new : WalkView D) :
      Type 0 where
    pub gives : (p : Pending Given) → old.to_come p → GivesOrStops old p r new
    pub calls : List DirectoryCall
    pub answered : law.answered new.directory ≡ law.answered old.directory ++ answers calls
    pub spends : Takes r old.listings_left (items_listed (answers calls)) new.listings_left
    pub begins : MayTake old (asking calls unknown)
    pub follows : Follows old calls r new
    pub accounts : Accounts law old r new
    pub at_end : r ≡ None → new.has_ended
    pub closed : r ≡ None → new.listings_open ≡ 0
    pub begun : r ≡ None → new.to_begin ≡ 0
    pub from : new.yields_from ≡ old.yields_from
    pub to_open : new.to_open ≡ opens_one old.may_open r
    pub above : new.may_open ≡ old.may_open
    pub stays : old.has_ended → (r ≡ None) × new.has_ended
    pub idles : old.is_idle → new.is_idle × (new.directory ≡ old.directory)
    pub names : new.names_left ≤ old.names_left
    pub misplaced : IsMisplaced r → 0 < old.names_left
    pub places : Places old r new

  -- what cancelling does: it drops what is below the last yielded item, and nothing else
  pub record CancelStep (old new : WalkView D) : Type 0 where
    pub leaves_out : (p : Pending Given) → old.to_come p → new.to_come (cancelled p)
    pub drops : (a : Ahead) → new.may_come a → IsNothing a.below × old.may_come (ahead unknown a.after)
    pub directory : new.directory ≡ old.directory
    pub listings_left : new.listings_left ≡ old.listings_left
    pub names_left : new.names_left ≡ old.names_left
    pub to_begin : new.to_begin ≡ old.to_begin
    pub listings_open : new.listings_open ≡ old.listings_open
    pub to_open : new.to_open ≡ 0
    pub may_open : new.may_open ≡ old.may_open
    pub yields_from : new.yields_from ≡ old.yields_from
    pub may_fail : (path : List ℕ) (depth : ℕ) → new.may_fail path depth → old.may_fail path depth
    pub none_below : (path : List ℕ) (depth : ℕ) → ¬ (new.may_fail_below path depth)
    pub ends : old.has_ended → new.has_ended
    pub idles : old.is_idle → new.is_idle

  -- what is to come by `this` is to come by `that`; directory and counts are equal; errors may come only of
  -- the paths of `this`; an end by `that` is one by `this`; and if `this` is idle, `that` is idle
  pub record IsSeenAs (this that : WalkView D) : Type 0 where
    pub to_come : (p : Pending Given) → this.to_come p → that.to_come p
    pub may_come : (a : Ahead) → that.may_come a → this.may_come a
    pub directory : that.directory ≡ this.directory
    pub listings_left : that.listings_left ≡ this.listings_left
    pub names_left : that.names_left ≡ this.names_left
    pub to_begin : that.to_begin ≡ this.to_begin
    pub listings_open : that.listings_open ≡ this.listings_open
    pub to_open : that.to_open ≡ this.to_open
    pub may_open : that.may_open ≡ this.may_open
    pub yields_from : that.yields_from ≡ this.yields_from
    pub may_fail : (path : List ℕ) (depth : ℕ) → that.may_fail path depth → this.may_fail path depth
    pub may_fail_below : (path : List ℕ) (depth : ℕ) → that.may_fail_below path depth
        → this.may_fail_below path depth
    pub ends : that.has_ended → this.has_ended
    pub idles : this.is_idle → that.is_idle
