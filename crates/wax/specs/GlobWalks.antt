-- The walk of a glob.
use Rattle.std.specs.{Prelude.{◌≡◌, ℕ, ◌+◌, ◌<◌, ◌≤◌, Bool, List, [], ◌∷◌, length, ◌⊎◌}, List.Contains}
use Rattle.wax_exclude.specs.GlobRequests.{ComesWanted, GlobRequest}
use Rattle.wax_exclude.specs.{Prefix.{HasEmptyName, PrefixSplitsInto}, Leading.leading_of, Premises.IsUnmeant}
use Rattle.wax_exclude.specs.Pruned.{CanWalkBy, Pruning, by_components, by_matches, opening_by, rules_by}
use Rattle.wax_exclude.specs.{Walked.origin_walk, Wanted.{Filter, Wanted, stacked}}
use Rattle.wax_components.specs.Depth.{Depth}
use Rattle.wax_directory.specs.{Counting.grown, Law.Law, Shown.Shown}
use Rattle.wax_facts.specs.Prefix.{Prefix}
use Rattle.wax_query.specs.Ranges.{Bounds}
use Rattle.wax_token.specs.{Reads.Span, Syntax.Tree}
use Rattle.wax_tree.specs.Begins.{FailsFrom, IsBegun, IsPassed, OnlyLacks}
use Rattle.wax_tree.specs.{declared.steps.DepthRange.DepthRange, Plain.count_shown, Prefix.ArePlain}
use Rattle.wax_walk.specs.Collected.{AreOfFolders, EndsThere, NoneLast, NoMemoryError, all_fault_counts}
use Rattle.wax_walk.specs.Collected.{all_items_lost, count_to_open}
use Rattle.wax_walk.specs.declared.error.FaultKind.TheVariants.{Budget, NotAFolder}
use Rattle.wax_walk.specs.{Forest.{pending, nothing}, Given.{Given, fault, no_memory}}
use Rattle.wax_walk.specs.{View.{CountsFaults, WalkView, is_above}, Pruned.opened_forest}
pub use Rattle.wax_exclude.specs.BeginsRequest.{least_by, origin_from, request_from, up_to, walk_opens}
pub use Rattle.wax_exclude.specs.BeginsRequest.{walked_by, within}

-- the names of the prefix, and the leading components
abbrev pub IsPlan : Tree Span → List ℕ → Bool → List (List ℕ) → List (List (Tree Span)) → Type 0
IsPlan t prefix rooted names leading = PrefixSplitsInto prefix rooted names × (leading ≡ leading_of rooted t)

-- Where the walk of a glob begins: at the names of its prefix, from the root where that begins with `/`.
pub record Beginning (t : Tree Span) : Type 0 where
  pub taken : ℕ
  pub prefix : List ℕ
  pub prefix_is : Prefix t taken prefix
  pub rooted : Bool
  pub names : List (List ℕ)
  pub names_are : PrefixSplitsInto prefix rooted names

-- what the glob wants, without what these filters exclude
abbrev pub wants : (t : Tree Span) → Beginning t → List (Filter Span) → Wanted Span
wants t b filters = record { rooted = b.rooted; glob = t; filters = filters }

-- what is wanted of the walk of a glob, without what these filters exclude
abbrev pub request_by : {t : Tree Span} → Pruning → List ℕ → DepthRange → Bounds → Beginning t
    → List (Filter Span) → GlobRequest
request_by {t} pruning start asked depth b filters =
    request_from pruning (wants t b filters) start asked depth b.names

-- so it is of the walk with captures
abbrev pub request_of : {t : Tree Span} → List ℕ → DepthRange → Bounds → Beginning t → List (Filter Span)
    → GlobRequest
request_of start asked depth b filters = request_by by_components start asked depth b filters

-- two `/` stand side by side in the prefix, so that the walk of the glob begins nowhere
abbrev pub HasBrokenPrefix : Tree Span → Type 0
HasBrokenPrefix t = (taken : ℕ) × (prefix : List ℕ) × Prefix t taken prefix × HasEmptyName prefix

-- a walk with captures may begin nowhere since memory ran out before; one without them isn't made then
abbrev pub LacksBeginning : {D : Type 0} → Pruning → WalkView D → Type 0
LacksBeginning by_components view = OnlyLacks view
LacksBeginning by_matches view = ⊥

-- no candidate in range can match: two `/` are side by side in the prefix, or it has more names than the
-- greatest depth
pub data LeadsNowhere (t : Tree Span) (range : DepthRange) : Type 0 where
  has_empty_name : (taken : ℕ) (prefix : List ℕ) → Prefix t taken prefix → HasEmptyName prefix
      → LeadsNowhere t range
  is_too_deep : (b : Beginning t) → range.max < length b.names → LeadsNowhere t range

-- A walk over this directory that was made of a glob, in a range: what it means of what is shown will come.
pub record BeginsBy (pruning : Pruning) {D C : Type 0} (t : Tree Span) (law : Law D C) (d : D)
    (start : List ℕ) (asked : DepthRange) (view : WalkView D) : Type 0 where
  pub depth : Bounds
  pub depth_is : Depth t depth
  -- there is a place where the walk begins, but for a broken prefix, and unless memory ran out before
  pub begins : Beginning t ⊎ (HasBrokenPrefix t ⊎ LacksBeginning pruning view)
  -- less whatever filters, this is all that is wanted, as the law of glob walks says
  pub can : (b : Beginning t) (filters : List (Filter Span)) → ArePlain b.names
      → CanWalkBy pruning (wants t b filters) asked (walked_by pruning asked depth)
      (origin_from start b.rooted b.names)
  -- from the prefix on, to the greatest depth of the texts
  pub shown : (b : Beginning t) (s : Shown) (listed : List (List ℕ))
      → law.shows d (origin_from start b.rooted b.names).path s → law.tells d listed → ArePlain b.names
      → length b.names ≤ (within asked depth).max
      → view.to_come (pending nothing
      (stacked (rules_by pruning asked.min (wants t b [])) (opened_forest
      (opening_by pruning t (walked_by pruning asked depth).max)
      (origin_walk (walked_by pruning asked depth) (origin_from start b.rooted b.names) s))) listed
      (count_shown s))
  -- nothing, where the prefix has more names than the greatest depth
  pub beyond : (b : Beginning t) (s : Shown) (listed : List (List ℕ))
      → law.shows d (origin_from start b.rooted b.names).path s → law.tells d listed
      → (within asked depth).max < length b.names → view.to_come (pending nothing nothing listed 0)
  -- nothing, where two `/` stand side by side in the prefix
  pub unmeant : (taken : ℕ) (prefix : List ℕ) → Prefix t taken prefix → HasEmptyName prefix
      → (path : List ℕ) (s : Shown) (listed : List (List ℕ)) → law.shows d path s → law.tells d listed
      → view.to_come (pending nothing nothing listed 0)
  -- and then no candidate matches
  pub none_match : (taken : ℕ) (prefix : List ℕ) → Prefix t taken prefix → HasEmptyName prefix
      → (rooted : Bool) → IsUnmeant rooted t
  -- the directory isn't called in either of these two cases
  pub idle : LeadsNowhere t (within asked depth) → view.is_idle
  -- so what is wanted comes: filters over the walk take from this, and what is collected is the rest
  pub comes : (b : Beginning t) → ArePlain b.names
      → ComesWanted law d (request_by pruning start asked depth b []) view
  pub listings : view.listings_left ≡ asked.budget + 1
  pub names : (b : Beginning t) → view.names_left ≤ length b.names
  -- errors may come only of what the walk passes on the way of the prefix
  pub fails : (b : Beginning t)
      → FailsFrom (least_by pruning asked.min) (origin_from start b.rooted b.names).path b.names view
  -- no listing is open, and folders are opened above the lesser greatest depth
  pub none_listed : view.listings_open ≡ 0
  pub begun : IsBegun ((b : Beginning t) → (within asked depth).max < length b.names) view
  pub none_to_open : view.to_open ≡ 0
  pub yields_from : view.yields_from ≡ least_by pruning asked.min
  pub may_open : view.may_open ≡ walk_opens pruning t (within asked depth).max
  pub directory : view.directory ≡ d

-- so it is of the walk with captures
abbrev pub BeginsGlob : {D C : Type 0} → Tree Span → Law D C → D → List ℕ → DepthRange → WalkView D → Type 0
BeginsGlob t law d start asked view = BeginsBy by_components t law d start asked view

-- Whatever the directory shows: a walk over it gave these items. The faults among them are those that were
-- counted, but for one item's at most, if the budget is reached or memory runs out. At most budget + 1 items
-- were taken from listings: all of these if the budget is reached, and no more than the budget if no item
-- ends the walk. Unless memory runs out, each of them was given, or passed if there is a least depth;
-- besides, only the entry where the walk begins was given, and errors of folders that couldn't be opened.
-- Just the folders that were given and are opened were opened, and those that were passed. A folder
-- was missed only on the way along the prefix. An item after which a walk has ended is the last. If none is,
-- as many listings came to their end as folders were opened.
pub record GaveBy (pruning : Pruning) {D C : Type 0} (t : Tree Span) (law : Law D C) (d : D)
    (asked : DepthRange) (new : D) (xs : List Given) : Type 0 where
  pub counts : CountsFaults (all_fault_counts xs) (all_items_lost xs) (law.tally d) (law.tally new)
  pub taken : ℕ
  pub counted : (law.tally new).items ≡ grown taken (law.tally d).items
  pub within : taken ≤ asked.budget + 1
  pub spent : (path : List ℕ) (depth : ℕ) → Contains xs (fault Budget path depth)
      → taken ≡ asked.budget + 1
  pub misplaced : (path : List ℕ) (depth : ℕ) → Contains xs (fault NotAFolder path depth) → (b : Beginning t)
      → 0 < length b.names
  pub ends_there : EndsThere xs
  pub going : NoneLast xs → taken ≤ asked.budget
  pub passed : ℕ
  pub passes : least_by pruning asked.min ≡ 0 → passed ≡ 0
  pub refused : ℕ
  pub refuses : refused ≤ (all_fault_counts xs).failures
  pub begun : ℕ
  -- the walk began, or it leads nowhere, or its only item is that memory ran out
  pub begun_is : (begun ≡ 1) ⊎ ((begun ≡ 0) × (new ≡ d)
      × (((depth : Bounds) × Depth t depth × ((b : Beginning t) → up_to asked.max depth.1 < length b.names))
      ⊎ ¬ (NoMemoryError xs)))
  pub gives : NoMemoryError xs → taken + (refused + begun) ≡ length xs + passed
  pub folders : ℕ
  pub folders_passed : folders ≤ passed
  pub opened : ℕ
  pub opened_is : (law.tally new).opened ≡ grown opened (law.tally d).opened
  pub ended_is : NoneLast xs → (law.tally new).ended ≡ grown opened (law.tally d).ended
  pub opens : NoMemoryError xs → (depth : Bounds) × Depth t depth
      × (opened ≡ folders + count_to_open (walk_opens pruning t (up_to asked.max depth.1)) xs)

-- so it is of the walk with captures
abbrev pub GaveWithin : {D C : Type 0} → Tree Span → Law D C → D → DepthRange → D → List Given → Type 0
GaveWithin t law d asked new xs = GaveBy by_components t law d asked new xs

-- Whatever the directory shows: each error among these items is of a folder that was given before it, or of
-- what the walk passes on the way of the prefix.
abbrev pub FailsAtFolders : Tree Span → List ℕ → DepthRange → List Given → Type 0
FailsAtFolders t start asked xs = (b : Beginning t) → (depth : Bounds) × Depth t depth
    × AreOfFolders (IsPassed asked.min (origin_from start b.rooted b.names).path b.names)
    (is_above (up_to asked.max depth.1)) xs

-- nothing was kept, and no folder was listed; or the only item is that memory ran out
pub data KeepsNothing (tells : List (List ℕ) → Type 0) (listed : List (List ℕ)) (ys : List Given) : Type 0
  where
    none_kept : ys ≡ [] → tells listed → KeepsNothing tells listed ys
    memory_alone : ys ≡ no_memory ∷ [] → KeepsNothing tells listed ys
