-- The feed of a walk with filters, as a list.
use Rattle.std.specs.Prelude.{◌≡◌, ℕ, ◌<◌, ◌≤◌, if◌then◌else◌, List, [], length}
use Rattle.wax_directory.specs.Shown.{Shown}
use Rattle.wax_tree.specs.{Programs.any_mark, Begins.{Origin, origin_location}}
use Rattle.wax_tree.specs.{declared.steps.DepthRange.DepthRange, Plain.count_shown}
use Rattle.wax_tree.specs.Whole.{whole_along, yielded}
use Rattle.wax_walk.specs.{Collected.IsCutShort, declared.error.FaultKind.TheVariants.Budget, Forest.preorder}
use Rattle.wax_walk.specs.{Given.{Facts, Mark, Given, fault, no_memory}, Left.{left_of, opened_items}}
use Rattle.wax_walk.specs.Pruned.{Opening, opened_forest}
use Rattle.wax_exclude.specs.GlobRequests.{GlobRequest, request_walk, walk_for}
use Rattle.wax_exclude.specs.{RuledWalks.{RuledWalk, exceeds_range, ruled_forest}, Walked.origin_walk}
use Rattle.wax_exclude.specs.Wanted.{stacked}

-- what rules, one after another, leave of the whole walk along the names of the origin, in the range, if only
-- these folders are opened
abbrev pub feed_of : List (Facts → Mark) → Opening → DepthRange → Origin → Shown → List Given
feed_of rules opening range origin s = left_of (any_mark rules) (opened_items opening
    (yielded range (whole_along (origin_location origin) s origin.names)))

-- the feed of a walk filtered by rules; nothing if the origin has more names than the greatest depth
abbrev pub ruled_feed : RuledWalk → Shown → List Given
ruled_feed walk s = if exceeds_range walk then [] else
    feed_of walk.rules walk.opening walk.walked walk.origin s

-- the feed of a glob's walk
abbrev pub request_feed : GlobRequest → Shown → List Given
request_feed request s = ruled_feed (walk_for request) s

-- a walk along the names of an origin and from there on, with filters by any rules, yields what they leave
abbrev pub FeedsByRules : Type 0
FeedsByRules = (rules : List (Facts → Mark)) (opening : Opening) (range : DepthRange) (origin : Origin)
    (s : Shown) → length origin.names ≤ range.max
    → preorder (stacked rules (opened_forest opening (origin_walk range origin s)))
    ≡ feed_of rules opening range origin s

-- so does any walk filtered by rules
abbrev pub FeedsByWalk : Type 0
FeedsByWalk = (walk : RuledWalk) (s : Shown) → preorder (ruled_forest walk s) ≡ ruled_feed walk s

-- so does a glob's walk with filters
abbrev pub FeedsByRequest : Type 0
FeedsByRequest = (request : GlobRequest) (s : Shown)
    → preorder (request_walk request s) ≡ request_feed request s

-- A walk yielded these items: the whole feed; or a prefix of it and then one error, because allocation failed
-- or the budget was reached.
pub data FeedsRuled (walk : RuledWalk) (s : Shown) (xs : List Given) : Type 0 where
  gives : xs ≡ ruled_feed walk s → FeedsRuled walk s xs
  lacks_memory : IsCutShort (ruled_feed walk s) no_memory xs → FeedsRuled walk s xs
  over_budget : (path : List ℕ) (depth : ℕ) → walk.walked.budget < count_shown s
      → IsCutShort (ruled_feed walk s) (fault Budget path depth) xs → FeedsRuled walk s xs

-- the walk of the request did so
abbrev pub FeedsWanted : GlobRequest → Shown → List Given → Type 0
FeedsWanted request s xs = FeedsRuled (walk_for request) s xs
