-- What is to come of the walk of a set.
use Rattle.std.proofs.Common.{◌≡◌, ℕ, Bool, false, List, [], Option, subst}
use Rattle.wax_prefilter.specs.Below.{goes_test}
use Rattle.wax_directory.specs.Law.{Law}
use Rattle.wax_exclude.proofs.BeginsLeast.{begins_least, tree_decides}
use Rattle.wax_exclude.specs.BeginsRequest.{BeginsRequest, origin_from, request_from, within}
use Rattle.wax_exclude.specs.Pruned.{by_matches}
use Rattle.wax_tree.specs.{Programs.{matches_below, matches_from}, Begins.BeginsAt}
use Rattle.wax_tree.specs.declared.steps.DepthRange.{DepthRange}
use Rattle.wax_query.specs.Ranges.{Bounds}
use Rattle.wax_token.specs.{Reads.Span, Syntax.Tree}
use Rattle.wax_walk.specs.{Pruned.selected_view, View.{IsSeenAs, WalkView}}
use Rattle.wax_set.specs.Walks.{BeginsSet}

module _ {D C : Type 0} (t : Tree Span) (law : Law D C) (d : D) (start : List ℕ) (asked range : DepthRange)
    (depth : Bounds) (same : range ≡ within asked depth) (rooted : Bool) (names : List (List ℕ)) where
  abbrev goes_on : Tree Span → Option ℕ → List ℕ → Bool
  goes_on = goes_test

  abbrev Selects : WalkView D → WalkView D → DepthRange → Type 0
  Selects inner view r = IsSeenAs
      (selected_view inner (matches_from tree_decides t r.min) (matches_below goes_on t r.max) false) view

  abbrev from_the_top : DepthRange → DepthRange
  from_the_top r = record { min = 0; max = r.max; budget = r.budget }

  pub set_begins : (inner view : WalkView D) → Selects inner view range
      → BeginsAt law d (origin_from start rooted names) (from_the_top range) inner
      → BeginsRequest law d
      (request_from by_matches (record { rooted = rooted; glob = t; filters = [] }) start asked depth names)
      view
  set_begins inner view seen begins = begins_least t law d start asked depth inner view
      (subst (Selects inner view) same seen) rooted names
      (subst (λ r. BeginsAt law d (origin_from start rooted names) (from_the_top r) inner) same begins)

pub begins_in : {D C : Type 0} (t : Tree Span) (law : Law D C) (d : D) (start : List ℕ) (view : WalkView D)
    (asked other : DepthRange) → asked ≡ other → BeginsSet t law d start asked view
    → BeginsSet t law d start other view
begins_in t law d start view asked other same = subst (λ range. BeginsSet t law d start range view) same
