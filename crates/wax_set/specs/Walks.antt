-- Walks of sets.
use Rattle.std.specs.Prelude.{◌≡◌, ℕ, Bool, List, []}
use Rattle.wax_components.specs.Depth.{Depth}
use Rattle.wax_directory.specs.Law.{Law}
use Rattle.wax_exclude.specs.BeginsRequest.{BeginsRequest, origin_from, request_from, walked_by}
use Rattle.wax_exclude.specs.{Prefix.IsCommonPrefix, Pruned.{CanWalkLeast, by_matches}}
use Rattle.wax_exclude.specs.Wanted.{Filter, Wanted}
use Rattle.wax_query.specs.Ranges.{Bounds}
use Rattle.wax_token.specs.{Reads.Span, Syntax.{Tree, alternation}, Words.trees}
use Rattle.wax_tree.specs.{declared.steps.DepthRange.DepthRange, Prefix.ArePlain}
use Rattle.wax_walk.specs.View.{WalkView}

-- Where the walk of a set begins: at the names with which the prefixes of all its patterns begin.
pub record SetBeginning (t : Tree Span) : Type 0 where
  pub branches : List (Tree Span)
  pub tree_is : t ≡ alternation (0, 0) (trees branches)
  pub rooted : Bool
  pub names : List (List ℕ)
  pub names_are : IsCommonPrefix branches rooted names

-- what the set wants, without what these filters exclude
abbrev pub set_wants : {t : Tree Span} → SetBeginning t → List (Filter Span) → Wanted Span
set_wants {t} b filters = record { rooted = b.rooted; glob = t; filters = filters }

-- A walk over this directory that was made of a set, in a range: what one of its patterns means of what is
-- shown will come.
pub record BeginsSet {D C : Type 0} (t : Tree Span) (law : Law D C) (d : D) (start : List ℕ)
    (asked : DepthRange) (view : WalkView D) : Type 0 where
  pub depth : Bounds
  pub depth_is : Depth t depth
  pub begins : SetBeginning t
  -- less whatever filters, this is all that is wanted, as the law of walks says
  pub can : (filters : List (Filter Span)) → ArePlain begins.names
      → CanWalkLeast (set_wants begins filters) asked (walked_by by_matches asked depth)
      (origin_from start begins.rooted begins.names)
  pub comes : BeginsRequest law d
      (request_from by_matches (set_wants begins []) start asked depth begins.names) view
