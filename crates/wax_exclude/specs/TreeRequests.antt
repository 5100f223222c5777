-- A plain walk, as the walk of `**`.
use Rattle.std.specs.Prelude.{◌≡◌, ℕ, Bool, false, ◌&&◌, List, [], chars, filter}
use Rattle.wax_directory.specs.Shown.{Shown}
use Rattle.wax_token.specs.{Reads.Span, Syntax.{Tree, leaf, tree, concatenation, none, more}}
use Rattle.wax_tree.specs.{declared.steps.DepthRange.DepthRange, Whole.{is_in, whole}}
use Rattle.wax_walk.specs.Given.{Given}
use Rattle.wax_exclude.specs.{GlobRequests.{GlobRequest, request_excluding}, Pruned.by_components}
use Rattle.wax_exclude.specs.{Walked.wanted_entries, Wanted.{Filter, is_kept_where, none_excludes}}

-- `**`, which matches every text
abbrev pub tree_alone : Tree Span
tree_alone = concatenation (0, 2) (more (leaf (0, 2) (tree false)) none)

-- the plain walk of these depths from a start, as the walk of `**`
abbrev pub tree_request : DepthRange → List ℕ → GlobRequest
tree_request range start = record {
  pruning = by_components;
  wanted = record { rooted = false; glob = tree_alone; filters = [] };
  asked = range;
  walked = range;
  origin = record { root = start; path = start; candidate = []; names = [] };
}

-- an entry that is kept and that no filter excludes
abbrev pub is_unfiltered : {A : Type 0} → List (Filter A) → Given → Bool
is_unfiltered filters x = is_kept_where (λ f. none_excludes filters (chars f.candidate)) x

-- of a plain walk with filters, the wanted entries are those of the whole walk that are in range and that no
-- filter excludes, in order
abbrev pub WantsUnfiltered : Type 0
WantsUnfiltered = (filters : List (Filter Span)) (range : DepthRange) (start : List ℕ) (s : Shown)
    → wanted_entries (request_excluding (tree_request range start) filters).wanted range
    (tree_request range start).origin s
    ≡ filter (λ x. is_in range x && is_unfiltered filters x) (whole start s)
