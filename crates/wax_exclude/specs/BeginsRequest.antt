-- Walks of globs and sets when they begin.
use Rattle.std.specs.Prelude.{◌≡◌, ℕ, ◌<◌, ◌≤◌, ◌&&◌, Bool, true, false, List, [], ◌∷◌, length, min, Option}
use Rattle.std.specs.Prelude.{Some, None}
use Rattle.wax_directory.specs.Law.{Law}
use Rattle.wax_query.specs.Ranges.{Bounds}
use Rattle.wax_token.specs.{Reads.Span, Syntax.Tree}
use Rattle.wax_tree.specs.{Begins.{FailsFrom, IsBegun, Origin}, declared.steps.DepthRange.DepthRange}
use Rattle.wax_tree.specs.Prefix.{ArePlain}
use Rattle.wax_walk.specs.{Given.Facts, View.{WalkView, is_above}}
use Rattle.wax_prefilter.specs.Below.{goes_test}
use Rattle.wax_exclude.specs.GlobRequests.{ComesWanted, GlobRequest}
use Rattle.wax_exclude.specs.{Pruned.{Pruning, by_components, by_matches, opens_where}, Wanted.Wanted}

-- the lesser of a greatest depth and the greatest number of components
abbrev pub up_to : ℕ → Option ℕ → ℕ
up_to most None = most
up_to most (Some upper) = min most upper

-- the range, but no deeper than the texts
abbrev pub within : DepthRange → Bounds → DepthRange
within range depth = record { min = range.min; max = up_to range.max depth.1; budget = range.budget }

-- the least depth that is walked: a walk that opens only folders below which something is matched asks about
-- all of them
abbrev pub least_by : Pruning → ℕ → ℕ
least_by by_components least = least
least_by by_matches least = 0

-- the range that is walked
abbrev pub walked_by : Pruning → DepthRange → Bounds → DepthRange
walked_by pruning asked depth =
    record { min = least_by pruning asked.min; max = up_to asked.max depth.1; budget = asked.budget }

-- the folders that are opened
abbrev pub walk_opens : {A : Type 0} → Pruning → Tree A → ℕ → Facts → Bool
walk_opens by_components t most = is_above most
walk_opens by_matches t most = λ f. is_above most f && opens_where (goes_test t) most f

-- the origin of these names, from a start, or from the root
abbrev pub origin_from : List ℕ → Bool → List (List ℕ) → Origin
origin_from start false names = record { root = start; path = start; candidate = []; names = names }
origin_from start true names = record { root = []; path = 47 ∷ []; candidate = 47 ∷ []; names = names }

-- what is requested of a walk, from a start, or from the root, along these names, if no match has more
-- components than the bounds say
abbrev pub request_from : Pruning → Wanted Span → List ℕ → DepthRange → Bounds → List (List ℕ) → GlobRequest
request_from pruning w start asked depth names = record {
  pruning = pruning;
  wanted = w;
  asked = asked;
  walked = walked_by pruning asked depth;
  origin = origin_from start w.rooted names;
}

-- The view of a walk over the directory d, of which the walk of the request is to come.
pub record BeginsRequest {D C : Type 0} (law : Law D C) (d : D) (request : GlobRequest)
    (view : WalkView D) : Type 0 where
  -- what is wanted comes: filters over the walk take from this, and what is collected is the rest
  pub comes : ArePlain request.origin.names → ComesWanted law d request view
  -- the directory isn't called if the origin has more names than the greatest depth
  pub idle : request.walked.max < length request.origin.names → view.is_idle
  pub names : view.names_left ≤ length request.origin.names
  -- errors may come only of what the walk passes on the way of the names
  pub fails : FailsFrom request.walked.min request.origin.path request.origin.names view
  pub none_listed : view.listings_open ≡ 0
  pub begun : IsBegun (request.walked.max < length request.origin.names) view
  pub none_to_open : view.to_open ≡ 0
  pub yields_from : view.yields_from ≡ request.walked.min
  pub may_open : view.may_open ≡ walk_opens request.pruning request.wanted.glob request.walked.max
  pub directory : view.directory ≡ d
