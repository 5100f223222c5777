-- What the depth of a tree says of the texts that it means.
use Rattle.std.specs.Prelude.{◌≤◌, ◌<◌, List, None, Option, Some, ℕ, false, ⊤}
use Rattle.wax_query.specs.{Components.{Bare, component_total}, Ranges.{AtMost, Bounds}}
use Rattle.wax_token.specs.{Meaning.Means, Syntax.Tree}
use Rattle.wax_components.specs.Depth.{usize_max}

-- no text that the tree means has more components than the upper bound, and none that isn't empty and has
-- no `/` at its ends has fewer than the lower one
pub record BoundsComponents {A : Type 0} (t : Tree A) (r : Bounds) : Type 0 where
  pub least : (s : List ℕ) → Means t false false s → Bare s → r.0 ≤ component_total s
  pub greatest : (s : List ℕ) → Means t false false s → AtMost (component_total s) r.1

-- the greatest number that fits into 64 bits bounds nothing
abbrev pub AtMostSaturated : ℕ → Option ℕ → Type 0
AtMostSaturated n None = ⊤
AtMostSaturated n (Some high) = (high < usize_max) → n ≤ high

-- the same where a bound may be saturated
pub record SaturatedBounds {A : Type 0} (t : Tree A) (r : Bounds) : Type 0 where
  pub least : (s : List ℕ) → Means t false false s → Bare s → r.0 ≤ component_total s
  pub greatest : (s : List ℕ) → Means t false false s → AtMostSaturated (component_total s) r.1
