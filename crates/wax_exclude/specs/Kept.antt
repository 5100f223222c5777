-- What a plain walk, without what lines ignore, yields to its end.
use Rattle.std.specs.{Prelude.{◌⊎◌, ◌&&◌, ◌∷◌, ℕ, List, [], All, filter}, List.Contains}
use Rattle.wax_directory.specs.Shown.{Shown}
use Rattle.wax_token.specs.Reads.{Span}
use Rattle.wax_tree.specs.{Begins.scope_in, declared.steps.DepthRange.DepthRange, Plain.{count_shown, plain}}
use Rattle.wax_tree.specs.Whole.{is_in, whole}
use Rattle.wax_walk.specs.{Forest.{Forest, listings}, Given.Given}
use Rattle.wax_exclude.specs.{Due.{Due, KeepsDue}, GlobRequests.{GlobRequest, request_excluding}}
use Rattle.wax_exclude.specs.{Ignored.Line, TreeRequests.tree_request}
use Rattle.wax_exclude.specs.{Unignored.{ignore_rules, is_unignored, IsIgnoredBelow}, Walked.MayList}
use Rattle.wax_exclude.specs.Wanted.{not_ignored, stacked}

-- a plain walk from a start, of the depths in range, without what these lines ignore
pub record PlainRequest : Type 0 where
  pub lines : List (Line Span)
  pub range : DepthRange
  pub start : List ℕ

-- the plain walk of a request, and what is left of it without what the lines ignore
abbrev pub requested_plain : PlainRequest → Shown → Forest Given
requested_plain request s = plain (scope_in request.range) request.start s

abbrev pub unignored_walk : PlainRequest → Shown → Forest Given
unignored_walk request s = stacked (ignore_rules request.lines) (requested_plain request s)

-- the entries of the whole walk that are in range and aren't ignored, in order
abbrev pub unignored_entries : PlainRequest → Shown → List Given
unignored_entries request s =
    filter (λ x. is_in request.range x && is_unignored request.lines x) (whole request.start s)

-- each folder that the plain walk lists is listed, or is at or below what is ignored with everything below it
abbrev pub ListsUnignored : PlainRequest → Shown → Type 0
ListsUnignored request s = All (λ path. Contains (listings (unignored_walk request s)) path
    ⊎ IsIgnoredBelow request.lines request.start path) (listings (requested_plain request s))

-- the plain walk without what the lines ignore, as the walk of `**`
abbrev pub unignored_request : PlainRequest → GlobRequest
unignored_request request =
    request_excluding (tree_request request.range request.start) (not_ignored request.lines ∷ [])

-- only folders that may be are listed: all are above the greatest depth, and none at the least depth or
-- deeper is at or below what is ignored with everything below it
abbrev pub ListsAllowed : PlainRequest → Shown → Type 0
ListsAllowed request s = All (MayList (unignored_request request).wanted request.range
    (unignored_request request).origin) (listings (unignored_walk request s))

-- what is due: the plain walk, whose entries are exactly those in range that aren't ignored, in order; it
-- skips only folders below which everything is ignored, and lists only folders that it may list
abbrev pub plain_due : PlainRequest → Shown → Due
plain_due request s = record {
  walk = unignored_walk request s;
  entries = unignored_entries request s;
  ListsRightly = ListsUnignored request s × ListsAllowed request s;
  items = count_shown s;
  budget = request.range.budget;
}

-- a plain walk yielded these items: all that is due, or a prefix of these and then one error
abbrev pub KeepsUnignored : (List (List ℕ) → Type 0) → PlainRequest → Shown → List (List ℕ) → List Given
    → Type 0
KeepsUnignored tells request s listed ys = KeepsDue tells (plain_due request s) listed ys
