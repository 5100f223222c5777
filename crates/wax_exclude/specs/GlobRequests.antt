-- What a walk of a glob, without what filters exclude, yields to its end.
use Rattle.std.specs.Prelude.{◌≡◌, ℕ, ◌<◌, Bool, ⊤, List, [], ◌∷◌, ◌++◌, length}
use Rattle.wax_directory.specs.{Law.Law, Shown.Shown}
use Rattle.wax_token.specs.Reads.{Span}
use Rattle.wax_tree.specs.{Begins.Origin, declared.steps.DepthRange.DepthRange, Plain.count_shown}
use Rattle.wax_walk.specs.{Candidates.Candidate, Forest.{Forest, Pending, listings}, Given.{Mark, Given}}
use Rattle.wax_walk.specs.View.{WalkView}
use Rattle.wax_exclude.specs.{Candidates.base, Due.{Due, KeepsDue}, Premises.IsUnmeant}
use Rattle.wax_exclude.specs.Pruned.{CanWalkBy, ListsBy, Pruning, opening_by, rules_by}
use Rattle.wax_exclude.specs.RuledWalks.{ComesRuled, RuledWalk, exceeds_range, ruled_forest, ruled_pending}
use Rattle.wax_exclude.specs.{Walked.wanted_entries, Wanted.{Filter, Wanted, filter_mark}}

-- ---- rules of filters

-- the rule marks each candidate as the filter does
abbrev pub IsRuleOf : {A : Type 0} → Filter A → (Candidate → Mark) → Type 0
IsRuleOf x rule = (c : Candidate) → rule c ≡ filter_mark x c

abbrev pub AreRulesOf : {A : Type 0} → List (Filter A) → List (Candidate → Mark) → Type 0
AreRulesOf [] [] = ⊤
AreRulesOf [] (rule ∷ rules) = ⊥
AreRulesOf (x ∷ filters) [] = ⊥
AreRulesOf (x ∷ filters) (rule ∷ rules) = IsRuleOf x rule × AreRulesOf filters rules

-- what is wanted, with more filters
abbrev pub excluding : {A : Type 0} → Wanted A → List (Filter A) → Wanted A
excluding w filters = record w { filters = w.filters ++ filters }

-- ---- walks

-- how folders are left unopened, what is wanted, the depths that were requested, the range that is walked for
-- them, and the origin
pub record GlobRequest : Type 0 where
  pub pruning : Pruning
  pub wanted : Wanted Span
  pub asked : DepthRange
  pub walked : DepthRange
  pub origin : Origin

abbrev pub request_excluding : GlobRequest → List (Filter Span) → GlobRequest
request_excluding request filters = record request { wanted = excluding request.wanted filters }

-- the glob's walk may begin at this origin; or no candidate matches, and the origin has more names than the
-- greatest depth
pub data CanBegin (request : GlobRequest) : Type 0 where
  goes : CanWalkBy request.pruning request.wanted request.asked request.walked request.origin
      → CanBegin request
  unmeant : IsUnmeant request.wanted.rooted request.wanted.glob
      → request.origin.candidate ≡ base request.wanted.rooted
      → request.walked.max < length request.origin.names → CanBegin request

-- the walk of the request: the rule of the glob's walk first, and that of each filter after it
abbrev pub walk_for : GlobRequest → RuledWalk
walk_for request = record {
  opening = opening_by request.pruning request.wanted.glob request.walked.max;
  rules = rules_by request.pruning request.asked.min request.wanted;
  walked = request.walked;
  origin = request.origin;
}

-- the origin has more names than the greatest depth
abbrev pub is_beyond : GlobRequest → Bool
is_beyond request = exceeds_range (walk_for request)

-- what the walk yields: nothing if the origin has more names than the greatest depth, else the glob's walk
abbrev pub request_walk : GlobRequest → Shown → Forest Given
request_walk request s = ruled_forest (walk_for request) s

-- what is to come when the walk begins
abbrev pub request_pending : GlobRequest → Shown → List (List ℕ) → Pending Given
request_pending request s listed = ruled_pending (walk_for request) s listed

-- the view of a walk over the directory d, of which the walk of the request is to come
abbrev pub ComesWanted : {D C : Type 0} → Law D C → D → GlobRequest → WalkView D → Type 0
ComesWanted law d request view = ComesRuled law d (walk_for request) view

-- if the walk of a request is to come of the inner walk, the walk of the request with this filter added is to
-- come of the outer walk
abbrev pub ComesExcluding : {D C : Type 0} → Law D C → Filter Span → WalkView D → WalkView D → Type 0
ComesExcluding {D} law x inner outer = (d : D) (request : GlobRequest) → ComesWanted law d request inner
    → ComesWanted law d (request_excluding request (x ∷ [])) outer

-- of the tree s, these are only folders that the walk of the request may list; or, if it opens only folders
-- below which something is matched, exactly those that it may open
abbrev pub AreOpened : GlobRequest → Shown → List (List ℕ) → Type 0
AreOpened request s folders = ListsBy request.pruning request.wanted request.walked request.origin s folders

-- what is due: the walk of the request, whose entries are exactly the wanted ones, in order, and which lists
-- the folders that it may
abbrev pub request_due : GlobRequest → Shown → Due
request_due request s = record {
  walk = request_walk request s;
  entries = wanted_entries request.wanted request.asked request.origin s;
  ListsRightly = AreOpened request s (listings (request_walk request s));
  items = count_shown s;
  budget = request.walked.budget;
}

-- a walk yielded these items: all that is due, or a prefix of these and then one error
abbrev pub KeepsWanted : (List (List ℕ) → Type 0) → GlobRequest → Shown → List (List ℕ) → List Given → Type 0
KeepsWanted tells request s listed ys = KeepsDue tells (request_due request s) listed ys
