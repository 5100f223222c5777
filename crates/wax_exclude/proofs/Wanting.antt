-- What is wanted of a walk comes, and is what is kept.
use Rattle.std.proofs.Common.{◌≡◌, ℕ, ◌+◌, ◌<◌, ◌≤◌, Bool, true, false, List, [], ◌∷◌, ◌++◌, length, filter}
use Rattle.std.proofs.Common.{refl, sym, ap, subst, ◌∙◌, arith, inl, inr, length-append}
use Rattle.std.proofs.{lemmas.List.Elements.All-nil, lemmas.Bool.{ltb-false, ltb-true}}
use Rattle.std.specs.{List.Contains, Prelude.if◌then◌else◌}
use Rattle.wax_directory.specs.{Law.Law, Shown.Shown}
use Rattle.wax_token.specs.Reads.{Span}
use Rattle.wax_tree.specs.{Begins.Origin, declared.steps.DepthRange.DepthRange, Follows.AreDistinctAlong}
use Rattle.wax_tree.specs.{Plain.count_shown, Programs.any_mark}
use Rattle.wax_walk.specs.Candidates.{Candidate, of_candidate}
use Rattle.wax_walk.specs.Collected.{Yielded, whole, lacks_memory, over_budget, Took}
use Rattle.wax_walk.specs.declared.error.FaultKind.TheVariants.{Budget}
use Rattle.wax_walk.specs.Course.{Course, IsFiltered, IsStartOf, stop}
use Rattle.wax_walk.specs.Forest.{Forest, Pending, filtered_pending, listings, nothing, pending, preorder}
use Rattle.wax_walk.specs.Pruned.{opened_forest, opened_course}
use Rattle.wax_walk.specs.Given.{Facts, Mark, Given, changed_by, combined_mark, cut_by, fault, no_memory}
use Rattle.wax_walk.specs.{Given.is_kept, Ruled.{IsMarkBy, ruled_view}, View.{WalkView, IsSeenAs, MayTake}}
use Rattle.wax_walk.proofs.{Filtered.{filtered_begins, ruled_course}, Following.{lacks_filtered, take_ruled}}
use Rattle.wax_walk.proofs.TakenAs.{taken_seen, took_as}
use Rattle.wax_exclude.proofs.KeptItems.{cut_kept, kept_entries}
use Rattle.wax_exclude.proofs.StackingRequests.{any_alone, any_both, any_filters, any_of_candidates}
use Rattle.wax_exclude.proofs.StackingRequests.{course_more, filter_rules_more, stacked_any, stacked_more}
use Rattle.wax_exclude.proofs.Reaching.{distinct_along}
use Rattle.wax_exclude.specs.{Law.WalkLaw, Premises.{IsPlainShown, IsWellNamed}}
use Rattle.wax_exclude.specs.Pruned.{CanWalkBy, ListsBy, Pruning, by_components, by_matches, first_rule}
use Rattle.wax_exclude.specs.{Pruned.{opening_by, rules_by}, Walked.{wanted_entries, origin_walk, MayList}}
use Rattle.wax_exclude.specs.Wanted.{Filter, Wanted, filter_mark, filter_rules, is_kept_entry, stacked}
use Rattle.wax_exclude.specs.GlobRequests.{AreOpened, AreRulesOf, CanBegin, ComesExcluding, ComesWanted}
use Rattle.wax_exclude.specs.GlobRequests.{GlobRequest, IsRuleOf, KeepsWanted, goes, is_beyond}
use Rattle.wax_exclude.specs.GlobRequests.{request_excluding, request_pending, unmeant, walk_for}
use Rattle.wax_exclude.specs.RuledWalks.{ComesRuled, RuledWalk, exceeds_range, lacking, origin_course}
use Rattle.wax_exclude.specs.RuledWalks.{ruled_items, ruled_pending, walk_course, walks, with_rule}
use Rattle.wax_tree.proofs.Combining.{ruled}
use Rattle.wax_exclude.specs.Due as due

-- ---- whatever comes

module _ {D C : Type 0} (law : Law D C) where
  -- what a walk yielded, by a view that this one implies
  pub took_seen : (this that : WalkView D) (new : D) (xs : List Given) → IsSeenAs this that
      → Took law that new xs → Took law this new xs
  took_seen this that new xs seen took = took_as law this that new xs (taken_seen this that xs seen) took

  -- what a walk gave that these rules filter
  pub took_less : (rules : List (Candidate → Mark)) (rule : Candidate → Mark) (v u : WalkView D) (new : D)
      (xs : List Given) → rule ≡ any_mark rules → IsSeenAs (ruled_view v rule false) u → Took law u new xs
      → Took law (ruled_view v (any_mark rules) false) new xs
  took_less rules rule v u new xs says seen took =
      subst (λ r. Took law (ruled_view v r false) new xs) says
      (took_seen (ruled_view v rule false) u new xs seen took)

-- ---- what comes

-- a walk whose rules say the same all at once
comes_same : {D C : Type 0} (law : Law D C) (d : D) (walk : RuledWalk)
    (rules : List (Facts → Mark)) (view : WalkView D)
    → any_mark walk.rules ≡ any_mark rules → ComesRuled law d walk view
    → ComesRuled law d (record walk { rules = rules }) view
comes_same law d walk rules view same h = record {
  comes = λ s listed shows told.
      subst (λ f. view.to_come (pending nothing f listed (ruled_items walk s)))
      (forest s (exceeds_range walk))
      (h.comes s listed shows told);
  takes = λ c t. elim (h.takes c t) [
    | walks s n e b ↦ walks s n e (subst (IsStartOf c) (course s (exceeds_range walk)) b)
    | lacking b ↦ lacking b
  ];
  listings = h.listings;
} where
  forest : (s : Shown) (b : Bool)
      → (if b then nothing
      else stacked walk.rules (opened_forest walk.opening (origin_walk walk.walked walk.origin s)))
      ≡ (if b then nothing
      else stacked rules (opened_forest walk.opening (origin_walk walk.walked walk.origin s)))
  forest s true = refl
  forest s false =
      let f = opened_forest walk.opening (origin_walk walk.walked walk.origin s) in
      stacked_any walk.rules f ∙ (ap (λ r. ruled r f) same ∙ sym (stacked_any rules f))

  course : (s : Shown) (b : Bool)
      → (if b then stop else ruled_course (any_mark walk.rules)
      (opened_course walk.opening (origin_course walk.walked walk.origin s)))
      ≡ (if b then stop else ruled_course (any_mark rules)
      (opened_course walk.opening (origin_course walk.walked walk.origin s)))
  course s b = ap (λ r. if b then stop
      else ruled_course r (opened_course walk.opening (origin_course walk.walked walk.origin s))) same

-- a filter that leaves of a walk what one more rule does
pub comes_filtered : {D C : Type 0} (law : Law D C) (d : D) (walk : RuledWalk)
    (rule : Facts → Mark) (v u : WalkView D)
    → ((p : Pending Given) → v.to_come p → u.to_come (filtered_pending (changed_by rule) (cut_by rule) p))
    → ((e : Course) → MayTake u e → (c : Course) × MayTake v c × IsFiltered (IsMarkBy rule) c e)
    → u.listings_left ≡ v.listings_left → ComesRuled law d walk v → ComesRuled law d (with_rule walk rule) u
comes_filtered law d walk rule v u to_come takes left h = record {
  comes = λ s listed shows told.
      subst (λ f. u.to_come (pending nothing f listed (ruled_items walk s))) (forest s (exceeds_range walk))
      (to_come _ (h.comes s listed shows told));
  takes = λ c t.
      let p = takes c t in
      elim (h.takes p.0 p.1) [
        | walks s n e b ↦ walks s n e (subst (IsStartOf c) (course s (exceeds_range walk))
            (filtered_begins rule p.0 (walk_course walk s) c p.2 b))
        | lacking b ↦ lacking (lacks_filtered (IsMarkBy rule) p.0 c b p.2)
      ];
  listings = left ∙ h.listings;
} where
  forest : (s : Shown) (b : Bool)
      → ruled rule (if b then nothing
      else stacked walk.rules (opened_forest walk.opening (origin_walk walk.walked walk.origin s)))
      ≡ (if b then nothing else stacked (walk.rules ++ rule ∷ [])
      (opened_forest walk.opening (origin_walk walk.walked walk.origin s)))
  forest s true = refl
  forest s false = sym (stacked_more walk.rules (rule ∷ [])
      (opened_forest walk.opening (origin_walk walk.walked walk.origin s)))

  course : (s : Shown) (b : Bool)
      → ruled_course rule (if b then stop else ruled_course (any_mark walk.rules)
      (opened_course walk.opening (origin_course walk.walked walk.origin s)))
      ≡ (if b then stop else ruled_course (any_mark (walk.rules ++ rule ∷ []))
      (opened_course walk.opening (origin_course walk.walked walk.origin s)))
  course s true = refl
  course s false =
      let c = opened_course walk.opening (origin_course walk.walked walk.origin s) in
      ap (λ r. ruled_course r (ruled_course (any_mark walk.rules) c)) (sym (any_alone rule))
      ∙ course_more walk.rules (rule ∷ []) c

-- what one rule takes of a walk comes of it
pub comes_by_rule : {D C : Type 0} (law : Law D C) (d : D) (walk : RuledWalk)
    (rule : Candidate → Mark) (v u : WalkView D)
    → IsSeenAs (ruled_view v rule false) u → ComesRuled law d walk v
    → ComesRuled law d (with_rule walk (of_candidate rule)) u
comes_by_rule law d walk rule v u seen h =
    comes_filtered law d walk (of_candidate rule) v u (λ p i. seen.to_come _ (refl, (p, i, refl)))
    (take_ruled v u rule seen) seen.listings_left h

module _ {D C : Type 0} (law : Law D C) (d : D) where
  -- a rule that does what filters do turns the walk of a request into that of the request with these filters
  comes_ruled : (request : GlobRequest) (filters : List (Filter Span))
      (rule : Candidate → Mark) (v u : WalkView D)
      → of_candidate rule ≡ any_mark (filter_rules filters)
      → ComesWanted law d request v → IsSeenAs (ruled_view v rule false) u
      → ComesWanted law d (request_excluding request filters) u
  comes_ruled request filters rule v u says h seen =
      let walk = walk_for request in
      let last = of_candidate rule in
      comes_same law d (with_rule walk last)
      (rules_by request.pruning request.asked.min (request_excluding request filters).wanted) u
      ((λ i f. sym (any_both walk.rules (last ∷ []) f) i)
      ∙ ((λ i f. combined_mark (any_mark walk.rules f) ((any_alone last ∙ says) i f))
      ∙ ((λ i f. any_both walk.rules (filter_rules filters) f i)
      ∙ ap (λ rules. any_mark (first_rule request.pruning request.asked.min
      request.wanted.rooted request.wanted.glob ∷ rules))
      (sym (filter_rules_more request.wanted.filters filters)))))
      (comes_by_rule law d walk rule v u seen h)

  -- the rules of filters do so together
  pub filters_come : (request : GlobRequest) (filters : List (Filter Span)) (rules : List (Candidate → Mark))
      (rule : Candidate → Mark) (v u : WalkView D) → AreRulesOf filters rules → rule ≡ any_mark rules
      → ComesWanted law d request v → IsSeenAs (ruled_view v rule false) u
      → ComesWanted law d (request_excluding request filters) u
  filters_come request filters rules rule v u are says h seen =
      comes_ruled request filters rule v u (ap of_candidate says
      ∙ (λ i f. (any_of_candidates rules f ∙ any_filters filters rules f are) i)) h seen

  -- what a walk gave to its end is what was to come at first
  pub all_gave : (walk : RuledWalk) (view : WalkView D) (tells : List (List ℕ) → Type 0) (s : Shown)
      (listed : List (List ℕ)) (xs : List Given) → ComesRuled law d walk view → law.shows d walk.origin.path s
      → law.tells d listed
      → ((p : Pending Given) → view.to_come p → Yielded tells view.listings_left p xs)
      → Yielded tells (walk.walked.budget + 1) (ruled_pending walk s listed) xs
  all_gave walk view tells s listed xs h shows told all =
      subst (λ n. Yielded tells n (ruled_pending walk s listed) xs) h.listings
      (all (ruled_pending walk s listed) (h.comes s listed shows told))

-- the rule of one filter does so
pub comes_excluding : {D C : Type 0} (law : Law D C) (x : Filter Span)
    (rule : Candidate → Mark) (v u : WalkView D)
    → IsRuleOf x rule → IsSeenAs (ruled_view v rule false) u → ComesExcluding law x v u
comes_excluding law x rule v u says seen = λ d request h.
    comes_ruled law d request (x ∷ []) rule v u
    ((λ i. of_candidate (λ c. says c i)) ∙ sym (any_alone (of_candidate (filter_mark x)))) h seen

-- ---- what is kept

contains_none : (path : List ℕ) → Contains [] path → ⊥
contains_none path c = let l = c.1 in absurd (omega (arith, l))

module _ (laws : WalkLaw) where
  -- the walk of a glob from an origin on, with filters
  module _ (w : Wanted Span) (asked walked : DepthRange) (origin : Origin) (s : Shown) where
    abbrev walk_by : Pruning → Forest Given
    walk_by pruning =
        stacked (rules_by pruning asked.min w)
        (opened_forest (opening_by pruning w.glob walked.max) (origin_walk walked origin s))

    gives_by : (pruning : Pruning) → CanWalkBy pruning w asked walked origin → IsPlainShown s
        → AreDistinctAlong origin.names s → length origin.names ≤ walked.max
        → filter is_kept_entry (preorder (walk_by pruning)) ≡ wanted_entries w asked origin s
    gives_by by_components c plain distinct fits = laws.gives w asked walked origin s c plain distinct fits
    gives_by by_matches c plain distinct fits = laws.gives_least w asked walked origin s c plain distinct fits

    nothing_by : (pruning : Pruning) → CanWalkBy pruning w asked walked origin → IsPlainShown s
        → walked.max < length origin.names → wanted_entries w asked origin s ≡ []
    nothing_by by_components c plain less =
        laws.nothing w asked origin s plain c.candidate (inl (walked, c, less))
    nothing_by by_matches c plain less = laws.least_nothing w asked walked origin s c plain less

    lists_by : (pruning : Pruning) → CanWalkBy pruning w asked walked origin → IsPlainShown s
        → ListsBy pruning w walked origin s (listings (walk_by pruning))
    lists_by by_components c plain = laws.lists w asked walked origin s c plain
    lists_by by_matches c plain = laws.lists_exactly w asked walked origin s c plain

    -- beyond the greatest depth there is nothing to list
    lists_none : (pruning : Pruning) → walked.max < length origin.names
        → ListsBy pruning w walked origin s []
    lists_none by_components less = All-nil (MayList w walked origin)
    lists_none by_matches less = λ path. (
      λ c. absurd (contains_none path c),
      λ m. absurd (let l : length (origin.names ++ m.1.names) ≡ length origin.names + length m.1.names =
          length-append origin.names m.1.names in omega (arith, less, m.1.above_greatest, l)),
    )

  pub entries_wanted : (request : GlobRequest) (s : Shown) → CanBegin request
      → IsPlainShown s → AreDistinctAlong request.origin.names s → (b : Bool) → is_beyond request ≡ b
      → filter is_kept_entry (preorder (if b then nothing else
      walk_by request.wanted request.asked request.walked request.origin s request.pruning))
      ≡ wanted_entries request.wanted request.asked request.origin s
  entries_wanted request s (goes c) plain distinct true e =
      sym (nothing_by request.wanted request.asked request.walked
      request.origin s request.pruning c plain (ltb-true _ _ e))
  entries_wanted request s (goes c) plain distinct false e =
      gives_by request.wanted request.asked request.walked
      request.origin s request.pruning c plain distinct (ltb-false _ _ e)
  entries_wanted request s (unmeant n c m) plain distinct true e =
      sym (laws.nothing request.wanted request.asked
      request.origin s plain c (inr n))
  entries_wanted request s (unmeant n c m) plain distinct false e =
      let l : length request.origin.names ≤ request.walked.max = ltb-false _ _ e in
      absurd (omega (arith, l, m))

  pub few_listed : (request : GlobRequest) (s : Shown) → CanBegin request
      → IsPlainShown s → (b : Bool) → is_beyond request ≡ b
      → AreOpened request s
      (listings (if b then nothing
      else walk_by request.wanted request.asked request.walked request.origin s request.pruning))
  few_listed request s can plain true e =
      lists_none request.wanted request.asked request.walked request.origin s request.pruning (ltb-true _ _ e)
  few_listed request s (goes c) plain false e =
      lists_by request.wanted request.asked request.walked request.origin s request.pruning c plain
  few_listed request s (unmeant n c m) plain false e =
      let l : length request.origin.names ≤ request.walked.max = ltb-false _ _ e in
      absurd (omega (arith, l, m))

  items_few : (request : GlobRequest) (s : Shown) (b : Bool)
      → request.walked.budget + 1 ≤ (if b then 0 else count_shown s)
      → request.walked.budget < count_shown s
  items_few request s true l = absurd (omega (arith, l))
  items_few request s false l = omega (arith, l)

  pub keeps_wanted : (tells : List (List ℕ) → Type 0) (request : GlobRequest) (s : Shown)
      (listed : List (List ℕ))
      (xs : List Given) → CanBegin request → IsWellNamed s
      → Yielded tells (request.walked.budget + 1) (request_pending request s listed) xs
      → KeepsWanted tells request s listed (filter is_kept xs)
  keeps_wanted tells request s listed xs can named (whole e t) =
      due.gives (ap (filter is_kept) e)
      (kept_entries xs ∙ (ap (filter is_kept_entry) e ∙ entries_wanted request s can named.plain
      (distinct_along request.origin.names s named.distinct) (is_beyond request) refl)) t
      (few_listed request s can named.plain (is_beyond request) refl)
  keeps_wanted tells request s listed xs can named (lacks_memory c) =
      due.lacks_memory (cut_kept _ no_memory xs refl c)
  keeps_wanted tells request s listed xs can named (over_budget path depth few contains c) =
      due.over_budget path depth (items_few request s (is_beyond request) few)
      (cut_kept _ (fault Budget path depth) xs refl c)
