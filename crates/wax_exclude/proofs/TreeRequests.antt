-- A plain walk is the walk of `**`.
use Rattle.std.proofs.Common.{◌≡◌, ◌∙◌, ◌<◌, ◌&&◌, ◌∷◌, [], ℕ, true, false, List, ap, arith, chars, filter}
use Rattle.std.proofs.{Common.{inl, refl, sym, subst}, lemmas.Bool.ltb-true}
use Rattle.std.specs.Prelude.{if◌then◌else◌}
use Rattle.wax_directory.specs.{Law.Law, Shown.Shown}
use Rattle.wax_token.specs.{Decided.{means_test, means_tested}, Reads.Span}
use Rattle.wax_tree.specs.{Begins.{Begins, scope_in}, Courses.plain_course}
use Rattle.wax_tree.specs.{declared.steps.DepthRange.DepthRange, Plain.{count_shown, plain}}
use Rattle.wax_tree.specs.{Whole.{is_in, whole}, Programs.any_mark}
use Rattle.wax_walk.specs.{Candidates.{candidate_of, of_candidate}, Course.{Course, IsStartOf, stop}}
use Rattle.wax_walk.specs.Forest.{Forest, nothing, pending}
use Rattle.wax_walk.specs.Given.{Facts, kept, alone, with_tree, Given, entry, fault, no_memory}
use Rattle.wax_walk.specs.View.{WalkView}
use Rattle.wax_walk.proofs.Filtered.{ruled_course}
use Rattle.wax_tree.proofs.Combining.{ruled}
use Rattle.wax_exclude.proofs.StackingRequests.{any_alone, course_unruled, unruled}
use Rattle.wax_exclude.specs.{Marks.{glob_mark, led_mark}, Premises.CanWalk}
use Rattle.wax_exclude.specs.TreeRequests.{WantsUnfiltered, is_unfiltered, tree_request, tree_alone}
use Rattle.wax_exclude.specs.GlobRequests.{ComesWanted, CanBegin, GlobRequest, goes, is_beyond}
use Rattle.wax_exclude.specs.GlobRequests.{request_excluding, walk_for}
use Rattle.wax_exclude.specs.{RuledWalks.{lacking, origin_course, walk_course, walks}, Walked.glob_walk}
use Rattle.wax_exclude.specs.Wanted.{Filter, is_wanted, none_excludes, rules_of}
use Rattle.wax_tree.specs.Begins as begin

-- ---- `**`

all_meant : (s : List ℕ) → means_test tree_alone false false s ≡ true
all_meant s = (means_tested tree_alone false false s).1 tt

all_kept : (f : Facts) → of_candidate (glob_mark false tree_alone) f ≡ kept
all_kept f = λ i. led_mark true (all_meant (candidate_of f).text i)

pub unchanged : (f : Forest Given) → ruled (of_candidate (glob_mark false tree_alone)) f ≡ f
unchanged f = (λ i. ruled (λ facts. all_kept facts i) f) ∙ unruled f

unchanged_course : (c : Course)
    → ruled_course (any_mark (of_candidate (glob_mark false tree_alone) ∷ [])) c ≡ c
unchanged_course c = ap (λ r. ruled_course r c) (any_alone (of_candidate (glob_mark false tree_alone)))
    ∙ ((λ i. ruled_course (λ facts. all_kept facts i) c) ∙ course_unruled c)

-- ---- what comes

pub not_beyond : (range : DepthRange) (start : List ℕ) → is_beyond (tree_request range start) ≡ false
not_beyond range start = elim (is_beyond (tree_request range start)) as
    (λ b. is_beyond (tree_request range start) ≡ b → is_beyond (tree_request range start) ≡ false) [
      | true ↦ λ e. let l : range.max < 0 = ltb-true range.max 0 e in absurd (omega (arith, l))
      | false ↦ λ e. e
    ] refl

pub plain_comes : {D C : Type 0} (law : Law D C) (d : D) (range : DepthRange)
    (start : List ℕ) (view : WalkView D)
    → Begins law d start range view → ComesWanted law d (tree_request range start) view
plain_comes law d range start view begins = record {
  comes = λ s listed shows told.
      let request = tree_request range start in
      let walk = glob_walk request.wanted range request.origin s in
      subst (λ b. view.to_come
      (pending nothing (if b then nothing else walk) listed (if b then 0 else count_shown s)))
      (sym (not_beyond range start))
      (subst (λ f. view.to_come (pending nothing f listed (count_shown s)))
      (sym (unchanged (plain (scope_in range) start s))) (begins.shown s listed shows told));
  takes = λ c t. elim (begins.takes c t) [
    | begin.walks s n b ↦ walks s n tt (subst (IsStartOf c) (plain_course_so s (not_beyond range start)) b)
    | begin.lacking_start b ↦ lacking b
  ];
  listings = begins.listings;
} where
  plain_course_so : (s : Shown) → is_beyond (tree_request range start) ≡ false
      → plain_course (scope_in range) start s ≡ walk_course (walk_for (tree_request range start)) s
  plain_course_so s e =
      let request = tree_request range start in
      sym (unchanged_course (plain_course (scope_in range) start s))
      ∙ ap (λ b. if b then stop else ruled_course (any_mark (rules_of request.wanted))
      (origin_course range request.origin s)) (sym e)

pub can_walk : (range : DepthRange) (start : List ℕ) (filters : List (Filter Span))
    → let request = request_excluding (tree_request range start) filters in
    CanWalk request.wanted range range request.origin
can_walk range start filters = record {
  spelled = (tt, tt);
  least = refl;
  greatest = inl refl;
  candidate = refl;
  begins = λ names are m. (names, refl);
  plain = tt;
}

pub plain_goes : (range : DepthRange) (start : List ℕ) (filters : List (Filter Span))
    → CanBegin (request_excluding (tree_request range start) filters)
plain_goes range start filters = goes (can_walk range start filters)

-- ---- what is wanted

module _ (filters : List (Filter Span)) (range : DepthRange) (start : List ℕ) where
  abbrev request : GlobRequest
  request = request_excluding (tree_request range start) filters

  same_wanted : (x : Given) → is_wanted request.wanted x ≡ is_unfiltered filters x
  same_wanted (entry kept f) =
      λ i. all_meant (chars f.candidate) i && none_excludes filters (chars f.candidate)
  same_wanted (entry alone f) = refl
  same_wanted (entry with_tree f) = refl
  same_wanted (fault kind path depth) = refl
  same_wanted no_memory = refl

pub wants_unfiltered : WantsUnfiltered
wants_unfiltered filters range start s = λ i.
    filter (λ x. is_in range x && same_wanted filters range start x i) (whole start s)
