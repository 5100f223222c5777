-- What is to come of a walk that opens only folders below which something is matched.
use Rattle.std.proofs.Common.{◌≡◌, ◌∙◌, ◌≤◌, ◌<◌, ◌+◌, ◌&&◌, ℕ, Bool, true, false, if◌then◌else◌, List, []}
use Rattle.std.proofs.Common.{◌∷◌, length, refl, sym, ap, subst, inl, inr}
use Rattle.std.proofs.lemmas.Bool.{ltb-false, ltb-true}
use Rattle.wax_prefilter.specs.Below.{goes_test}
use Rattle.wax_directory.specs.{Law.Law, Shown.Shown}
use Rattle.wax_tree.specs.Programs.{matches_below, matches_from}
use Rattle.wax_tree.specs.Begins.{BeginsAt, FailsFrom, FailsNowhere, OnlyLacks}
use Rattle.wax_tree.specs.{declared.steps.DepthRange.DepthRange, Plain.count_shown, Prefix.ArePlain}
use Rattle.wax_query.specs.Ranges.{Bounds}
use Rattle.wax_token.specs.{Decided.means_test, Reads.Span, Syntax.Tree}
use Rattle.wax_walk.proofs.{Filtered.forest_swap, Following.{lacks_filtered, take_filtered_by, take_ruled}}
use Rattle.wax_walk.proofs.Seen.{seen_itself}
use Rattle.wax_walk.specs.{Candidates.{Candidate, of_candidate}, Course.{Course, IsFiltered}}
use Rattle.wax_walk.specs.Forest.{Forest, filtered, nothing, pending}
use Rattle.wax_walk.specs.Given.{Facts, Given, Mark, changed_by, cut_by}
use Rattle.wax_walk.specs.Pruned.{IsPrunedBy, keep_mark, opened_forest, opens_by as opened_by, pruned}
use Rattle.wax_walk.specs.{Pruned.selected_view, Ruled.{IsMarkBy, ruled_view}}
use Rattle.wax_walk.specs.View.{IsSeenAs, MayTake, WalkView}
use Rattle.wax_exclude.proofs.{StackingRequests.any_alone, Telling.selected_takes}
use Rattle.wax_exclude.specs.BeginsRequest.{BeginsRequest, origin_from, request_from, walked_by}
use Rattle.wax_exclude.specs.GlobRequests.{GlobRequest, walk_for}
use Rattle.wax_exclude.specs.Pruned.{by_matches, least_mark, opens_where}
use Rattle.wax_exclude.specs.RuledWalks.{ComesRuled, RuledWalk, WalkTakes, exceeds_range}
use Rattle.wax_exclude.specs.{Walked.origin_walk, Wanted.stacked}

-- ---- what is shown comes, or nothing if there are too many names

module _ {D C : Type 0} (law : Law D C) (d : D) (walk : RuledWalk) (view : WalkView D) where
  abbrev left : Shown → Forest Given
  left s = stacked walk.rules (opened_forest walk.opening (origin_walk walk.walked walk.origin s))

  abbrev pub ComesShown : Type 0
  ComesShown = (s : Shown) (listed : List (List ℕ)) → law.shows d walk.origin.path s → law.tells d listed
      → length walk.origin.names ≤ walk.walked.max
      → view.to_come (pending nothing (left s) listed (count_shown s))

  abbrev pub ComesBeyond : Type 0
  ComesBeyond = (s : Shown) (listed : List (List ℕ)) → law.shows d walk.origin.path s → law.tells d listed
      → walk.walked.max < length walk.origin.names → view.to_come (pending nothing nothing listed 0)

  pub comes_so : ComesShown → ComesBeyond → ((c : Course) → MayTake view c → WalkTakes walk c)
      → view.listings_left ≡ walk.walked.budget + 1 → ComesRuled law d walk view
  comes_so shown beyond takes listings = record {
    comes = λ s listed k told.
        elim (exceeds_range walk) as
        (λ x. exceeds_range walk ≡ x → view.to_come
        (pending nothing (if x then nothing else left s) listed (if x then 0 else count_shown s))) [
          | true ↦ λ e. beyond s listed k told (ltb-true walk.walked.max (length walk.origin.names) e)
          | false ↦ λ e. shown s listed k told (ltb-false walk.walked.max (length walk.origin.names) e)
        ] refl;
    takes = takes;
    listings = listings;
  }

-- ---- what a selection leaves

module _ {D : Type 0} (inner view : WalkView D) (keeps goes_on : Candidate → Bool)
    (seen : IsSeenAs (selected_view inner keeps goes_on false) view) where
  abbrev rule : Facts → Mark
  rule = of_candidate (keep_mark keeps)

  abbrev opens : Facts → Bool
  opens = opened_by goes_on

  -- what it may take is filtered twice of what the walk inside may take
  record TakesTwice (c : Course) : Type 0 where
    pub first : Course
    pub second : Course
    pub takes : MayTake inner first
    pub marked : IsFiltered (IsMarkBy rule) first second
    pub pruned_is : IsFiltered (IsPrunedBy opens) second c

  takes_twice : (c : Course) → MayTake view c → TakesTwice c
  takes_twice c t =
      let ruled = ruled_view inner (keep_mark keeps) false in
      let p = take_filtered_by ruled (IsPrunedBy opens) (IsPrunedBy opens) (λ x m b s. s) c t.0
      (seen.may_come t.0 t.1) t.2 in
      let q = take_ruled inner ruled (keep_mark keeps) (seen_itself ruled) p.0 p.1 in record {
        first = q.0;
        second = p.0;
        takes = q.1;
        marked = q.2;
        pruned_is = p.2;
      }

  pub lacks_selected : OnlyLacks inner → OnlyLacks view
  lacks_selected lacks c t =
      let p = takes_twice c t in
      lacks_filtered (IsPrunedBy opens) p.second c
      (lacks_filtered (IsMarkBy rule) p.first p.second (lacks p.first p.takes) p.marked) p.pruned_is

  module _ (least : ℕ) (start : List ℕ) (way : List (List ℕ)) where
    pub fails_selected : FailsFrom least start way inner → FailsFrom least start way view
    fails_selected h = record {
      at = λ path depth i. h.at path depth (seen.may_fail path depth i);
      below = λ path depth i. h.below path depth (seen.may_fail_below path depth i).1;
    }

    pub fails_ended : FailsNowhere inner → FailsFrom least start way view
    fails_ended h = record {
      at = λ path depth i. absurd (h.at path depth (seen.may_fail path depth i));
      below = λ path depth i. h.below path depth (seen.may_fail_below path depth i).1;
    }

-- ---- what is to come

abbrev pub tree_decides : Tree Span → List ℕ → Bool
tree_decides t s = means_test t false false s

module _ {D C : Type 0} (t : Tree Span) (law : Law D C) (d : D) (start : List ℕ)
    (asked : DepthRange) (depth : Bounds)
    (inner view : WalkView D)
    (seen : IsSeenAs (selected_view inner (matches_from tree_decides t asked.min)
    (matches_below (goes_test {A = Span}) t (walked_by by_matches asked depth).max) false) view)
  where
    abbrev keeps : Candidate → Bool
    keeps = matches_from tree_decides t asked.min

    abbrev walked : DepthRange
    walked = walked_by by_matches asked depth

    abbrev below : Candidate → Bool
    below = matches_below (goes_test {A = Span}) t walked.max

    abbrev mark : Facts → Mark
    mark = of_candidate (least_mark asked.min t)

    abbrev lets_in : Facts → Bool
    lets_in = opens_where (goes_test t) walked.max

    module _ (rooted : Bool) (names : List (List ℕ))
        (b : BeginsAt law d (origin_from start rooted names) walked inner) where
      abbrev request : GlobRequest
      request =
          request_from by_matches (record { rooted = rooted; glob = t; filters = [] }) start asked depth names

      pub least_shown : ArePlain request.origin.names → ComesShown law d (walk_for request) view
      least_shown plain s listed h told fits =
          let f = origin_walk walked request.origin s in
          let n = count_shown s in
          seen.to_come (pending nothing (stacked (mark ∷ []) (pruned lets_in f)) listed n) (
            pending nothing (filtered (changed_by mark) (cut_by mark) f) listed n,
            (refl, (pending nothing f listed n, b.shown s listed h told plain fits, refl)),
            (λ i. pending nothing (sym (forest_swap lets_in mark f) i) listed n),
          )

      pub least_beyond : ComesBeyond law d (walk_for request) view
      least_beyond s listed h told less = seen.to_come (pending nothing nothing listed 0) (
        pending nothing nothing listed 0,
        (refl, (pending nothing nothing listed 0, b.beyond s listed h told less, refl)),
        refl,
      )

      least_takes : ArePlain request.origin.names → (c : Course) → MayTake view c
          → WalkTakes (walk_for request) c
      least_takes plain c m =
          let p = takes_twice inner view keeps below seen c m in
          selected_takes (walk_for request) (keep_mark keeps) lets_in p.first p.second c refl plain
          (sym (any_alone mark)) (b.takes p.first p.takes) p.marked p.pruned_is

      least_listings : view.listings_left ≡ asked.budget + 1
      least_listings = seen.listings_left ∙ b.listings

      pub begins_least : BeginsRequest law d request view
      begins_least = record {
        comes = λ plain. comes_so law d (walk_for request) view (least_shown plain) least_beyond
            (least_takes plain) least_listings;
        idle = λ less. seen.idles (inr (b.idle less));
        names = subst (λ n. n ≤ length request.origin.names) (sym seen.names_left) b.names;
        fails = fails_selected inner view keeps below seen 0 request.origin.path request.origin.names b.fails;
        none_listed = seen.listings_open ∙ b.none_listed;
        begun = elim b.begun [
          | inl e ↦ inl (seen.to_begin ∙ e)
          | inr e ↦ inr (
            seen.idles (inr e.0),
            seen.to_begin ∙ e.1,
            elim e.2 [
              | inl l ↦ inl l
              | inr l ↦ inr (lacks_selected inner view keeps below seen l)
            ],
          )
        ];
        none_to_open = seen.to_open ∙ b.none_to_open;
        yields_from = seen.yields_from ∙ b.yields_from;
        may_open = seen.may_open ∙ ap (λ (o : Facts → Bool). λ f. o f && lets_in f) b.may_open;
        directory = seen.directory ∙ b.directory;
      }
