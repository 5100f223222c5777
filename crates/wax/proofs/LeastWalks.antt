-- What is to come of a glob's walk that opens only folders below which something is matched.
use Rattle.std.proofs.Common.{◌≡◌, ◌∙◌, ◌≤◌, ◌<◌, ◌+◌, ◌&&◌, ℕ, Bool, false, List, [], length, Option, refl}
use Rattle.std.proofs.Common.{sym, ap, subst, inl, inr, arith}
use Rattle.wax_prefilter.specs.Below.{goes_test}
use Rattle.wax_components.specs.Depth.{Depth}
use Rattle.wax_directory.specs.Law.{Law}
use Rattle.wax_exclude.proofs.BeginsLeast.{begins_least, fails_ended, lacks_selected, least_beyond}
use Rattle.wax_exclude.proofs.{BeginsLeast.least_shown, Origins.names_are, SplitPrefixes.same_split}
use Rattle.wax_exclude.specs.{BeginsRequest.BeginsRequest, Premises.{CanWalk, IsUnmeant}}
use Rattle.wax_exclude.specs.Prefix.{HasEmptyName, PrefixSplitsInto}
use Rattle.wax_exclude.specs.{Pruned.{CanWalkLeast, by_matches, opens_where}, Wanted.Filter}
use Rattle.wax_facts.specs.Prefix.{Prefix}
use Rattle.wax_tree.specs.{Programs.{matches_below, matches_from}, Begins.{BeginsAt, FailsFrom, HasEnded}}
use Rattle.wax_tree.specs.{declared.steps.DepthRange.DepthRange, Prefix.ArePlain}
use Rattle.wax_query.specs.Ranges.{Bounds}
use Rattle.wax_token.specs.{Reads.Span, Syntax.Tree}
use Rattle.wax_walk.specs.{Forest.{nothing, pending}, Given.Facts, Pruned.selected_view}
use Rattle.wax_walk.specs.View.{IsSeenAs, WalkView, is_above}
use Rattle.wax.proofs.GlobWalks.{ComesBeyond, ComesShown, decides}
use Rattle.wax.specs.GlobView.{GlobView}
use Rattle.wax.specs.GlobWalks.{Beginning, BeginsBy, LeadsNowhere, has_empty_name, is_too_deep, origin_from}
use Rattle.wax.specs.GlobWalks.{request_by, walked_by, wants, within}

abbrev pub goes : GlobView → Option ℕ → List ℕ → Bool
goes g most s = goes_test g.tree most s

-- a walk that may go along the components may go by matches, too
pub can_least : (t : Tree Span) (start : List ℕ) (asked : DepthRange) (depth : Bounds) (b : Beginning t)
    (filters : List (Filter Span))
    → CanWalk (wants t b filters) asked (within asked depth) (origin_from start b.rooted b.names)
    → CanWalkLeast (wants t b filters) asked (walked_by by_matches asked depth)
    (origin_from start b.rooted b.names)
can_least t start asked depth b filters can = record {
  least = refl;
  greatest = can.greatest;
  candidate = can.candidate;
  begins = can.begins;
  plain = can.plain;
}

-- the view of the walk of what a glob matches in this range
abbrev pub Selects : {D : Type 0} → GlobView → WalkView D → WalkView D → DepthRange → Type 0
Selects g inner view r = IsSeenAs
    (selected_view inner (matches_from decides g r.min) (matches_below goes g r.max) false) view

-- ---- what is to come

module _ {D C : Type 0} (g : GlobView) (law : Law D C) (d : D) (start : List ℕ)
    (asked : DepthRange) (depth : Bounds)
    (depth_is : Depth g.tree depth)
    (can : (b : Beginning g.tree) (filters : List (Filter Span)) → ArePlain b.names
    → CanWalk (wants g.tree b filters) asked (within asked depth) (origin_from start b.rooted b.names))
    (none_match : (taken : ℕ) (prefix : List ℕ) → Prefix g.tree taken prefix → HasEmptyName prefix
    → (rooted : Bool) → IsUnmeant rooted g.tree)
    (is : (taken : ℕ) × (prefix : List ℕ) × Prefix g.tree taken prefix)
    (view : WalkView D) (inner : WalkView D)
    (seen : Selects g inner view (within asked depth))
  where
    abbrev walked : DepthRange
    walked = walked_by by_matches asked depth

    abbrev lets_in : Facts → Bool
    lets_in = opens_where (goes_test g.tree) walked.max

    module _ (range : DepthRange) (same_range : range ≡ walked) (rooted : Bool) (names : List (List ℕ))
        (plan : (taken : ℕ) (prefix : List ℕ) → Prefix g.tree taken prefix
        → PrefixSplitsInto prefix rooted names)
        (b : BeginsAt law d (origin_from start rooted names) range inner) where
      same_beginning : (a : Beginning g.tree) → (rooted ≡ a.rooted) × (names ≡ a.names)
      same_beginning a =
          same_split a.prefix rooted a.rooted names a.names (plan a.taken a.prefix a.prefix_is) a.names_are

      begins_so : (a : Beginning g.tree) → BeginsAt law d (origin_from start a.rooted a.names) walked inner
      begins_so a =
          let same = same_beginning a in
          subst (λ r. BeginsAt law d (origin_from start a.rooted a.names) r inner) same_range
          (subst (λ r. BeginsAt law d (origin_from start r a.names) range inner) same.0
          (subst (λ n. BeginsAt law d (origin_from start rooted n) range inner) same.1 b))

      same_names : (a : Beginning g.tree) → a.names ≡ (origin_from start a.rooted a.names).names
      same_names a = names_are start a.rooted a.names

      begin : (a : Beginning g.tree) → BeginsRequest law d (request_by by_matches start asked depth a []) view
      begin a = begins_least g.tree law d start asked depth inner view seen a.rooted a.names (begins_so a)

      shown_along : (a : Beginning g.tree) → ArePlain a.names
          → ComesShown law d start asked depth view a by_matches
      shown_along a plain s listed h told fits =
          least_shown g.tree law d start asked depth inner view seen a.rooted a.names (begins_so a)
          (subst ArePlain (same_names a) plain) s listed h told
          (subst (λ ns. length ns ≤ walked.max) (same_names a) fits)

      beyond_along : (a : Beginning g.tree) → ComesBeyond law d start asked depth view a by_matches
      beyond_along a s listed h told less =
          least_beyond g.tree law d start asked depth inner view seen a.rooted a.names
          (begins_so a) s listed h told
          (subst (λ ns. walked.max < length ns) (same_names a) less)

      idle_along : LeadsNowhere g.tree (within asked depth) → view.is_idle
      idle_along (has_empty_name taken prefix p e) = absurd ((plan taken prefix p).unbroken e)
      idle_along (is_too_deep a less) =
          (begin a).idle (subst (λ ns. walked.max < length ns) (same_names a) less)

      too_deep : range.max < length (origin_from start rooted names).names → (a : Beginning g.tree)
          → walked.max < length a.names
      too_deep l a =
          let all : (origin_from start rooted names).names ≡ a.names =
          sym (names_are start rooted names) ∙ (same_beginning a).1 in
          subst (λ r. r.max < length a.names) same_range (subst (λ ns. range.max < length ns) all l)

      pub least_along : BeginsBy by_matches g.tree law d start asked view
      least_along = record {
        depth = depth;
        depth_is = depth_is;
        begins = inl (record {
          taken = is.0;
          prefix = is.1;
          prefix_is = is.2;
          rooted = rooted;
          names = names;
          names_are = plan is.0 is.1 is.2;
        });
        can = λ a filters plain. can_least g.tree start asked depth a filters (can a filters plain);
        none_match = none_match;
        shown = λ a s listed h told plain fits. shown_along a plain s listed h told fits;
        beyond = beyond_along;
        unmeant = λ taken prefix p e path s listed h told. absurd ((plan taken prefix p).unbroken e);
        idle = idle_along;
        comes = λ a plain. (begin a).comes (subst ArePlain (same_names a) plain);
        listings = seen.listings_left ∙ b.listings ∙ ap (λ r. r.budget + 1) same_range;
        names = λ a. subst (λ ns. view.names_left ≤ length ns) (sym (same_names a)) (begin a).names;
        fails = λ a. subst (λ ns. FailsFrom 0 (origin_from start a.rooted a.names).path ns view)
            (sym (same_names a)) (begin a).fails;
        none_listed = seen.listings_open ∙ b.none_listed;
        begun = elim b.begun [
          | inl e ↦ inl (seen.to_begin ∙ e)
          | inr e ↦ inr (
            seen.idles (inr e.0),
            seen.to_begin ∙ e.1,
            elim e.2 [
              | inl l ↦ inl (too_deep l)
              | inr t ↦ inr
                  (lacks_selected inner view (matches_from decides g asked.min)
                  (matches_below goes g walked.max) seen t)
            ],
          )
        ];
        none_to_open = seen.to_open ∙ b.none_to_open;
        yields_from = seen.yields_from ∙ b.yields_from ∙ ap (λ r. r.min) same_range;
        may_open =
            seen.may_open ∙ ap (λ (o : Facts → Bool). λ f. o f && lets_in f) b.may_open
            ∙ ap (λ (r : DepthRange). λ f. is_above r.max f && lets_in f) same_range;
        directory = seen.directory ∙ b.directory;
      }

    -- a walk that has ended, since two `/` stand side by side in the prefix
    pub least_ended : (range : DepthRange)
        → ((taken : ℕ) (prefix : List ℕ) → Prefix g.tree taken prefix → HasEmptyName prefix) → range ≡ walked
        → HasEnded law d range inner → BeginsBy by_matches g.tree law d start asked view
    least_ended range known same b = record {
      depth = depth;
      depth_is = depth_is;
      begins = inr (inl (is.0, is.1, is.2, known is.0 is.1 is.2));
      can = λ a filters plain. can_least g.tree start asked depth a filters (can a filters plain);
      none_match = none_match;
      shown =
          λ a s listed h told plain fits. absurd (a.names_are.unbroken (known a.taken a.prefix a.prefix_is));
      beyond = λ a s listed h told less. absurd (a.names_are.unbroken (known a.taken a.prefix a.prefix_is));
      unmeant = λ taken prefix p e path s listed h told. seen.to_come (pending nothing nothing listed 0) (
        pending nothing nothing listed 0,
        (refl, (pending nothing nothing listed 0, b.comes path s listed h told, refl)),
        refl,
      );
      idle = λ h. seen.idles (inr b.idle);
      comes = λ a plain. absurd (a.names_are.unbroken (known a.taken a.prefix a.prefix_is));
      listings = seen.listings_left ∙ b.listings ∙ ap (λ r. r.budget + 1) same;
      names = λ a. omega (arith, seen.names_left, b.names);
      fails = λ a. fails_ended inner view (matches_from decides g asked.min)
          (matches_below goes g walked.max) seen 0
          (origin_from start a.rooted a.names).path a.names b.fails;
      none_listed = seen.listings_open ∙ b.none_listed;
      begun = inr (
        seen.idles (inr b.idle),
        seen.to_begin ∙ b.begun,
        inl (λ a. absurd (a.names_are.unbroken (known a.taken a.prefix a.prefix_is))),
      );
      none_to_open = seen.to_open ∙ b.none_to_open;
      yields_from = seen.yields_from ∙ b.yields_from ∙ ap (λ r. r.min) same;
      may_open =
          seen.may_open ∙ ap (λ (o : Facts → Bool). λ f. o f && lets_in f) b.may_open
          ∙ ap (λ (r : DepthRange). λ f. is_above r.max f && lets_in f) same;
      directory = seen.directory ∙ b.directory;
    }
