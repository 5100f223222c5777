-- What is kept of a walk after filters one by one.
use Rattle.std.proofs.Common.{◌≡◌, ◌++◌, ◌∷◌, List, [], ℕ, append_assoc, ap, inl, inr, subst, sym}
use Rattle.std.specs.Prelude.{◌⊎◌}
use Rattle.wax.specs.{GlobView.GlobView, GlobWalks.{BeginsGlob, request_of}, Language.Span}
use Rattle.wax.specs.Queries.{Bounds, Depth}
use Rattle.wax.specs.Walks.{behavior_at, behavior_range, ComesExcluding, Filter, Given, gives, goes, CanBegin}
use Rattle.wax.specs.Walks.{GlobRequest, KeepsWanted, lacks_memory, Law, over_budget, request_excluding}
use Rattle.wax.specs.Walks.{Unbounded, WalkView}
use Rattle.wax_test_uses.specs.Excluding.{AreEntriesWanted, IsCutOff, IsKnownFrom, KeepsExcluding}
use Rattle.wax_test_uses.specs.Excluding.{KeepsFiltered, OpenedFew}
use Rattle.wax_test_uses.specs.Excluding as less

-- filters and more filters
pub less_more : (request : GlobRequest) (xs ys : List (Filter Span))
    → request_excluding (request_excluding request xs) ys ≡ request_excluding request (xs ++ ys)
less_more request xs ys =
    ap (λ fs. record request { wanted = record request.wanted { filters = fs } })
    (append_assoc request.wanted.filters xs ys)

module _ {D C : Type 0} (law : Law D C) (x : Filter Span) (filters : List (Filter Span))
    (inner outer : WalkView D) (new : D) (items : List Given) where
  -- a filter before others
  pub keeps_one_more : ComesExcluding law x inner outer → KeepsExcluding law outer filters new items
      → KeepsExcluding law inner (x ∷ filters) new items
  keeps_one_more takes keeps = λ d request s opened comes may shows told.
      let same : request_excluding (request_excluding request (x ∷ [])) filters
      ≡ request_excluding request (x ∷ filters) =
      less_more request (x ∷ []) filters in
      subst (λ t. KeepsWanted (law.tells new) t s opened items) same
      (keeps d (request_excluding request (x ∷ [])) s opened (takes d request comes)
      (subst CanBegin (sym same) may) shows told)

-- ---- of a glob's walk

module _ {D C : Type 0} (g : GlobView) (law : Law D C) (d : D) (start : List ℕ)
    (filters : List (Filter Span)) (new : D) (items : List Given) where
  module _ (depth : Bounds) (depth_is : Depth g.tree depth) (known : IsKnownFrom g law d start) where
    abbrev request : GlobRequest
    request = request_of start (behavior_range (behavior_at Unbounded)) depth known.beginning filters

    entries_wanted : KeepsWanted (law.tells new) request known.shown known.opened items
        → AreEntriesWanted known filters items
    entries_wanted (gives e f l m) = inr f
    entries_wanted (lacks_memory c) = inl (less.lacks_memory c.0 c.2)
    entries_wanted (over_budget path n l c) = inl (less.over_budget c.0 path n c.2)

    opened_few : KeepsWanted (law.tells new) request known.shown known.opened items
        → IsCutOff items ⊎ OpenedFew known filters (law.tells new)
    opened_few (gives e f l m) =
        inr (record {
          depth = depth;
          depth_is = depth_is;
          folders = _;
          told = l;
          may_be = m;
        })
    opened_few (lacks_memory c) = inl (less.lacks_memory c.0 c.2)
    opened_few (over_budget path n l c) = inl (less.over_budget c.0 path n c.2)

  pub keeps_filtered : (view : WalkView D)
      → BeginsGlob g.tree law d start (behavior_range (behavior_at Unbounded)) view
      → KeepsExcluding law view filters new items
      → (known : IsKnownFrom g law d start) → KeepsFiltered known filters (law.tells new) items
  keeps_filtered view begins keeps known =
      let b = known.beginning in
      let plain = known.are_plain in
      let kept : KeepsWanted (law.tells new)
      (request begins.depth begins.depth_is known) known.shown known.opened
      items =
      keeps d (request_of start (behavior_range (behavior_at Unbounded)) begins.depth b [])
      known.shown known.opened
      (begins.comes b plain) (goes (begins.can b filters plain)) known.shows known.tells in record {
        entries = entries_wanted begins.depth begins.depth_is known kept;
        folders = opened_few begins.depth begins.depth_is known kept;
      }
