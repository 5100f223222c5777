-- Steps of a filter by a closure.
use Rattle.std.proofs.Common.{◌≡◌, ◌∙◌, true, false, refl, sym, ap, subst}
use Rattle.std.specs.Prelude.{Option, Some, None}
use denote.Ref.{Bor}
use Rattle.wax_directory.specs.Law.{Law}
use Rattle.wax_walk.specs.{declared.entry.TreeEntry.TreeEntry, declared.iterator.EntryResidue.EntryResidue}
use Rattle.wax_walk.specs.{Forest.cancelled, Given.{Given, Facts, Mark, mark_by, with_mark, is_cut}}
use Rattle.wax_walk.specs.Says.{IsMarkSaid, SaysByRule, closure_view}
use Rattle.wax_walk.specs.View.{WalkView, FeedStep, CancelStep, GivesOrStops, opens_one}
use Rattle.wax_walk.proofs.Accounting.{IsAsked, HasAnswered, step_ends, step_marked, opened_cut, opened_uncut}
use Rattle.wax_walk.proofs.{Accounting.folder_uncut, Filtering.{layer_ends, layer_cuts, layer_passes}}
use Rattle.wax_walk.proofs.Following.{begins_filtered, cuts_filtered, ends_filtered, passes_filtered}

module _ {D C F : Type 0} (law : Law D C) (step : F → Bor TreeEntry → Option EntryResidue → F → Type 0) where
  asked : (v : WalkView D) (f : F) → IsAsked (closure_view step v f) v
  asked v f = record {
    directory = refl;
    listings_left = refl;
    names_left = refl;
    to_begin = refl;
    listings_open = refl;
    to_open = refl;
    yields_from = refl;
    may_fail = λ path depth i. i;
    ended = λ i. i;
    idle = λ i. i;
  }

  answered : (w : WalkView D) (f : F) → HasAnswered (closure_view step w f) w
  answered w f = record {
    directory = refl;
    listings_left = refl;
    names_left = refl;
    to_begin = refl;
    listings_open = refl;
    yields_from = refl;
    may_fail = λ path depth i. i;
    ended = λ i. i;
    idle = λ i. i;
  }

  answered_cut : (w u : WalkView D) (f : F) → CancelStep w u → HasAnswered (closure_view step u f) w
  answered_cut w u f k =
      record {
        directory = k.directory;
        listings_left = k.listings_left;
        names_left = k.names_left;
        to_begin = k.to_begin;
        listings_open = k.listings_open;
        yields_from = k.yields_from;
        may_fail = k.may_fail;
        ended = k.ends;
        idle = k.idles;
      }

  pub closure_ends : (v w : WalkView D) (f : F) → FeedStep law v None w
      → FeedStep law (closure_view step v f) None (closure_view step w f)
  closure_ends v w f h = step_ends law v w _ _ (asked v f) (answered w f) h
      h.above h.to_open (λ path depth i. i) (λ q s.
      let p = s.2 in
      subst (λ z. GivesOrStops (closure_view step v f) z None (closure_view step w f)) (sym p.2)
      (layer_ends s.0 v w (closure_view step v f) (closure_view step w f) p.0 refl refl
      (λ z i. (s.0, s.1, (z, i, refl))) (h.gives p.0 p.1)))
      (begins_filtered v w (closure_view step v f) (closure_view step w f) _
      (IsMarkSaid step f) (λ a i. i) h.calls
      h.begins)
      (ends_filtered v w (closure_view step v f) (closure_view step w f) _
      (IsMarkSaid step f) (λ a i. i) h.calls
      h.follows)

  -- what the closure says of an item, whatever rule it follows
  abbrev pub SaysOf : F → Given → Mark → F → Type 0
  SaysOf f x m t = (rule : Facts → Mark) → SaysByRule step rule f
      → (m ≡ mark_by rule x) × SaysByRule step rule t

  pub closure_passes : (v w : WalkView D) (f t : F) (x y : Given) (m : Mark) → FeedStep law v (Some x) w
      → SaysOf f x m t → y ≡ with_mark x m → false ≡ is_cut x m → FeedStep law (closure_view step v f)
      (Some y) (closure_view step w t)
  closure_passes v w f t x y m h says k n = step_marked law v w _ _ (asked v f) (answered w t) x y m k h
      h.above
      (h.to_open ∙ (sym (opened_uncut v.may_open x m n) ∙ sym
      (ap (λ z. opens_one v.may_open (Some z)) k)))
      (λ path depth i. folder_uncut v.may_open path depth x m n (h.places.below path depth i))
      (λ q s.
      let p = s.2 in
      let o = says s.0 s.1 in
      subst (λ z. GivesOrStops (closure_view step v f) z (Some y) (closure_view step w t)) (sym p.2)
      (layer_passes s.0 v w (closure_view step v f) (closure_view step w t) p.0 x y m o.0 k refl refl n
      (λ z i. (s.0, o.1, (z, i, refl))) (h.gives p.0 p.1)))
      (begins_filtered v w (closure_view step v f) (closure_view step w t) _
      (IsMarkSaid step t) (λ a i. i) h.calls
      h.begins)
      (passes_filtered v w (closure_view step v f) (closure_view step w t)
      (IsMarkSaid step f) (IsMarkSaid step t)
      (λ a i. i) h.calls x y m (is_cut x m) k (λ r i. (says r i).0, refl)
      (λ z o c i. (λ r j. i.0 r (says r j).1, i.1)) n (λ a i. i)
      (λ i. i) (λ i. i) h.follows)

  pub closure_cuts : (v w u : WalkView D) (f t : F) (x y : Given) (m : Mark) → FeedStep law v (Some x) w
      → SaysOf f x m t → y ≡ with_mark x m → true ≡ is_cut x m → CancelStep w u
      → FeedStep law (closure_view step v f) (Some y) (closure_view step u t)
  closure_cuts v w u f t x y m h says k n c = step_marked law v w _ _ (asked v f) (answered_cut w u t c) x y m
      k h (c.may_open ∙ h.above) (c.to_open ∙ (sym (opened_cut v.may_open x m n) ∙ sym
      (ap (λ z. opens_one v.may_open (Some z)) k)))
      (λ path depth i. absurd (c.none_below path depth i)) (λ q s.
      let p = s.2 in
      let o = says s.0 s.1 in
      subst (λ z. GivesOrStops (closure_view step v f) z (Some y) (closure_view step u t)) (sym p.2)
      (layer_cuts s.0 v w (closure_view step v f) (closure_view step u t) p.0 x y m o.0 k refl c.listings_left
      n (λ z i. (s.0, o.1, (cancelled z, c.leaves_out z i, refl))) (h.gives p.0 p.1)))
      (begins_filtered v w (closure_view step v f) (closure_view step u t) _
      (IsMarkSaid step t) (λ a i. i) h.calls
      h.begins)
      (cuts_filtered v w (closure_view step v f) (closure_view step u t)
      (IsMarkSaid step f) (IsMarkSaid step t)
      (λ a i. i) h.calls x y m (is_cut x m) k (λ r i. (says r i).0, refl)
      (λ z o c i. (λ r j. i.0 r (says r j).1, i.1)) n u c (λ a i. i) c.ends
      c.idles h.follows)
