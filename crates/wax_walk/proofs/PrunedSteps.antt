-- Steps of a walk that opens only some folders.
use Rattle.std.proofs.Common.{◌≡◌, ◌∙◌, ◌&&◌, Bool, true, false, ℕ, List, refl, sym, ap, subst, cond}
use Rattle.std.specs.Prelude.{Some, None, not, if◌then◌else◌}
use Rattle.wax_directory.specs.Law.{Law}
use Rattle.wax_walk.specs.{Candidates.{Candidate, candidate_of, of_candidate}, Forest.cancelled}
use Rattle.wax_walk.specs.Given.{Facts, Given, Mark, alone, entry, fault, is_cut, is_entry, kept, mark_by}
use Rattle.wax_walk.specs.{Given.{no_memory, with_mark, with_tree}, Laws.ruled_cancelling}
use Rattle.wax_walk.specs.Pruned.{IsPrunedBy, is_closed, keep_mark, opens_by, pruned_pending, pruned_view}
use Rattle.wax_walk.specs.{Pruned.selected_view, Ruled.ruled_view}
use Rattle.wax_walk.specs.View.{CancelStep, FeedStep, GivesOrStops, IsFolderAt, WalkView, is_folder_kind}
use Rattle.wax_walk.specs.View.{is_to_open}
use Rattle.wax_walk.proofs.{Accounting.{IsAsked, HasAnswered, step_ends, step_marked}, Filtered.kept_itself}
use Rattle.wax_walk.proofs.Filtering.{itself_gives}
use Rattle.wax_walk.proofs.Following.{begins_filtered, cuts_filtered, ends_filtered, passes_filtered}
use Rattle.wax_walk.proofs.RuleSteps.{ruled_ends, ruled_lacks, ruled_passes, ruled_stays}

-- ---- folders that are opened

-- two tests agree on a folder of which the last one holds, and on what is no folder
open_still : (a b c : Bool) → false ≡ (not c && a) → (a && b) ≡ (a && (b && c))
open_still true true true e = refl
open_still true true false e = absurd (let i : false ≡ true = e in (cc))
open_still true false true e = refl
open_still true false false e = refl
open_still false b c e = refl

open_none : (a b c : Bool) → true ≡ (not c && a) → (a && (b && c)) ≡ false
open_none true true true e = absurd (let i : true ≡ false = e in (cc))
open_none true true false e = refl
open_none true false c e = refl
open_none false b c e = refl

module _ (before opens : Facts → Bool) where
  abbrev both : Facts → Bool
  both f = before f && opens f

  to_open_still : (x : Given) → false ≡ is_closed opens x → is_to_open before x ≡ is_to_open both x
  to_open_still (entry kept f) n = open_still (is_folder_kind f.kind) (before f) (opens f) n
  to_open_still (entry alone f) n = open_still (is_folder_kind f.kind) (before f) (opens f) n
  to_open_still (entry with_tree f) n = refl
  to_open_still (fault kind path depth) n = refl
  to_open_still no_memory n = refl

  to_open_none : (x : Given) → true ≡ is_closed opens x → is_to_open both x ≡ false
  to_open_none (entry kept f) n = open_none (is_folder_kind f.kind) (before f) (opens f) n
  to_open_none (entry alone f) n = open_none (is_folder_kind f.kind) (before f) (opens f) n
  to_open_none (entry with_tree f) n = refl
  to_open_none (fault kind path depth) n = refl
  to_open_none no_memory n = refl

  folder_still : (path : List ℕ) (depth : ℕ) (x : Given) → false ≡ is_closed opens x
      → IsFolderAt before path depth (Some x) → IsFolderAt both path depth (Some x)
  folder_still path depth (entry m f) n i = (sym (to_open_still (entry m f) n) ∙ i.0, i.1, i.2)
  folder_still path depth (fault kind p d) n i = absurd i
  folder_still path depth no_memory n i = absurd i

-- ---- steps

module _ {D C : Type 0} (law : Law D C) (opens : Facts → Bool) where
  asked : (v : WalkView D) → IsAsked (pruned_view v opens) v
  asked v = record {
    directory = refl;
    listings_left = refl;
    names_left = refl;
    to_begin = refl;
    listings_open = refl;
    to_open = refl;
    yields_from = refl;
    may_fail = λ path depth i. i;
    ended = λ i. i;
    idle = λ i. i;
  }

  answered : (w : WalkView D) → HasAnswered (pruned_view w opens) w
  answered w = record {
    directory = refl;
    listings_left = refl;
    names_left = refl;
    to_begin = refl;
    listings_open = refl;
    yields_from = refl;
    may_fail = λ path depth i. i;
    ended = λ i. i;
    idle = λ i. i;
  }

  answered_cut : (w u : WalkView D) → CancelStep w u → HasAnswered (pruned_view u opens) w
  answered_cut w u k = record {
    directory = k.directory;
    listings_left = k.listings_left;
    names_left = k.names_left;
    to_begin = k.to_begin;
    listings_open = k.listings_open;
    yields_from = k.yields_from;
    may_fail = k.may_fail;
    ended = k.ends;
    idle = k.idles;
  }

  still_above : (v w : WalkView D) → w.may_open ≡ v.may_open
      → (pruned_view w opens).may_open ≡ (pruned_view v opens).may_open
  still_above v w e = ap (λ (o : Facts → Bool). λ (f : Facts). o f && opens f) e

  pub pruned_ends : (v w : WalkView D) → FeedStep law v None w
      → FeedStep law (pruned_view v opens) None (pruned_view w opens)
  pruned_ends v w f = step_ends law v w _ _ (asked v) (answered w) f (still_above v w f.above) f.to_open
      (λ path depth i. i)
      (λ q h. subst (λ z. GivesOrStops (pruned_view v opens) z None (pruned_view w opens)) (sym h.2)
      (itself_gives (is_closed opens) v w (pruned_view v opens) (pruned_view w opens) h.0 None refl refl
      (refl, λ z i. (z, i, refl)) (f.gives h.0 h.1)))
      (begins_filtered v w (pruned_view v opens) (pruned_view w opens) _ (IsPrunedBy opens) (λ a i. i) f.calls
      f.begins)
      (ends_filtered v w (pruned_view v opens) (pruned_view w opens) _ (IsPrunedBy opens) (λ a i. i) f.calls
      f.follows)

  as_kept : (x : Given) (P : Given → Type 0) → P x → P (with_mark x kept)
  as_kept x P h = subst P (kept_itself x) h

  -- the item is no folder that isn't opened
  pub pruned_passes : (v w : WalkView D) (x : Given) → FeedStep law v (Some x) w → false ≡ is_closed opens x
      → FeedStep law (pruned_view v opens) (Some x) (pruned_view w opens)
  pruned_passes v w x f n =
      let outer = pruned_view v opens in
      let new = pruned_view w opens in
      step_marked law v w outer new (asked v) (answered w) x x kept (kept_itself x) f
      (still_above v w f.above)
      (f.to_open ∙ ap (λ b. cond b 1 0) (to_open_still v.may_open opens x n))
      (λ path depth i. as_kept x (λ z. IsFolderAt outer.may_open path depth (Some z))
      (folder_still v.may_open opens path depth x n (f.places.below path depth i)))
      (λ q h. subst (λ z. GivesOrStops outer z (Some x) new) (sym h.2)
      (itself_gives (is_closed opens) v w outer new h.0 (Some x) refl refl (
        refl,
        λ z i.
            subst (λ b. new.to_come (cond b (cancelled (pruned_pending opens z)) (pruned_pending opens z))) n
            (z, i, refl),
      ) (f.gives h.0 h.1)))
      (begins_filtered v w outer new (IsPrunedBy opens) (IsPrunedBy opens) (λ a i. i) f.calls f.begins)
      (passes_filtered v w outer new (IsPrunedBy opens) (IsPrunedBy opens) (λ a i. i) f.calls x x kept
      (is_closed opens x) (kept_itself x) (refl, refl) (λ z m c i. i) n (λ a i. i)
      (λ i. i) (λ i. i) f.follows)

  -- it is one, and what is below it was cancelled
  pub pruned_cuts : (v w u : WalkView D) (x : Given) → FeedStep law v (Some x) w → true ≡ is_closed opens x
      → CancelStep w u → FeedStep law (pruned_view v opens) (Some x) (pruned_view u opens)
  pruned_cuts v w u x f n k =
      let outer = pruned_view v opens in
      let new = pruned_view u opens in
      step_marked law v w outer new (asked v) (answered_cut w u k) x x kept (kept_itself x) f
      (still_above v u (k.may_open ∙ f.above))
      (k.to_open ∙ sym (ap (λ b. cond b 1 0) (to_open_none v.may_open opens x n)))
      (λ path depth i. absurd (k.none_below path depth i))
      (λ q h. subst (λ z. GivesOrStops outer z (Some x) new) (sym h.2)
      (itself_gives (is_closed opens) v w outer new h.0 (Some x) refl k.listings_left (
        refl,
        λ z i.
            subst (λ b. new.to_come (cond b (cancelled (pruned_pending opens z)) (pruned_pending opens z))) n
            (cancelled z, k.leaves_out z i, refl),
      ) (f.gives h.0 h.1)))
      (begins_filtered v w outer new (IsPrunedBy opens) (IsPrunedBy opens) (λ a i. i) f.calls f.begins)
      (cuts_filtered v w outer new (IsPrunedBy opens) (IsPrunedBy opens) (λ a i. i) f.calls x x kept
      (is_closed opens x) (kept_itself x) (refl, refl) (λ z m c i. i) n u k
      (λ a i. i) k.ends k.idles f.follows)

-- ---- steps of a selection

uncut_if : (b : Bool) (m : Mark) (f : Facts) → false ≡ is_cut (entry m f) (if b then kept else alone)
uncut_if true kept f = refl
uncut_if true alone f = refl
uncut_if true with_tree f = refl
uncut_if false kept f = refl
uncut_if false alone f = refl
uncut_if false with_tree f = refl

uncut : (keeps : Candidate → Bool) (x : Given) → false ≡ is_cut x (mark_by (of_candidate (keep_mark keeps)) x)
uncut keeps (entry m f) = uncut_if (keeps (candidate_of f)) m f
uncut keeps (fault kind path depth) = refl
uncut keeps no_memory = refl

closed_marked : (opens : Facts → Bool) (x : Given) (m : Mark)
    → is_closed opens (with_mark x m) ≡ is_closed opens x
closed_marked opens (entry k f) m = refl
closed_marked opens (fault kind path depth) m = refl
closed_marked opens no_memory m = refl

module _ {D C : Type 0} (law : Law D C) (keeps goes_on : Candidate → Bool) where
  abbrev rule : Candidate → Mark
  rule = keep_mark keeps

  abbrev ruled : WalkView D → Bool → WalkView D
  ruled v b = ruled_view v rule b

  abbrev pub selected : WalkView D → Bool → WalkView D
  selected v b = selected_view v keeps goes_on b

  abbrev pub mark_of_item : Given → Mark
  mark_of_item x = mark_by (of_candidate rule) x

  closed_as : (x y : Given) (m : Mark) → y ≡ with_mark x m
      → is_closed (opens_by goes_on) x ≡ is_closed (opens_by goes_on) y
  closed_as x y m k = sym (ap (is_closed (opens_by goes_on)) k ∙ closed_marked (opens_by goes_on) x m)

  pub selected_ends : (v w : WalkView D) (b : Bool) → b ≡ false → FeedStep law v None w
      → FeedStep law (selected v b) None (selected w b)
  selected_ends v w b e f =
      pruned_ends law (opens_by goes_on) (ruled v b) (ruled w b) (ruled_ends law rule v w b e f)

  pub selected_passes : (v w : WalkView D) (b : Bool) → b ≡ false → (x y : Given) (m : Mark)
      → FeedStep law v (Some x) w → m ≡ mark_of_item x → y ≡ with_mark x m
      → false ≡ is_closed (opens_by goes_on) x → FeedStep law (selected v b) (Some y) (selected w b)
  selected_passes v w b e x y m f s k n =
      pruned_passes law (opens_by goes_on) (ruled v b) (ruled w b) y
      (ruled_passes law rule v w b e x y m f s k (uncut keeps x ∙ ap (is_cut x) (sym s)))
      (n ∙ closed_as x y m k)

  pub selected_cuts : (v w u : WalkView D) (b : Bool) → b ≡ false → (x y : Given) (m : Mark)
      → FeedStep law v (Some x) w → m ≡ mark_of_item x → y ≡ with_mark x m
      → true ≡ is_closed (opens_by goes_on) x → CancelStep w u
      → FeedStep law (selected v b) (Some y) (selected u b)
  selected_cuts v w u b e x y m f s k n c =
      pruned_cuts law (opens_by goes_on) (ruled v b) (ruled w b) (ruled u b) y
      (ruled_passes law rule v w b e x y m f s k (uncut keeps x ∙ ap (is_cut x) (sym s)))
      (n ∙ closed_as x y m k)
      (ruled_cancelling w u (λ (p : Candidate → Mark). p) rule rule b b c refl refl)

  -- allocation failed for the selection, which is asked about entries alone
  pub selected_lacks : (v w : WalkView D) (b : Bool) → b ≡ false → (x : Given) → is_entry x ≡ true
      → FeedStep law v (Some x) w → FeedStep law (selected v b) (Some no_memory) (selected w true)
  selected_lacks v w b e x i f = pruned_passes law (opens_by goes_on) (ruled v b) (ruled w true) no_memory
      (ruled_lacks law rule v w rule b e x i f) refl

  -- after that nothing is asked any more
  pub selected_stays : (v : WalkView D) (b : Bool) → b ≡ true
      → FeedStep law (selected v b) None (selected v b)
  selected_stays v b e =
      pruned_ends law (opens_by goes_on) (ruled v b) (ruled v b) (ruled_stays law rule v b e)
