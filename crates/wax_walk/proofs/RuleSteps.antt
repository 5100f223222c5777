-- Steps of a filter by a rule.
use Rattle.std.proofs.Common.{◌≡◌, ◌∙◌, ◌+◌, Bool, true, false, [], refl, sym, ap, subst, inl, inr, cond}
use Rattle.std.proofs.{Common.arith, lemmas.List.append-nil}
use Rattle.std.specs.Prelude.{Some, None}
use Rattle.wax_directory.specs.{Law.Law, declared.tally.Tally.Tally}
use Rattle.wax_walk.specs.Candidates.{Candidate, of_candidate}
use Rattle.wax_walk.specs.{Course.{Ahead, AheadFiltered, ahead, answers, stop, unknown}, Forest.cancelled}
use Rattle.wax_walk.specs.Opened.{items_listed}
use Rattle.wax_walk.specs.Given.{Given, Mark, entry, fault, no_memory, mark_by, with_mark, is_cut, is_entry}
use Rattle.wax_walk.specs.Ruled.{AheadRuled, IsMarkBy, ruled_view}
use Rattle.wax_walk.specs.View.{WalkView, FeedStep, CancelStep, GivesOrStops, lacks_memory, opens_one}
use Rattle.wax_walk.specs.View.{CountsFaults, fault_counts, items_lost, ended_so, was_cut}
use Rattle.wax_walk.proofs.Accounting.{IsAsked, HasAnswered, step_ends, step_marked, opened_cut, opened_uncut}
use Rattle.wax_walk.proofs.Accounting.{accounts_nothing, folder_uncut, takes_within}
use Rattle.wax_walk.proofs.Filtering.{layer_ends, layer_cuts, layer_passes}
use Rattle.wax_walk.proofs.Following.{begins_filtered, cuts_filtered, ends_filtered, passes_filtered}

differ : (b : Bool) → b ≡ false → b ≡ true → ⊥
differ b e t = cc

-- an entry has no fault, so none is lost with it
lost_entry : {a b : Tally} (x : Given) → is_entry x ≡ true
    → CountsFaults (fault_counts (Some x)) (items_lost (Some x)) a b
    → CountsFaults (fault_counts (Some no_memory)) 1 a b
lost_entry (entry m f) i h = record {
  misses = h.misses;
  leaves = h.leaves;
  failures_lost = h.failures_lost;
  failures = h.failures;
  names_lost = h.names_lost;
  bad_names = h.bad_names;
  within = omega (arith, h.within);
}
lost_entry (fault kind path depth) i h = absurd (let t : false ≡ true = i in (cc))
lost_entry no_memory i h = absurd (let t : false ≡ true = i in (cc))

module _ {D C : Type 0} (law : Law D C) (rule : Candidate → Mark) where
  asked : (v : WalkView D) (b : Bool) → b ≡ false → IsAsked (ruled_view v rule b) v
  asked v b e = record {
    directory = refl;
    listings_left = refl;
    names_left = refl;
    to_begin = ap (λ c. cond c 0 v.to_begin) e;
    listings_open = ap (λ c. cond c 0 v.listings_open) e;
    to_open = ap (λ c. cond c 0 v.to_open) e;
    yields_from = refl;
    may_fail = λ path depth i. elim i [ inl f ↦ inl f | inr f ↦ inr (e, f) ];
    ended = λ h. elim h [ inl t ↦ absurd (differ b e t) | inr i ↦ i ];
    idle = λ h. elim h [ inl t ↦ absurd (differ b e t) | inr i ↦ i ];
  }

  answered : (w : WalkView D) (b : Bool) → b ≡ false → HasAnswered (ruled_view w rule b) w
  answered w b e = record {
    directory = refl;
    listings_left = refl;
    names_left = refl;
    to_begin = ap (λ c. cond c 0 w.to_begin) e;
    listings_open = ap (λ c. cond c 0 w.listings_open) e;
    yields_from = refl;
    may_fail = λ path depth i. i;
    ended = inr;
    idle = inr;
  }

  answered_cut : (w u : WalkView D) (b : Bool) → b ≡ false → CancelStep w u
      → HasAnswered (ruled_view u rule b) w
  answered_cut w u b e k =
      record {
        directory = k.directory;
        listings_left = k.listings_left;
        names_left = k.names_left;
        to_begin = ap (λ c. cond c 0 u.to_begin) e ∙ k.to_begin;
        listings_open = ap (λ c. cond c 0 u.listings_open) e ∙ k.listings_open;
        yields_from = k.yields_from;
        may_fail = k.may_fail;
        ended = λ h. inr (k.ends h);
        idle = λ h. inr (k.idles h);
      }

  outside : (v : WalkView D) (b : Bool) → b ≡ false → (a : Ahead)
      → AheadFiltered v.may_come (IsMarkBy (of_candidate rule)) a → AheadRuled v.may_come rule b a
  outside v b e a h = subst (λ c. AheadRuled v.may_come rule c a) (sym e) h

  inside : (v : WalkView D) (b : Bool) → b ≡ false → (a : Ahead) → AheadRuled v.may_come rule b a
      → AheadFiltered v.may_come (IsMarkBy (of_candidate rule)) a
  inside v b e a h = subst (λ c. AheadRuled v.may_come rule c a) e h

  pub ruled_ends : (v w : WalkView D) (b : Bool) → b ≡ false → FeedStep law v None w
      → FeedStep law (ruled_view v rule b) None (ruled_view w rule b)
  ruled_ends v w b e f = step_ends law v w _ _ (asked v b e) (answered w b e) f f.above
      (ap (λ c. cond c 0 w.to_open) e ∙ f.to_open) (λ path depth i. i.1) (λ q h.
      let p = h.1 in
      subst (λ z. GivesOrStops (ruled_view v rule b) z None (ruled_view w rule b)) (sym p.2)
      (layer_ends (of_candidate rule) v w (ruled_view v rule b) (ruled_view w rule b) p.0 refl refl
      (λ z i. (e, (z, i, refl))) (f.gives p.0 p.1)))
      (begins_filtered v w (ruled_view v rule b) (ruled_view w rule b) _ (IsMarkBy (of_candidate rule))
      (outside v b e) f.calls f.begins)
      (ends_filtered v w (ruled_view v rule b) (ruled_view w rule b) _ (IsMarkBy (of_candidate rule))
      (outside v b e) f.calls f.follows)

  pub ruled_passes : (v w : WalkView D) (b : Bool) → b ≡ false → (x y : Given) (m : Mark)
      → FeedStep law v (Some x) w → m ≡ mark_by (of_candidate rule) x → y ≡ with_mark x m → false ≡ is_cut x m
      → FeedStep law (ruled_view v rule b) (Some y) (ruled_view w rule b)
  ruled_passes v w b e x y m f s k n = step_marked law v w _ _ (asked v b e) (answered w b e) x y m k f
      f.above
      (ap (λ c. cond c 0 w.to_open) e ∙ (f.to_open ∙ (sym (opened_uncut v.may_open x m n) ∙ sym
      (ap (λ z. opens_one v.may_open (Some z)) k))))
      (λ path depth i. folder_uncut v.may_open path depth x m n (f.places.below path depth i.1)) (λ q h.
      let p = h.1 in
      subst (λ z. GivesOrStops (ruled_view v rule b) z (Some y) (ruled_view w rule b)) (sym p.2)
      (layer_passes (of_candidate rule) v w (ruled_view v rule b)
      (ruled_view w rule b) p.0 x y m s k refl refl n
      (λ z i. (e, (z, i, refl))) (f.gives p.0 p.1)))
      (begins_filtered v w (ruled_view v rule b) (ruled_view w rule b) _ (IsMarkBy (of_candidate rule))
      (outside v b e) f.calls f.begins)
      (passes_filtered v w (ruled_view v rule b) (ruled_view w rule b) _ (IsMarkBy (of_candidate rule))
      (outside v b e) f.calls x y m (is_cut x m) k (s, refl) (λ z n c i. i) n
      (inside w b e) inr inr f.follows)

  pub ruled_cuts : (v w u : WalkView D) (b : Bool) → b ≡ false → (x y : Given) (m : Mark)
      → FeedStep law v (Some x) w → m ≡ mark_by (of_candidate rule) x → y ≡ with_mark x m → true ≡ is_cut x m
      → CancelStep w u → FeedStep law (ruled_view v rule b) (Some y) (ruled_view u rule b)
  ruled_cuts v w u b e x y m f s k n c =
      step_marked law v w _ _ (asked v b e) (answered_cut w u b e c) x y m k
      f (c.may_open ∙ f.above) (ap (λ c. cond c 0 u.to_open) e
      ∙ (c.to_open ∙ (sym (opened_cut v.may_open x m n) ∙ sym
      (ap (λ z. opens_one v.may_open (Some z)) k))))
      (λ path depth i. absurd (c.none_below path depth i.1)) (λ q h.
      let p = h.1 in
      subst (λ z. GivesOrStops (ruled_view v rule b) z (Some y) (ruled_view u rule b)) (sym p.2)
      (layer_cuts (of_candidate rule) v w (ruled_view v rule b) (ruled_view u rule b) p.0 x y m s k
      refl c.listings_left n
      (λ z i. (e, (cancelled z, c.leaves_out z i, refl))) (f.gives p.0 p.1)))
      (begins_filtered v w (ruled_view v rule b) (ruled_view u rule b) _ (IsMarkBy (of_candidate rule))
      (outside v b e) f.calls f.begins)
      (cuts_filtered v w (ruled_view v rule b) (ruled_view u rule b) _ (IsMarkBy (of_candidate rule))
      (outside v b e) f.calls x y m (is_cut x m) k (s, refl) (λ z n c i. i) n u c (inside u b e)
      (λ i. inr (c.ends i))
      (λ i. inr (c.idles i)) f.follows)

  -- allocation failed for the rule, which is asked about entries alone
  pub ruled_lacks : (v w : WalkView D) (later : Candidate → Mark) (b : Bool) → b ≡ false → (x : Given)
      → is_entry x ≡ true → FeedStep law v (Some x) w
      → FeedStep law (ruled_view v rule b) (Some no_memory) (ruled_view w later true)
  ruled_lacks v w later b e x i f = record {
    gives = λ p h. lacks_memory refl;
    calls = f.calls;
    answered = f.answered;
    spends = takes_within (Some x) v.listings_left (items_listed (answers f.calls)) w.listings_left f.spends;
    begins =
        begins_filtered v w (ruled_view v rule b) (ruled_view w later true) _ (IsMarkBy (of_candidate rule))
        (outside v b e) f.calls f.begins;
    follows = was_cut no_memory refl tt (inl refl) (inl refl);
    accounts = record {
      counts = lost_entry x i f.accounts.counts;
      taken = f.accounts.taken;
      takes = takes_within (Some x) v.listings_left f.accounts.taken w.listings_left f.accounts.takes;
      counted = f.accounts.counted;
      passed = f.accounts.passed;
      passes = f.accounts.passes;
      refused = 0;
      refuses = omega arith;
      gives = λ n. absurd (n tt);
      going = λ n. absurd (n tt);
      folders = f.accounts.folders;
      folders_passed = f.accounts.folders_passed;
      opened = f.accounts.opened;
      opened_is = f.accounts.opened_is;
      ended = f.accounts.ended;
      ended_is = f.accounts.ended_is;
      opens = λ n. absurd (n tt);
      closes = λ n. absurd (n tt);
      ends = λ n. inl refl;
    };
    at_end = λ n. (cc);
    closed = λ n. (cc);
    begun = λ n. (cc);
    from = f.from;
    to_open = refl;
    above = f.above;
    stays = λ h. elim h [
      | inl t ↦ absurd (differ b e t)
      | inr t ↦ let s : Some x ≡ None = (f.stays t).0 in absurd (cc)
    ];
    idles = λ h. elim h [ inl t ↦ absurd (differ b e t) | inr t ↦ (inl refl, (f.idles t).1) ];
    names = f.names;
    misplaced = λ n. absurd n;
    places = record {
      item = λ path depth n. absurd n;
      later = λ path depth n. elim (f.places.later path depth n) [ inl m ↦ inl m | inr m ↦ inr (e, m) ];
      below = λ path depth n. absurd (let t : true ≡ false = n.0 in (cc));
    };
  }

  -- after that nothing is asked any more
  pub ruled_stays : (v : WalkView D) (b : Bool) → b ≡ true
      → FeedStep law (ruled_view v rule b) None (ruled_view v rule b)
  ruled_stays v b e =
      subst (λ c. FeedStep law (ruled_view v rule c) None (ruled_view v rule c)) (sym e) (record {
        gives = λ p h. absurd (let t : true ≡ false = h.0 in (cc));
        calls = [];
        answered = sym (append-nil (law.answered v.directory));
        spends = let e : 0 + v.listings_left ≡ v.listings_left = omega arith in e;
        begins = (ahead stop unknown, (refl, tt), refl);
        follows = ended_so refl (ahead stop stop, (refl, refl), refl);
        accounts = accounts_nothing law (ruled_view v rule true);
        at_end = λ i. inl refl;
        closed = λ i. refl;
        begun = λ i. refl;
        from = refl;
        to_open = refl;
        above = refl;
        stays = λ i. (refl, inl refl);
        idles = λ i. (i, refl);
        names = omega arith;
        misplaced = λ i. absurd i;
        places = record {
          item = λ path depth i. absurd i;
          later = λ path depth i. inl i;
          below = λ path depth i. absurd (let t : true ≡ false = i.0 in (cc));
        };
      })
