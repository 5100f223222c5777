-- What a call counts, takes and ends, call by call.
use Rattle.std.proofs.Common.{◌≡◌, Bool, ℕ, ◌+◌, ◌<◌, ◌≤◌, true, false, refl, sym, subst, ◌∙◌, arith, inl}
use Rattle.std.proofs.Common.{inr, List, ap, ◌++◌}
use Rattle.std.specs.Prelude.{Option, Some, None, ◌⊎◌}
use Rattle.wax_directory.specs.{Counting.{no_counts, plus, grown}, Law.Law, declared.tally.Tally.Tally}
use Rattle.wax_walk.specs.declared.error.FaultKind.TheVariants.{NotFound, NotAFolder, Listing, BadName}
use Rattle.wax_walk.specs.declared.error.FaultKind.TheVariants.{NotText, Budget}
use Rattle.wax_walk.specs.Course.{DirectoryCall, answers, asking, unknown}
use Rattle.wax_walk.specs.Given.{Facts, Given, Mark, entry, fault, no_memory, with_mark, is_cut, kept, alone}
use Rattle.wax_walk.specs.Given.{with_tree}
use Rattle.wax_walk.specs.View.{WalkView, CountsFaults, fault_counts, IsLast, IsMisplaced, Takes, items_lost}
use Rattle.wax_walk.specs.View.{how_many, opens_one, IsMemoryError, Follows, MayTake, GivesOrStops, Accounts}
use Rattle.wax_walk.specs.{View.{FeedStep, IsErrorAt, IsFolderAt, MayFail, Places}, Forest.Pending}
use Rattle.wax_walk.specs.Opened.{items_listed}

-- so many items were taken before
pub takes_more : (r : Option Given) (k allowed n left b m : ℕ) → k + allowed ≡ b → m ≡ k + n
    → Takes r allowed n left → Takes r b m left
takes_more None k allowed n left b m e f h = omega (arith, e, f, h)
takes_more (Some no_memory) k allowed n left b m e f h = omega (arith, e, f, h)
takes_more (Some (entry w x)) k allowed n left b m e f h = omega (arith, e, f, h)
takes_more (Some (fault NotFound p d)) k allowed n left b m e f h = omega (arith, e, f, h)
takes_more (Some (fault NotAFolder p d)) k allowed n left b m e f h = omega (arith, e, f, h)
takes_more (Some (fault Listing p d)) k allowed n left b m e f h = omega (arith, e, f, h)
takes_more (Some (fault BadName p d)) k allowed n left b m e f h = omega (arith, e, f, h)
takes_more (Some (fault NotText p d)) k allowed n left b m e f h = omega (arith, e, f, h)
takes_more (Some (fault Budget p d)) k allowed n left b m e f h = (omega (arith, e, f, h.0), h.1)

-- all others are left, as long as the walk goes on
pub takes_exactly : (r : Option Given) (allowed n left : ℕ) → Takes r allowed n left
    → (n + left ≡ allowed) ⊎ (IsLast r × (n + left ≤ allowed))
takes_exactly None allowed n left h = inl h
takes_exactly (Some no_memory) allowed n left h = inr (tt, h)
takes_exactly (Some (entry w x)) allowed n left h = inl h
takes_exactly (Some (fault NotFound p d)) allowed n left h = inr (tt, h)
takes_exactly (Some (fault NotAFolder p d)) allowed n left h = inr (tt, h)
takes_exactly (Some (fault Listing p d)) allowed n left h = inl h
takes_exactly (Some (fault BadName p d)) allowed n left h = inl h
takes_exactly (Some (fault NotText p d)) allowed n left h = inl h
takes_exactly (Some (fault Budget p d)) allowed n left h = inl (omega (arith, h.0, h.1))

-- no more is taken and left than was allowed
pub takes_within : (r : Option Given) (allowed n left : ℕ) → Takes r allowed n left → n + left ≤ allowed
takes_within r allowed n left h =
    elim (takes_exactly r allowed n left h) [ inl e ↦ omega (arith, e) | inr e ↦ e.1 ]

pub grown_then : (n k a b c : ℕ) → b ≡ grown n a → c ≡ grown k b → c ≡ grown (n + k) a
grown_then n k a b c h i = omega (arith, h, i)

-- faults are counted, and then others
pub counts_faults_then : (n k : Tally) (l m : ℕ) (a b c : _) → CountsFaults n l a b → CountsFaults k m b c
    → CountsFaults (plus n k) (l + m) a c
counts_faults_then n k l m a b c h i = record {
  misses = grown_then n.misses k.misses _ _ _ h.misses i.misses;
  leaves = omega (arith, h.leaves, i.leaves);
  failures_lost = h.failures_lost + i.failures_lost;
  failures = omega (arith, h.failures, i.failures);
  names_lost = h.names_lost + i.names_lost;
  bad_names = omega (arith, h.bad_names, i.bad_names);
  within = omega (arith, h.within, i.within);
}

pub counts_none_then : (k : Tally) (m : ℕ) (a b c : _) → CountsFaults no_counts 0 a b → CountsFaults k m b c
    → CountsFaults k m a c
counts_none_then k m a b c h i = record {
  misses = omega (arith, h.misses, i.misses);
  leaves = omega (arith, h.leaves, i.leaves);
  failures_lost = i.failures_lost;
  failures = omega (arith, h.failures, h.within, i.failures);
  names_lost = i.names_lost;
  bad_names = omega (arith, h.bad_names, h.within, i.bad_names);
  within = i.within;
}

pub counts_then_none : (k : Tally) (m : ℕ) (a b c : _) → CountsFaults k m a b → CountsFaults no_counts 0 b c
    → CountsFaults k m a c
counts_then_none k m a b c h i = record {
  misses = omega (arith, h.misses, i.misses);
  leaves = omega (arith, h.leaves, i.leaves);
  failures_lost = h.failures_lost;
  failures = omega (arith, h.failures, i.within, i.failures);
  names_lost = h.names_lost;
  bad_names = omega (arith, h.bad_names, i.within, i.bad_names);
  within = h.within;
}

pub counts_nothing : (t : Tally) → CountsFaults no_counts 0 t t
counts_nothing t = record {
  misses = omega arith;
  leaves = omega arith;
  failures_lost = 0;
  failures = omega arith;
  names_lost = 0;
  bad_names = omega arith;
  within = omega arith;
}

-- a walk that does nothing
pub accounts_nothing : {D C : Type 0} (law : Law D C) (v : WalkView D) → Accounts law v None v
accounts_nothing law v = record {
  counts = counts_nothing (law.tally v.directory);
  taken = 0;
  takes = omega arith;
  counted = omega arith;
  passed = 0;
  passes = λ i. refl;
  refused = 0;
  refuses = omega arith;
  gives = λ n. omega arith;
  going = λ n i. i;
  folders = 0;
  folders_passed = omega arith;
  opened = 0;
  opened_is = omega arith;
  ended = 0;
  ended_is = omega arith;
  opens = λ n. omega arith;
  closes = λ n. omega arith;
  ends = λ i. absurd i;
}

-- ---- filters

-- what the view of a filter takes from the view of the walk inside, before a call and after it
pub record IsAsked {D : Type 0} (outer inner : WalkView D) : Type 0 where
  pub directory : outer.directory ≡ inner.directory
  pub listings_left : outer.listings_left ≡ inner.listings_left
  pub names_left : outer.names_left ≡ inner.names_left
  pub to_begin : outer.to_begin ≡ inner.to_begin
  pub listings_open : outer.listings_open ≡ inner.listings_open
  pub to_open : outer.to_open ≡ inner.to_open
  pub yields_from : outer.yields_from ≡ inner.yields_from
  pub may_fail : (path : List ℕ) (depth : ℕ) → MayFail inner path depth → MayFail outer path depth
  pub ended : outer.has_ended → inner.has_ended
  pub idle : outer.is_idle → inner.is_idle

pub record HasAnswered {D : Type 0} (outer inner : WalkView D) : Type 0 where
  pub directory : outer.directory ≡ inner.directory
  pub listings_left : outer.listings_left ≡ inner.listings_left
  pub names_left : outer.names_left ≡ inner.names_left
  pub to_begin : outer.to_begin ≡ inner.to_begin
  pub listings_open : outer.listings_open ≡ inner.listings_open
  pub yields_from : outer.yields_from ≡ inner.yields_from
  pub may_fail : (path : List ℕ) (depth : ℕ) → outer.may_fail path depth → inner.may_fail path depth
  pub ended : inner.has_ended → outer.has_ended
  pub idle : inner.is_idle → outer.is_idle

-- what a filter makes of an item ends the walk where the item did
pub last_marked : (x : Given) (m : Mark) → IsLast (Some x) → IsLast (Some (with_mark x m))
last_marked (entry k f) m i = absurd i
last_marked (fault kind path depth) m i = i
last_marked no_memory m i = i

misplaced_marked : (x : Given) (m : Mark) → IsMisplaced (Some (with_mark x m)) → IsMisplaced (Some x)
misplaced_marked (entry k f) m i = absurd i
misplaced_marked (fault kind path depth) m i = i
misplaced_marked no_memory m i = absurd i

-- a folder is to be opened as before if a filter doesn't cancel below it
pub opened_uncut : (opens : Facts → Bool) (x : Given) (m : Mark) → false ≡ is_cut x m
    → opens_one opens (Some (with_mark x m)) ≡ opens_one opens (Some x)
opened_uncut opens (entry kept f) kept c = refl
opened_uncut opens (entry kept f) alone c = refl
opened_uncut opens (entry kept f) with_tree c = absurd (let b : false ≡ true = c in (cc))
opened_uncut opens (entry alone f) kept c = refl
opened_uncut opens (entry alone f) alone c = refl
opened_uncut opens (entry alone f) with_tree c = absurd (let b : false ≡ true = c in (cc))
opened_uncut opens (entry with_tree f) m c = refl
opened_uncut opens (fault kind path depth) m c = refl
opened_uncut opens no_memory m c = refl

-- a folder below which a filter cancels isn't to be opened
pub opened_cut : (opens : Facts → Bool) (x : Given) (m : Mark) → true ≡ is_cut x m
    → opens_one opens (Some (with_mark x m)) ≡ 0
opened_cut opens (entry kept f) kept c = absurd (let b : true ≡ false = c in (cc))
opened_cut opens (entry kept f) alone c = absurd (let b : true ≡ false = c in (cc))
opened_cut opens (entry kept f) with_tree c = refl
opened_cut opens (entry alone f) kept c = absurd (let b : true ≡ false = c in (cc))
opened_cut opens (entry alone f) alone c = absurd (let b : true ≡ false = c in (cc))
opened_cut opens (entry alone f) with_tree c = refl
opened_cut opens (entry with_tree f) m c = absurd (let b : true ≡ false = c in (cc))
opened_cut opens (fault kind path depth) m c = absurd (let b : true ≡ false = c in (cc))
opened_cut opens no_memory m c = absurd (let b : true ≡ false = c in (cc))

-- the account of y is that of x
pub record IsAs (x y : Option Given) : Type 0 where
  pub counts : fault_counts y ≡ fault_counts x
  pub lost : items_lost y ≡ items_lost x
  pub many : how_many y ≡ how_many x
  pub takes : (allowed n left : ℕ) → Takes x allowed n left → Takes y allowed n left
  pub lacks : IsMemoryError x → IsMemoryError y
  pub last : IsLast x → IsLast y
  pub last_only : IsLast y → IsLast x

same_as : (x : Option Given) → IsAs x x
same_as x = record {
  counts = refl;
  lost = refl;
  many = refl;
  takes = λ a n l t. t;
  lacks = λ i. i;
  last = λ i. i;
  last_only = λ i. i;
}

-- a filter changes no fault
marked_as : (x : Given) (m : Mark) → IsAs (Some x) (Some (with_mark x m))
marked_as (entry k f) m = record {
  counts = refl;
  lost = refl;
  many = refl;
  takes = λ a n l t. t;
  lacks = λ i. i;
  last = λ i. i;
  last_only = λ i. i;
}
marked_as (fault kind path depth) m = same_as _
marked_as no_memory m = same_as _

error_marked : (path : List ℕ) (depth : ℕ) (x : Given) (m : Mark)
    → IsErrorAt path depth (Some (with_mark x m))
    → IsErrorAt path depth (Some x)
error_marked path depth (entry k f) m i = absurd i
error_marked path depth (fault kind p d) m i = i
error_marked path depth no_memory m i = absurd i

-- a folder stays one if a filter doesn't cancel below it
pub folder_uncut : (opens : Facts → Bool) (path : List ℕ) (depth : ℕ) (x : Given) (m : Mark)
    → false ≡ is_cut x m
    → IsFolderAt opens path depth (Some x) → IsFolderAt opens path depth (Some (with_mark x m))
folder_uncut opens path depth (entry kept f) kept c i = i
folder_uncut opens path depth (entry kept f) alone c i = i
folder_uncut opens path depth (entry kept f) with_tree c i = cc
folder_uncut opens path depth (entry alone f) kept c i = i
folder_uncut opens path depth (entry alone f) alone c i = i
folder_uncut opens path depth (entry alone f) with_tree c i = cc
folder_uncut opens path depth (entry with_tree f) m c i = i
folder_uncut opens path depth (fault kind p d) m c i = absurd i
folder_uncut opens path depth no_memory m c i = absurd i

-- a filter moves no error
places_marked : {D : Type 0} (v w outer new : WalkView D) (x : Given) (m : Mark) → Places v (Some x) w
    → IsAsked outer v → HasAnswered new w
    → ((path : List ℕ) (depth : ℕ) → new.may_fail_below path depth
    → IsFolderAt outer.may_open path depth (Some (with_mark x m)))
    → Places outer (Some (with_mark x m)) new
places_marked v w outer new x m f b a below = record {
  item = λ path depth i. b.may_fail path depth (f.item path depth (error_marked path depth x m i));
  later = λ path depth i. b.may_fail path depth (f.later path depth (a.may_fail path depth i));
  below = below;
}

module _ {D C : Type 0} (law : Law D C) where
  pub accounts_moved : (v w outer new : WalkView D) (x y : Option Given) → IsAs x y → (h : Accounts law v x w)
      → IsAsked outer v → HasAnswered new w → (¬ (IsMemoryError y)
      → h.opened + new.to_open ≡ outer.to_open + (h.folders + opens_one outer.may_open y))
      → Accounts law outer y new
  accounts_moved v w outer new x y s h b a opens =
      let C : Tally → ℕ → Type 0 = λ n lost. CountsFaults n lost (law.tally v.directory)
      (law.tally w.directory) in
      let A : D → Type 0 = λ d. CountsFaults (fault_counts y) (items_lost y) (law.tally d)
      (law.tally w.directory) in
      let B : D → Type 0 = λ d. CountsFaults (fault_counts y) (items_lost y) (law.tally outer.directory)
      (law.tally d) in
      let A' : D → Type 0 = λ d. (law.tally w.directory).items ≡ grown h.taken (law.tally d).items in
      let B' : D → Type 0 = λ d. (law.tally d).items ≡ grown h.taken (law.tally outer.directory).items in
      let OA : D → Type 0 = λ d. (law.tally w.directory).opened ≡ grown h.opened (law.tally d).opened in
      let OB : D → Type 0 = λ d. (law.tally d).opened ≡ grown h.opened (law.tally outer.directory).opened in
      let EA : D → Type 0 = λ d. (law.tally w.directory).ended ≡ grown h.ended (law.tally d).ended in
      let EB : D → Type 0 = λ d. (law.tally d).ended ≡ grown h.ended (law.tally outer.directory).ended in
      let L : ℕ → Type 0 = λ n. Takes y n h.taken w.listings_left in
      let M : ℕ → Type 0 = λ n. Takes y outer.listings_left h.taken n in
      let F : Tally → Type 0 = λ n. h.refused ≤ n.failures in
      record {
        counts = subst B (sym a.directory) (subst A (sym b.directory)
            (subst (λ lost. C (fault_counts y) lost) (sym s.lost)
            (subst (λ n. C n (items_lost x)) (sym s.counts) h.counts)));
        taken = h.taken;
        takes = subst M (sym a.listings_left) (subst L (sym b.listings_left)
            (s.takes v.listings_left h.taken w.listings_left h.takes));
        counted = subst B' (sym a.directory) (subst A' (sym b.directory) h.counted);
        passed = h.passed;
        passes = λ e. h.passes (sym b.yields_from ∙ e);
        refused = h.refused;
        refuses = subst F (sym s.counts) h.refuses;
        gives = λ n. omega (arith, h.gives (λ i. n (s.lacks i)), s.many, b.to_begin, a.to_begin);
        going = λ n i. omega (
          arith,
          h.going (λ l. n (s.last l)) (omega (arith, i, b.listings_left)),
          a.listings_left,
        );
        folders = h.folders;
        folders_passed = h.folders_passed;
        opened = h.opened;
        opened_is = subst OB (sym a.directory) (subst OA (sym b.directory) h.opened_is);
        ended = h.ended;
        ended_is = subst EB (sym a.directory) (subst EA (sym b.directory) h.ended_is);
        opens = opens;
        closes = λ n. omega (arith, h.closes (λ l. n (s.last l)), b.listings_open, a.listings_open);
        ends = λ i. a.ended (h.ends (s.last_only i));
      }

  -- ---- the steps of a filter, by those of the walk

  -- the proof of what is to come is passed in
  module _ (v w outer new : WalkView D) (b : IsAsked outer v) (a : HasAnswered new w) where
    idles_moved : (r : Option Given) → FeedStep law v r w → outer.is_idle
        → new.is_idle × (new.directory ≡ outer.directory)
    idles_moved r f i =
        let idles = f.idles (b.idle i) in
        (a.idle idles.0, a.directory ∙ (idles.1 ∙ sym b.directory))

    -- the filter made the same calls
    answered_moved : (calls : List DirectoryCall)
        → law.answered w.directory ≡ law.answered v.directory ++ answers calls
        → law.answered new.directory ≡ law.answered outer.directory ++ answers calls
    answered_moved calls e = ap law.answered a.directory
        ∙ (e ∙ ap (λ d. law.answered d ++ answers calls) (sym b.directory))

    -- and took as many items
    spends_moved : (x y : Option Given) → IsAs x y → (n : ℕ) → Takes x v.listings_left n w.listings_left
        → Takes y outer.listings_left n new.listings_left
    spends_moved x y s n t =
        let L : ℕ → Type 0 = λ k. Takes y k n w.listings_left in
        let M : ℕ → Type 0 = λ k. Takes y outer.listings_left n k in
        subst M (sym a.listings_left)
        (subst L (sym b.listings_left) (s.takes v.listings_left n w.listings_left t))

    pub step_ends : (f : FeedStep law v None w) → new.may_open ≡ outer.may_open → new.to_open ≡ 0
        → ((path : List ℕ) (depth : ℕ) → new.may_fail_below path depth → w.may_fail_below path depth)
        → ((p : Pending Given) → outer.to_come p → GivesOrStops outer p None new)
        → MayTake outer (asking f.calls unknown) → Follows outer f.calls None new
        → FeedStep law outer None new
    step_ends f above none below gives begins follows = record {
      gives = gives;
      calls = f.calls;
      answered = answered_moved f.calls f.answered;
      spends = spends_moved None None (same_as None) (items_listed (answers f.calls)) f.spends;
      begins = begins;
      follows = follows;
      accounts = accounts_moved v w outer new None None (same_as None) f.accounts b a
          (λ n. omega (arith, f.accounts.opens n, f.to_open, none, b.to_open));
      at_end = λ e. a.ended (f.at_end e);
      closed = λ e. omega (arith, f.closed e, a.listings_open);
      begun = λ e. omega (arith, f.begun e, a.to_begin);
      from = a.yields_from ∙ (f.from ∙ sym b.yields_from);
      to_open = none;
      above = above;
      stays = λ e. let s = f.stays (b.ended e) in (s.0, a.ended s.1);
      idles = idles_moved None f;
      names = omega (arith, f.names, a.names_left, b.names_left);
      misplaced = λ i. absurd i;
      places = record {
        item = λ path depth i. absurd i;
        later = λ path depth i. b.may_fail path depth (f.places.later path depth (a.may_fail path depth i));
        below = λ path depth i. absurd (f.places.below path depth (below path depth i));
      };
    }

    pub step_marked : (x y : Given) (m : Mark) → y ≡ with_mark x m → (f : FeedStep law v (Some x) w)
        → new.may_open ≡ outer.may_open → new.to_open ≡ opens_one outer.may_open (Some y)
        → ((path : List ℕ) (depth : ℕ) → new.may_fail_below path depth
        → IsFolderAt outer.may_open path depth (Some (with_mark x m)))
        → ((p : Pending Given) → outer.to_come p → GivesOrStops outer p (Some y) new)
        → MayTake outer (asking f.calls unknown) → Follows outer f.calls (Some y) new
        → FeedStep law outer (Some y) new
    step_marked x y m e f above opens below gives begins follows =
        let A : Given → Type 0 = λ z. IsAs (Some x) (Some z) in
        let M : Given → Type 0 = λ z. IsMisplaced (Some z) → 0 < v.names_left in
        record {
          gives = gives;
          calls = f.calls;
          answered = answered_moved f.calls f.answered;
          spends = spends_moved (Some x) (Some y) (subst A (sym e) (marked_as x m))
              (items_listed (answers f.calls)) f.spends;
          begins = begins;
          follows = follows;
          accounts =
              let alike = subst A (sym e) (marked_as x m) in
              accounts_moved v w outer new (Some x) (Some y) alike f.accounts b a
              (λ n. omega (arith, f.accounts.opens (λ i. n (alike.lacks i)), f.to_open, opens, b.to_open));
          at_end = λ i. (cc);
          closed = λ i. (cc);
          begun = λ i. (cc);
          from = a.yields_from ∙ (f.from ∙ sym b.yields_from);
          to_open = opens;
          above = above;
          stays = λ i. let s : Some x ≡ None = (f.stays (b.ended i)).0 in absurd (cc);
          idles = idles_moved (Some x) f;
          names = omega (arith, f.names, a.names_left, b.names_left);
          misplaced = λ i. omega (
            arith,
            subst M (sym e) (λ j. f.misplaced (misplaced_marked x m j)) i,
            b.names_left,
          );
          places = subst (λ z. Places outer (Some z) new) (sym e)
              (places_marked v w outer new x m f.places b a below);
        }
