-- A walk when it is made, and if allocation failed for its start.
use Rattle.std.proofs.Common.{◌≡◌, ℕ, ◌+◌, ◌-◌, ◌^◌, ◌<◌, ◌≤◌, length, true, false, List, [], ◌∷◌, ◌++◌, refl}
use Rattle.std.proofs.Common.{sym, ap, subst, ◌∙◌, arith, inl, inr, string_bytes, length-append}
use Rattle.std.proofs.lemmas.List.{append-nil}
use Rattle.std.specs.{Prelude.{Option, Some, None, String}, declared.alloc.Global.Global}
use Rattle.wax_directory.specs.{Law.Law, History.found}
use Rattle.wax_directory.specs.Shown.{Shown, a_folder, a_leaf, a_sealed, failing, missing}
use Rattle.wax_walk.specs.Forest.{Forest, nothing, item, lists, Pending, pending, all_pending, FirstIs}
use Rattle.wax_walk.specs.Given.{Given, no_memory}
use Rattle.wax_walk.specs.Course.{Ahead, DirectoryCall, Course, ahead, all_ahead, asking, asks, call}
use Rattle.wax_walk.specs.Course.{continued, stop, unknown, yields}
use Rattle.wax_walk.specs.View.{Follows, MayTake, ended_so, was_cut, went_on, WalkView, GivesOrStops}
use Rattle.wax_walk.specs.View.{lacks_memory, over_budget, gives, FeedStep}
use Rattle.wax_walk.proofs.Courses.{begins_trans}
use Rattle.wax_tree.specs.{declared.steps.StartPoint.StartPoint, declared.steps.DepthRange.DepthRange}
use Rattle.wax_tree.specs.{declared.steps.Steps.Steps, declared.walk_tree.WalkTree.WalkTree}
use Rattle.wax_tree.specs.Begins.{Begins, BeginsAt, FailsFrom, FailsNowhere, HasEnded, LacksMemory, Origin}
use Rattle.wax_tree.specs.Begins.{OriginTakes, StartTakes, along, beyond, lacking, lacking_start, scope_in}
use Rattle.wax_tree.specs.Begins.{walks}
use Rattle.wax_tree.specs.Courses.{AlongComes, IsNamed, entry_course, is_failing, is_missing, is_there}
use Rattle.wax_tree.specs.Courses.{place_course}
use Rattle.wax_tree.specs.Lacking.{AheadUnlessLacking, MayCome, lacks, goes, tree_view}
use Rattle.wax_tree.specs.Plain.{HasKind, Location, WalkScope, count_shown, start_location}
use Rattle.wax_tree.specs.Prefix.{ArePlain, from_last, walk_from}
use Rattle.wax_tree.specs.Walking.{EnteredComes, FirstComes, LevelsCome, MayBeAhead, PlainToCome, allowance}
use Rattle.wax_tree.specs.Walking.{scope_of, steps_view, located}
use Rattle.wax_tree.proofs.Coursing.{goes_ahead, rests_ahead}
use Rattle.wax_walk.specs.Course as course

module _ {D C : Type 0} (law : Law D C) where
  made_comes : (w : Steps D C) (place : StartPoint) (s : Shown) (listed : List (List ℕ))
      → w.first ≡ Some place
      → w.entered ≡ None → w.levels.items ≡ [] → w.has_ended ≡ false
      → law.shows w.directory place.at.path.path s → ArePlain (from_last place.names.items)
      → place.at.depth + length place.names.items ≤ 2 ^ 64 - 1 → law.tells w.directory listed
      → law.holds w.directory [] []
      → PlainToCome law w (pending nothing
      (walk_from (scope_of w) (located place.at) s (from_last place.names.items) nothing) listed
      (count_shown s))
  made_comes w place s listed e n l f h p d told held = record {
    has = [];
    back = nothing;
    of_first = count_shown s;
    of_entered = 0;
    of_levels = 0;
    first = rw e (s, h, p, d, omega arith, refl);
    entered = rw n (refl, refl);
    levels = rw l (refl, refl);
    held = rw l held;
    few = omega arith;
    alone = rw (e, n, l) (refl, refl);
    told = told;
    opened = rw l tt;
    ended = λ t. absurd (let b : true ≡ false = sym t ∙ f in (cc));
  }

  pub made_at : (w : Steps D C) (place : StartPoint) (at : Location) (names : List (String Global))
      (s : Shown) (listed : List (List ℕ)) → w.first ≡ Some place → w.entered ≡ None → w.levels.items ≡ []
      → w.has_ended ≡ false → located place.at ≡ at → place.names.items ≡ names
      → law.shows w.directory at.path s → ArePlain (from_last names) → at.depth + length names ≤ 2 ^ 64 - 1
      → law.tells w.directory listed → law.holds w.directory [] []
      → PlainToCome law w (pending nothing
      (walk_from (scope_of w) at s (from_last names) nothing) listed (count_shown s))
  made_at w place at names s listed e n l f here i h plain fits told held =
      let long : length place.names.items ≡ length names = ap length i in
      let d : place.at.depth ≡ at.depth = ap (λ v. v.depth) here in
      let q : place.at.path.path ≡ at.path = ap (λ v. v.path) here in
      subst (λ v. PlainToCome law w (pending nothing v listed (count_shown s)))
      (λ j. walk_from (scope_of w) (here j) s (from_last (i j)) nothing)
      (made_comes w place s listed e n l f (subst (λ v. law.shows w.directory v s) (sym q) h)
      (subst (λ v. ArePlain (from_last v)) (sym i) plain) (omega (arith, d, fits, long)) told held)

  pub made_nothing : (w : Steps D C) (listed : List (List ℕ)) → w.first ≡ None → w.entered ≡ None
      → w.levels.items ≡ [] → law.tells w.directory listed → law.holds w.directory [] []
      → PlainToCome law w (pending nothing nothing listed 0)
  made_nothing w listed e n l told held = record {
    has = [];
    back = nothing;
    of_first = 0;
    of_entered = 0;
    of_levels = 0;
    first = rw e (refl, refl);
    entered = rw n (refl, refl);
    levels = rw l (refl, refl);
    held = rw l held;
    few = omega arith;
    alone = rw e tt;
    told = told;
    opened = rw l tt;
    ended = λ t. (refl, refl);
  }

  first_known : (then new : Pending Given → Type 0) (a : (q : Pending Given) → then q → new q)
      (p : Pending Given) (items : ℕ) (r : Option Given) → FirstIs then (all_pending p) p.listed items r
      → FirstIs new (all_pending p) p.listed items r
  first_known then new a p items r h = go (all_pending p) p.listed h where
    go : (f : Forest Given) (listed : List (List ℕ)) → FirstIs then f listed items r
        → FirstIs new f listed items r
    go nothing listed h = (h.0, a _ h.1)
    go (item x below after) listed h = (h.0, a _ h.1)
    go (lists path after) listed h = go after (listed ++ path ∷ []) h

  goes_on : (w v : WalkTree D C) (p : Pending Given) (r : Option Given) → v.lacks_memory ≡ false
      → GivesOrStops (steps_view law w.steps) p r (steps_view law v.steps)
      → GivesOrStops (tree_view law w) p r (tree_view law v)
  goes_on w v p r d (lacks_memory e) = lacks_memory e
  goes_on w v p r d (over_budget path depth e few h) = over_budget path depth e few h
  goes_on w v p r d (gives items few first) =
      gives items few (first_known (PlainToCome law v.steps) (MayCome law v) (λ q i. goes d i) p items r
      first)

  -- where no memory is lacked
  taken : (w : WalkTree D C) → w.lacks_memory ≡ false → (c : Course) → MayTake (steps_view law w.steps) c
      → MayTake (tree_view law w) c
  taken w e c t =
      (t.0, subst (λ b. AheadUnlessLacking b (MayBeAhead w.steps t.0) t.0) (sym e) t.1, t.2)

  followed : (w v : WalkTree D C) (r : Option Given) (calls : List DirectoryCall) → w.lacks_memory ≡ false
      → v.lacks_memory ≡ false → Follows (steps_view law w.steps) calls r (steps_view law v.steps)
      → Follows (tree_view law w) calls r (tree_view law v)
  followed w v r calls e d (went_on x i f) = went_on x i (λ a c m b.
      let n = subst (λ b. AheadUnlessLacking b (MayBeAhead v.steps a) a) d m in
      taken w e (asking calls c) (f a c n b))
  followed w v r calls e d (ended_so i t) = ended_so i (taken w e (asking calls stop) t)
  followed w v r calls e d (was_cut x i s ended idle) = was_cut x i s (d, ended) (inr idle)

  -- a call of `feed` where no memory is lacked
  pub fed_on : (w v : WalkTree D C) (r : Option Given) → w.lacks_memory ≡ false → v.lacks_memory ≡ false
      → FeedStep law (steps_view law w.steps) r (steps_view law v.steps) → FeedStep law (tree_view law w) r
      (tree_view law v)
  fed_on w v r e d f = record {
    gives = λ p c. known p c;
    calls = f.calls;
    answered = f.answered;
    spends = f.spends;
    begins = taken w e (asking f.calls unknown) f.begins;
    follows = followed w v r f.calls e d f.follows;
    accounts = record {
      counts = f.accounts.counts;
      taken = f.accounts.taken;
      takes = f.accounts.takes;
      counted = f.accounts.counted;
      passed = f.accounts.passed;
      passes = f.accounts.passes;
      refused = f.accounts.refused;
      refuses = f.accounts.refuses;
      gives = f.accounts.gives;
      going = f.accounts.going;
      folders = f.accounts.folders;
      folders_passed = f.accounts.folders_passed;
      opened = f.accounts.opened;
      opened_is = f.accounts.opened_is;
      ended = f.accounts.ended;
      ended_is = f.accounts.ended_is;
      opens = f.accounts.opens;
      closes = f.accounts.closes;
      ends = λ i. (d, f.accounts.ends i);
    };
    at_end = λ i. (d, f.at_end i);
    closed = f.closed;
    begun = f.begun;
    from = f.from;
    to_open = f.to_open;
    above = f.above;
    stays = λ i. ((f.stays i.1).0, (d, (f.stays i.1).1));
    idles = λ i. elim i [
      | inl failed ↦ absurd (let b : true ≡ false = sym failed ∙ e in (cc))
      | inr stopped ↦ (inr (f.idles stopped).0, (f.idles stopped).1)
    ];
    names = f.names;
    misplaced = f.misplaced;
    places = record { item = f.places.item; later = f.places.later; below = f.places.below };
  } where
    known : (p : Pending Given) → MayCome law w p → GivesOrStops (tree_view law w) p r (tree_view law v)
    known p (lacks t told) = absurd (let b : true ≡ false = sym t ∙ e in (cc))
    known p (goes t c) = goes_on w v p r d (f.gives p c)

lacking_takes : {D C : Type 0} (law : Law D C) (w : WalkTree D C) → w.lacks_memory ≡ true → (c : Course)
    → course.IsStartOf c (yields no_memory stop stop) → MayTake (tree_view law w) c
lacking_takes law w e c b = (
  ahead stop c,
  subst (λ b. AheadUnlessLacking b (MayBeAhead w.steps (ahead stop c)) (ahead stop c)) (sym e) (refl, b),
  refl,
)

-- a call of `feed` where memory was lacked for the start
pub lacking_fed : {D C : Type 0} (law : Law D C) (w : WalkTree D C) → w.lacks_memory ≡ true
    → FeedStep law (tree_view law w) (Some no_memory)
    (tree_view law (record w { lacks_memory = false; steps = record w.steps { has_ended = true } }))
lacking_fed law w e = record {
  gives = λ p h. lacks_memory refl;
  calls = [];
  answered = sym (append-nil (law.answered w.steps.directory));
  spends = let t : 0 + 0 ≤ allowance w.steps = omega arith in t;
  begins = lacking_takes law w e unknown tt;
  follows = went_on no_memory refl (λ a c m b.
      let none : m.0 ≡ ahead stop stop = m.1 in
      let below = subst (course.IsStartOf a.below) (ap (λ (v : Ahead). v.below) none) m.2 in
      let after = subst (course.IsStartOf a.after) (ap (λ (v : Ahead). v.after) none) m.3 in
      lacking_takes law w e
      c (begins_trans c (yields no_memory a.below a.after) (yields no_memory stop stop) b
      (stop, stop, refl, below, after)));
  accounts = record {
    counts = record {
      misses = omega arith;
      leaves = omega arith;
      failures_lost = 0;
      failures = omega arith;
      names_lost = 0;
      bad_names = omega arith;
      within = omega arith;
    };
    taken = 0;
    takes = omega arith;
    counted = omega arith;
    passed = 0;
    passes = λ i. refl;
    refused = 0;
    refuses = omega arith;
    gives = λ n. absurd (n tt);
    going = λ n. absurd (n tt);
    folders = 0;
    folders_passed = omega arith;
    opened = 0;
    opened_is = omega arith;
    ended = 0;
    ended_is = omega arith;
    opens = λ n. absurd (n tt);
    closes = λ n. absurd (n tt);
    ends = λ i. (refl, inl refl);
  };
  at_end = λ i. (cc);
  closed = λ i. (cc);
  begun = λ i. (cc);
  from = refl;
  to_open = refl;
  above = refl;
  stays = λ i. absurd (let b : true ≡ false = sym e ∙ i.0 in (cc));
  idles = λ i. (inr (inl refl), refl);
  names = omega arith;
  misplaced = λ i. absurd i;
  places = record {
    item = λ path depth i. absurd i;
    later = λ path depth i. absurd (let b : true ≡ false = i.0 in (cc));
    below = λ path depth i. absurd (let b : true ≡ false = i.0 in (cc));
  };
}

-- ---- what it may take

begins_after : (b a d : Course) → course.IsStartOf b stop → course.IsStartOf a d
    → course.IsStartOf (continued b a) d
begins_after stop a d h i = i
begins_after unknown a d h i = tt
begins_after (asks q b) a d h i = absurd (let e : stop ≡ asks q h.0 = h.1 in (cc))
begins_after (yields x b e) a d h i = absurd (let e : stop ≡ yields x h.0 h.1 = h.2 in (cc))

-- what begins what is ahead of a walk that takes nothing below
begins_taken : (a : Ahead) (c b d : Course) → all_ahead a ≡ c → course.IsStartOf a.below b → b ≡ stop
    → course.IsStartOf a.after d → course.IsStartOf c d
begins_taken a c b d e h i k = subst (λ z. course.IsStartOf z d) e
    (begins_after a.below a.after d (subst (course.IsStartOf a.below) i h) k)

module _ {D C : Type 0} (law : Law D C) where
  pub made_takes : (w : Steps D C) (place : StartPoint) (at : Location) (c : Course)
      → w.first ≡ Some place → w.levels.items ≡ [] → w.has_ended ≡ false → located place.at ≡ at
      → MayTake (steps_view law w) c
      → (d : Course) × AlongComes (scope_of w) (from_last place.names.items) at stop d
      × course.IsStartOf c d
  made_takes w place at c first levels going here t =
      let b = t.1 in
      let g = goes_ahead w b.0 going b.1 in
      let scope = scope_of w in
      let below : b.0.below ≡ stop = subst (λ f. EnteredComes scope f w.entered b.0.below) first g.entered in
      let back : g.back ≡ stop = subst (λ ls. LevelsCome scope ls g.back) levels g.levels in
      let along : AlongComes scope (from_last place.names.items) (located place.at) g.back b.0.after =
      subst (λ f. FirstComes scope f g.back b.0.after) first g.first in
      let names = from_last place.names.items in
      let some : AlongComes scope names at stop b.0.after =
      subst (λ z. AlongComes scope names at z b.0.after) back
      (subst (λ z. AlongComes scope names z g.back b.0.after) here along) in (
        b.0.after,
        some,
        begins_taken t.0 c b.0.below b.0.after t.2 b.2 below b.3,
      )

  pub none_takes : (w : Steps D C) (c : Course) → w.first ≡ None → w.entered ≡ None → w.levels.items ≡ []
      → w.has_ended ≡ false → MayTake (steps_view law w) c → course.IsStartOf c stop
  none_takes w c first entered levels going t =
      let b = t.1 in
      let r = rests_ahead w b.0 going first entered b.1 in
      let after : b.0.after ≡ stop = subst (λ ls. LevelsCome (scope_of w) ls b.0.after) levels r.1 in
      begins_taken t.0 c b.0.below stop t.2 b.2 r.0 (subst (course.IsStartOf t.0.after) after b.3)

  pub lacks_takes : (w : WalkTree D C) (c : Course) → w.lacks_memory ≡ true → MayTake (tree_view law w) c
      → course.IsStartOf c (yields no_memory stop stop)
  lacks_takes w c e t =
      let b = subst (λ b. AheadUnlessLacking b (MayBeAhead w.steps t.0) t.0) e t.1 in
      begins_taken t.0 c stop (yields no_memory stop stop) t.2 b.0 refl b.1

-- without names it is the course of what is at the start
pub along_plain : (scope : WalkScope) (at : Location) (after c : Course) → AlongComes scope [] at after c
    → (s : Shown) × IsNamed s × (c ≡ place_course scope at s after)
along_plain scope at after c (is_there kind d h e) = go h.0 h.1 h.2 h.3 where
  go : (s : Shown) → IsNamed s → HasKind s kind → d ≡ entry_course scope at kind s after
      → (s : Shown) × IsNamed s × (c ≡ place_course scope at s after)
  go (a_leaf link) n k i = (
    a_leaf link,
    tt,
    e ∙ (ap (asks (call at.path (found at.path kind))) i
        ∙ ap (λ z. asks (call at.path (found at.path z)) (entry_course scope at z (a_leaf link) after)) k),
  )
  go (a_folder l) n k i = (
    a_folder l,
    n,
    e ∙ (ap (asks (call at.path (found at.path kind))) i
        ∙ ap (λ z. asks (call at.path (found at.path z)) (entry_course scope at z (a_folder l) after)) k),
  )
  go a_sealed n k i = (
    a_sealed,
    tt,
    e ∙ (ap (asks (call at.path (found at.path kind))) i
        ∙ ap (λ z. asks (call at.path (found at.path z)) (entry_course scope at z a_sealed after)) k),
  )
  go missing n k i = absurd k
  go failing n k i = absurd k
along_plain scope at after c (is_missing e) = (missing, tt, e)
along_plain scope at after c (is_failing e) = (failing, tt, e)

start_takes : (range : DepthRange) (start : List ℕ) (names : List (List ℕ)) (c : Course) → names ≡ []
    → OriginTakes (record { root = start; path = start; candidate = []; names = names }) range c
    → StartTakes (scope_in range) start c
start_takes range start names c e (along least fits d h b) =
    let p = along_plain (scope_in range) (start_location start) stop d
    (subst (λ ns. AlongComes (scope_in range) ns (start_location start) stop d) e h) in
    walks p.0 p.1 (subst (course.IsStartOf c) p.2 b)
start_takes range start names c e (lacking b) = lacking_start b
start_takes range start names c e (beyond l b) =
    absurd (let z : length names ≡ 0 = ap length e in omega (arith, z, l))

-- a walk of which no error can come
fails_as_from : {D : Type 0} (least : ℕ) (start : List ℕ) (way : List (List ℕ)) (view : WalkView D)
    → FailsNowhere view → FailsFrom least start way view
fails_as_from least start way view h = record {
  at = λ path depth i. absurd (h.at path depth i);
  below = h.below;
}

-- where there are more names than the greatest depth, nothing comes
pub ended_at : {D C : Type 0} (law : Law D C) (d : D) (origin : Origin)
    (range : DepthRange) (view : WalkView D)
    → HasEnded law d range view → range.max < length origin.names → BeginsAt law d origin range view
ended_at law d origin range view h l = record {
  shown = λ s listed k told p m. absurd (omega (arith, l, m));
  beyond = λ s listed k told m. h.comes origin.path s listed k told;
  takes = λ c t. beyond l (h.takes c t);
  above = λ m. h.ended;
  idle = λ m. h.idle;
  listings = h.listings;
  names = omega (arith, h.names);
  none_listed = h.none_listed;
  begun = inr (h.idle, h.begun, inl l);
  none_to_open = h.none_to_open;
  yields_from = h.yields_from;
  may_open = h.may_open;
  fails = fails_as_from range.min origin.path origin.names view h.fails;
  directory = h.directory;
}

-- a walk for whose start allocation failed begins as any walk does
pub lacking_at : {D C : Type 0} (law : Law D C) (d : D) (origin : Origin)
    (range : DepthRange) (view : WalkView D)
    → LacksMemory law d range view → length origin.names ≤ range.max → BeginsAt law d origin range view
lacking_at law d origin range view h l = record {
  shown = λ s listed k told p m. h.comes _ told;
  beyond = λ s listed k told m. h.comes _ told;
  takes = λ c t. lacking (h.takes c t);
  above = λ m. absurd (omega (arith, l, m));
  idle = λ m. h.idle;
  listings = h.listings;
  names = omega (arith, h.names);
  none_listed = h.none_listed;
  begun = inr (h.idle, h.begun, inr h.takes);
  none_to_open = h.none_to_open;
  yields_from = h.yields_from;
  may_open = h.may_open;
  fails = fails_as_from range.min origin.path origin.names view h.fails;
  directory = h.directory;
}

pub from_last_length : (names : List (String Global)) → length (from_last names) ≡ length names
from_last_length [] = refl
from_last_length (x ∷ names) = let e : length (from_last names) ≡ length names = from_last_length names
    in let l : length (from_last names ++ string_bytes x ∷ []) ≡ length (from_last names) + 1 =
    length-append (from_last names) (string_bytes x ∷ []) in omega (arith, e, l)

-- with no names to come it is the plain walk
pub begins_plain : {D C : Type 0} (law : Law D C) (d : D) (start : List ℕ) (names : List (List ℕ))
    (range : DepthRange) (view : WalkView D) → names ≡ []
    → BeginsAt law d (record { root = start; path = start; candidate = []; names = names }) range view
    → Begins law d start range view
begins_plain law d start names range view e b =
    let long : length names ≡ 0 = ap length e in
    record {
      shown = λ s listed h told.
          subst (λ v. view.to_come
          (pending nothing (walk_from (scope_in range) (start_location start) s v nothing) listed
          (count_shown s))) e
          (b.shown s listed h told (subst ArePlain (sym e) tt) (omega (arith, long)));
      takes = λ c t. start_takes range start names c e (b.takes c t);
      listings = b.listings;
      names = omega (arith, b.names, long);
      none_listed = b.none_listed;
      begun = elim b.begun [
        | inl e ↦ inl e
        | inr i ↦ inr (i.0, i.1, elim i.2 [ inl l ↦ absurd (omega (arith, l, long)) | inr t ↦ inr t ])
      ];
      none_to_open = b.none_to_open;
      yields_from = b.yields_from;
      may_open = b.may_open;
      fails = subst (λ v. FailsFrom range.min start v view) e b.fails;
      directory = b.directory;
    }
