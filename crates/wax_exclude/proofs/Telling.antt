-- What a walk yielded is the walk of a tree that answers as the directory did.
use Rattle.std.proofs.Common.{◌≡◌, ◌∙◌, ◌⊎◌, Bool, true, false, List, [], ◌∷◌, ◌++◌, filter, refl, sym, ap}
use Rattle.std.proofs.{Common.{inl, inr, arith, subst}, lemmas.Bool.{le-ltb, lt-ltb}}
use Rattle.std.specs.Prelude.{if◌then◌else◌}
use Rattle.wax_directory.specs.{History.Answer, Law.Law}
use Rattle.wax_directory.specs.Shown.{Items, Shown, a_folder, a_leaf, a_sealed, end, failing, folder, leaf}
use Rattle.wax_directory.specs.Shown.{misnamed, missing, not_text, sealed, unread}
use Rattle.wax_tree.specs.{Programs.any_mark, Begins.{OriginTakes, along, beyond, origin_location, scope_in}}
use Rattle.wax_tree.specs.{Prefix.ArePlain, Courses.{AreNamed, IsNamed}, Follows.AreDistinctAlong}
use Rattle.wax_tree.proofs.Answered.{along_yields, cutting_kept, lacks_alone, nothing_yields}
use Rattle.wax_tree.proofs.AlongShown.{along_shown, distinct_missing}
use Rattle.wax_walk.proofs.Courses.{begins_whole, comes_first}
use Rattle.wax_walk.proofs.Filtered.{Yields, filtered_begins, opened_yields, pruned_begins, pruned_ruled}
use Rattle.wax_walk.proofs.Filtered.{opened_first, ruled_course, ruled_yields, yields_items, yields_opened}
use Rattle.wax_walk.proofs.Following.{lacks_filtered}
use Rattle.wax_walk.specs.Candidates.{Candidate, of_candidate}
use Rattle.wax_walk.specs.Pruned.{IsPrunedBy, all_folders, opened_forest, opened_course, pruned_course}
use Rattle.wax_walk.specs.{Pruned.these_folders, Ruled.IsMarkBy}
use Rattle.wax_walk.specs.Collected.{EndsThere, Took, TookCourse, cut_short, whole}
use Rattle.wax_walk.specs.Course.{Course, CutsShort, IsFiltered, IsStartOf, answers, calls_of, items_of, stop}
use Rattle.wax_walk.specs.{Course.{unknown, yields}, Opened.opened_folders, Forest.nothing}
use Rattle.wax_walk.specs.{Given.{Facts, Given, Mark, is_kept, no_memory}, View.{MayTake, WalkView}}
use Rattle.wax_exclude.proofs.Feeding.{feeds_by_walk}
use Rattle.wax_exclude.proofs.KeptItems.{cut_kept, kept_entries, kept_last, kept_twice}
use Rattle.wax_exclude.proofs.{StackingRequests.stacked_any, Wanting.{entries_wanted, few_listed}}
use Rattle.wax_exclude.specs.Feeds.{ruled_feed}
use Rattle.wax_exclude.specs.GlobRequests.{AreOpened, CanBegin, GlobRequest, is_beyond, walk_for}
use Rattle.wax_exclude.specs.{Law.WalkLaw, Premises.{ArePlainItems, IsPlainShown}}
use Rattle.wax_exclude.specs.RuledWalks.{RuledWalk, WalkTakes, exceeds_range, lacking, origin_course}
use Rattle.wax_exclude.specs.RuledWalks.{ruled_forest, walk_course, walks}
use Rattle.wax_exclude.specs.Told.{Answering, AreWanted, FeedsAnswered, KeepsAnswered, LeavesAnswered}
use Rattle.wax_exclude.specs.Told.{OpensListed, ToldInPart, as_told, in_part, keeps_all, keeps_in_part}
use Rattle.wax_exclude.specs.{Told.{request_kept, ruled_kept, walk_calls}, Walked.origin_walk}
use Rattle.wax_exclude.specs.Wanted.{is_kept_entry, stacked}
use Rattle.wax_tree.specs.Begins as begin

plain_items : (l : Items) → AreNamed l → ArePlainItems l
plain_items end n = tt
plain_items (leaf x link rest) n = (n.0, plain_items rest n.1)
plain_items (folder x inner rest) n = (n.0, plain_items inner n.1, plain_items rest n.2)
plain_items (sealed x rest) n = (n.0, plain_items rest n.1)
plain_items (misnamed x kind rest) n = plain_items rest n.1
plain_items (unread rest) n = plain_items rest n
plain_items (not_text rest) n = plain_items rest n

plain_named : (s : Shown) → IsNamed s → IsPlainShown s
plain_named (a_leaf link) n = tt
plain_named (a_folder l) n = plain_items l n
plain_named a_sealed n = tt
plain_named missing n = tt
plain_named failing n = tt

-- ---- what a walk may take

-- a filter that leaves of each course what the rules and the opening of a walk leave, and of the error that
-- allocation failed only that, leaves of what its origin may take what the walk may take
module _ (walk : RuledWalk) (filters : Course → Course → Type 0) where
  abbrev left : Course → Course
  left c = ruled_course (any_mark walk.rules) (opened_course walk.opening c)

  origin_takes : ((c d e : Course) → filters c e → IsStartOf c d → IsStartOf e (left d))
      → ((c e : Course) → filters c e → IsStartOf c (yields no_memory stop stop)
      → IsStartOf e (yields no_memory stop stop))
      → left stop ≡ stop → (c e : Course) → ArePlain walk.origin.names → OriginTakes walk.origin walk.walked c
      → filters c e → WalkTakes walk e
  origin_takes starts lacks stops c e plain (along fits short d h b) f =
      let s = along_shown (scope_in walk.walked) walk.origin.names (origin_location walk.origin) d plain
      (omega (arith, short)) h in
      let course : left d ≡ walk_course walk s.shown =
      (λ i. left (s.course i))
      ∙ ap (λ b. if b then stop else left (origin_course walk.walked walk.origin s.shown))
      (sym (le-ltb _ _ fits)) in
      walks s.shown s.named s.distinct (subst (IsStartOf e) course (starts c d e f b))
  origin_takes starts lacks stops c e plain (begin.lacking b) f = lacking (lacks c e f b)
  origin_takes starts lacks stops c e plain (beyond l b) f =
      let course : left stop ≡ walk_course walk missing =
      stops ∙ ap (λ b. if b then stop else left (origin_course walk.walked walk.origin missing))
      (sym (lt-ltb _ _ l)) in
      walks missing tt (distinct_missing walk.origin.names) (subst (IsStartOf e) course (starts c stop e f b))

-- what its rules leave of what its origin may take, if it opens all folders
pub ruled_takes : (walk : RuledWalk) (rule : Candidate → Mark) (c e : Course) → walk.opening ≡ all_folders
    → ArePlain walk.origin.names → of_candidate rule ≡ any_mark walk.rules
    → OriginTakes walk.origin walk.walked c
    → IsFiltered (IsMarkBy (of_candidate rule)) c e → WalkTakes walk e
ruled_takes walk rule c e all plain says takes f =
    let so : (d : Course) → ruled_course (of_candidate rule) d
    ≡ left walk (IsFiltered (IsMarkBy (of_candidate rule))) d =
    λ d. (λ i. ruled_course (says i) (opened_course (sym all i) d)) in
    origin_takes walk (IsFiltered (IsMarkBy (of_candidate rule)))
    (λ c d e f b. subst (IsStartOf e) (so d) (filtered_begins (of_candidate rule) c d e f b))
    (λ c e f b. lacks_filtered (IsMarkBy (of_candidate rule)) c e b f) (sym (so stop)) c e plain takes f

-- what its rules leave of what its origin may take, if it opens these folders alone
pub selected_takes : (walk : RuledWalk) (rule : Candidate → Mark) (opens : Facts → Bool) (c d e : Course)
    → walk.opening ≡ these_folders opens → ArePlain walk.origin.names
    → of_candidate rule ≡ any_mark walk.rules
    → OriginTakes walk.origin walk.walked c → IsFiltered (IsMarkBy (of_candidate rule)) c d
    → IsFiltered (IsPrunedBy opens) d e → WalkTakes walk e
selected_takes walk rule opens c d e these plain says takes f g =
    let marks = IsFiltered (IsMarkBy (of_candidate rule)) in
    let prunes = IsFiltered (IsPrunedBy opens) in
    let filters : Course → Course → Type 0 = λ x z. (y : Course) × marks x y × prunes y z in
    let so : (x : Course) → pruned_course opens (ruled_course (of_candidate rule) x) ≡ left walk filters x =
    λ x. pruned_ruled opens (of_candidate rule) x
    ∙ (λ i. ruled_course (says i) (opened_course (sym these i) x)) in
    origin_takes walk filters
    (λ x y z h b.
    subst (IsStartOf z) (so y) (pruned_begins opens h.0 (ruled_course (of_candidate rule) y) z h.2
    (filtered_begins (of_candidate rule) x y h.0 h.1 b)))
    (λ x z h b. lacks_filtered (IsPrunedBy opens) h.0 z
    (lacks_filtered (IsMarkBy (of_candidate rule)) x h.0 b h.1) h.2)
    (sym (so stop)) c e plain takes (d, f, g)

-- ---- what was answered

module _ (walk : RuledWalk) where
  abbrev rule : Facts → Mark
  rule = any_mark walk.rules

  course_yields : (s : Shown) → Yields (walk_course walk s) (ruled_forest walk s)
  course_yields s = go (exceeds_range walk) where
    go : (b : Bool)
        → Yields (if b then stop
        else ruled_course rule (opened_course walk.opening (origin_course walk.walked walk.origin s)))
        (if b then nothing
        else stacked walk.rules (opened_forest walk.opening (origin_walk walk.walked walk.origin s)))
    go true = nothing_yields
    go false =
        let f = origin_walk walk.walked walk.origin s in
        let c = origin_course walk.walked walk.origin s in
        subst (Yields (ruled_course rule (opened_course walk.opening c)))
        (sym (stacked_any walk.rules (opened_forest walk.opening f)))
        (ruled_yields rule (opened_course walk.opening c)
        (opened_forest walk.opening f) (opened_yields walk.opening c f
        (along_yields (scope_in walk.walked) walk.origin.names (origin_location walk.origin) s)))

  items_fed : (s : Shown) → items_of (walk_course walk s) ≡ ruled_feed walk s
  items_fed s = yields_items _ _ (course_yields s) ∙ feeds_by_walk walk s

  -- a tree answers so, and the items are the feed of the walk of it
  record IsFed (told : List Answer) (xs : List Given) : Type 0 where
    pub shown : Shown
    pub named : IsNamed shown
    pub distinct : AreDistinctAlong walk.origin.names shown
    pub told_is : told ≡ answers (walk_calls walk shown)
    pub items : xs ≡ ruled_feed walk shown

  -- nothing was asked, and only an error came
  lacks_told : (told : List Answer) (xs : List Given) (x : Given) → told ≡ [] → xs ≡ x ∷ [] → CutsShort [] x
      → ToldInPart walk (ruled_feed walk) told xs
  lacks_told told xs x e f s = record {
    shown = missing;
    named = tt;
    distinct = distinct_missing walk.origin.names;
    course = unknown;
    starts = tt;
    known = tt;
    told_is = e;
    rest = walk_calls walk missing;
    calls_are = refl;
    error = x;
    items = ([], ruled_feed walk missing, f, refl);
    came = kept_last xs [] x (cutting_kept [] x s) f;
    cut = s;
  }

  fed_so : {D : Type 0} (view : WalkView D) (told : List Answer) (xs : List Given)
      → ((c : Course) → MayTake view c → WalkTakes walk c) → EndsThere xs → TookCourse view told xs
      → IsFed told xs ⊎ ToldInPart walk (ruled_feed walk) told xs
  fed_so view told xs takes ends (whole c t w e f) = elim (takes c t) [
    | walks s n d b ↦
        let same = begins_whole c (walk_course walk s) w b in
        inl (record {
          shown = s;
          named = n;
          distinct = d;
          told_is = e ∙ ap (λ z. answers (calls_of z)) same;
          items = f ∙ (ap items_of same ∙ items_fed s);
        })
    | lacking b ↦
        let same = begins_whole c (yields no_memory stop stop) w b in
        inr (lacks_told told xs no_memory (e ∙ ap (λ z. answers (calls_of z)) same) (f ∙ ap items_of same) tt)
  ]
  fed_so view told xs takes ends (cut_short c x t first e f s) = elim (takes c t) [
    | walks d n a b ↦
        let p = comes_first c (walk_course walk d) first b in
        inr (record {
          shown = d;
          named = n;
          distinct = a;
          course = c;
          starts = b;
          known = first;
          told_is = e;
          rest = p.calls;
          calls_are = p.calls_are;
          error = x;
          items = (items_of c, p.items, f, p.items_are ∙ items_fed d);
          came = kept_last xs (items_of c) x (cutting_kept (calls_of c) x s) f;
          cut = s;
        })
    | lacking b ↦
        let l = lacks_alone c x told xs ends b e f s in
        inr (lacks_told told xs x l.0 l.1 l.2)
  ]

  part_kept : (told : List Answer) (xs : List Given) → ToldInPart walk (ruled_feed walk) told xs
      → ToldInPart walk (ruled_kept walk) told (filter is_kept xs)
  part_kept told xs p = record {
    shown = p.shown;
    named = p.named;
    distinct = p.distinct;
    course = p.course;
    starts = p.starts;
    known = p.known;
    told_is = p.told_is;
    rest = p.rest;
    calls_are = p.calls_are;
    error = p.error;
    items = cut_kept (ruled_feed walk p.shown) p.error xs
        (cutting_kept (calls_of p.course) p.error p.cut) p.items;
    came = kept_twice xs ∙ p.came;
    cut = p.cut;
  }

  -- whatever was answered to a walk that was taken to its end
  module _ {D C : Type 0} (law : Law D C) (view : WalkView D) (new : D) (xs : List Given)
      (takes : (c : Course) → MayTake view c → WalkTakes walk c) (took : Took law view new xs) where
    abbrev fed : IsFed took.told xs ⊎ ToldInPart walk (ruled_feed walk) took.told xs
    fed = fed_so view took.told xs takes took.ends_there took.course

    pub feeds_answered : FeedsAnswered law view.directory new walk xs
    feeds_answered = record {
      told = took.told;
      answered = took.answered;
      holds_of = elim fed [
        | inl t ↦ as_told t.shown t.named t.distinct t.told_is t.items
        | inr p ↦ in_part p
      ];
    }

    pub leaves_answered : LeavesAnswered law view.directory new walk (filter is_kept xs)
    leaves_answered = record {
      told = took.told;
      answered = took.answered;
      holds_of = elim fed [
        | inl t ↦ as_told t.shown t.named t.distinct t.told_is (ap (filter is_kept) t.items)
        | inr p ↦ in_part (part_kept took.told xs p)
      ];
    }

-- what a walk opens is what its forest lists
pub opens_listed : OpensListed
opens_listed walk s = yields_opened (walk_course walk s) (ruled_forest walk s) (course_yields walk s)

module _ (laws : WalkLaw) (request : GlobRequest) (can : CanBegin request) (s : Shown)
    (named : IsNamed s) where
  abbrev its_walk : RuledWalk
  its_walk = walk_for request

  -- what it keeps has exactly the wanted entries
  kept_wanted : AreDistinctAlong request.origin.names s → AreWanted request s (request_kept request s)
  kept_wanted distinct =
      kept_entries (ruled_feed its_walk s)
      ∙ (ap (filter is_kept_entry) (sym (feeds_by_walk its_walk s))
      ∙ entries_wanted laws request s can (plain_named s named) distinct (is_beyond request) refl)

  -- and the folders that it opens are those that it may open
  calls_opened : AreOpened request s (opened_folders (answers (walk_calls its_walk s)))
  calls_opened =
      subst (AreOpened request s) (sym (opens_listed its_walk s))
      (few_listed laws request s can (plain_named s named) (is_beyond request) refl)

-- so it is of a glob's walk, by what was answered to it and by its course
pub keeps_told : WalkLaw → (request : GlobRequest) {D C : Type 0} (law : Law D C)
    (view : WalkView D) (new : D) (told : List Answer) (xs : List Given) → CanBegin request
    → ((c : Course) → MayTake view c → WalkTakes (walk_for request) c)
    → law.answered new ≡ law.answered view.directory ++ told → EndsThere xs → TookCourse view told xs
    → KeepsAnswered law view.directory new request (filter is_kept xs)
unfolding part_kept
keeps_told laws request law view new told xs can takes answered ends took = record {
  told = told;
  answered = answered;
  holds_of = elim (fed_so (walk_for request) view told xs takes ends took) [
    | inl t ↦
        let s = t.shown in
        let kept = ap (filter is_kept) t.items in
        keeps_all s t.named t.distinct t.told_is kept
        (ap (filter is_kept_entry) kept ∙ kept_wanted laws request can s t.named t.distinct)
        (subst (λ z. AreOpened request s (opened_folders z)) (sym t.told_is)
        (calls_opened laws request can s t.named))
    | inr p ↦
        let s = p.shown in
        keeps_in_part (part_kept (walk_for request) told xs p)
        (kept_wanted laws request can s p.named p.distinct) (opened_folders (answers p.rest))
        (subst (AreOpened request s)
        (sym (opened_first told (calls_of p.course) p.rest (walk_calls (walk_for request) s) p.told_is
        p.calls_are))
        (calls_opened laws request can s p.named))
  ];
}

pub keeps_answered : WalkLaw → (request : GlobRequest) {D C : Type 0} (law : Law D C)
    (view : WalkView D) (new : D) (xs : List Given) → CanBegin request
    → ((c : Course) → MayTake view c → WalkTakes (walk_for request) c)
    → Took law view new xs → KeepsAnswered law view.directory new request (filter is_kept xs)
keeps_answered laws request law view new xs can takes took =
    keeps_told laws request law view new took.told xs can takes took.answered took.ends_there took.course

-- over a walk that another one is seen as
pub answered_before : {D C : Type 0} (law : Law D C) (old other new : D) (holds : List Answer → Type 0)
    → other ≡ old
    → Answering law other new holds → Answering law old new holds
answered_before law old other new holds same a = subst (λ d. Answering law d new holds) same a
