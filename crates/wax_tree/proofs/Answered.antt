-- What was answered is what a tree answers.
use Rattle.std.proofs.Common.{◌≡◌, ◌≤◌, ◌∙◌, ℕ, ◌+◌, ◌-◌, Bool, true, false, cond, nat_lt, List, [], ◌∷◌}
use Rattle.std.proofs.{Common.{◌++◌, filter, arith, refl, sym, ap, subst}, lemmas.List.append-nil}
use Rattle.std.proofs.lemmas.List.Elements.{Contains-push}
use Rattle.std.specs.List.{Contains}
use Rattle.wax_directory.specs.History.{Answer}
use Rattle.wax_directory.specs.Shown.{Items, end, leaf, folder, sealed, misnamed, unread, not_text, Shown}
use Rattle.wax_directory.specs.Shown.{a_leaf, a_folder, a_sealed, child_in, missing, failing, join}
use Rattle.wax_walk.specs.Collected.{EndsThere, NoMemoryError, NoneLast, SpendsWithin, TookCourse, cut_short}
use Rattle.wax_walk.specs.Collected.{whole}
use Rattle.wax_walk.specs.Course.{IsStartOf, DirectoryCall, Course, CutsShort, IsKnownWhole, answers, asks}
use Rattle.wax_walk.specs.Course.{calls_of, continued, items_of, stop, unknown, yields}
use Rattle.wax_walk.specs.Forest.{Forest, followed_by, item, listings, lists, nothing, preorder}
use Rattle.wax_walk.specs.{Given.{Given, entry, fault, no_memory, is_kept}, View.{MayTake, WalkView}}
use Rattle.wax_walk.specs.Opened.{items_listed, opened_by, opened_folders}
use Rattle.wax_walk.proofs.Courses.{begins_whole, comes_first}
use Rattle.wax_walk.proofs.Filtered.{Yields, forest_continued, lists_each, forest_of, opened_first}
use Rattle.wax_walk.proofs.Filtered.{yields_items, yields_opened}
use Rattle.wax_tree.specs.declared.steps.DepthRange.{DepthRange}
use Rattle.wax_tree.specs.Begins.{OnlyLacks, StartTakes, lacking_start, scope_in, walks}
use Rattle.wax_tree.specs.Courses.{below_course, course_above_max, course_at_depth, along_course}
use Rattle.wax_tree.specs.Courses.{items_course, place_course, plain_course, refused_course}
use Rattle.wax_tree.specs.Plain.{WalkScope, Location, above_max, at_depth, below_forest, item_location}
use Rattle.wax_tree.specs.Plain.{items_forest, one_deeper, plain, plain_at, start_location, unlisted}
use Rattle.wax_tree.specs.Prefix.{walk_from}
use Rattle.wax_tree.specs.Whole.{CutsWithin, EntriesAnswered, as_told, calls_for, told_in_part, yielded}
use Rattle.wax_tree.proofs.{InRange.plain_yielded, Kept.{error_kept, first_kept, plain_goes}}
use Rattle.wax_walk.specs.declared.error.FaultKind.TheVariants as K
use Rattle.wax_tree.specs.Whole as all

no_calls : (before : List DirectoryCall) (q : DirectoryCall) → [] ≡ before ++ q ∷ [] → ⊥
no_calls [] q e = cc
no_calls (p ∷ before) q e = cc

pub nothing_yields : Yields stop nothing
nothing_yields = record { is_whole = tt; forest = refl }

whole_continued : (c d : Course) → IsKnownWhole c → IsKnownWhole d → IsKnownWhole (continued c d)
whole_continued stop d w v = v
whole_continued unknown d w v = absurd w
whole_continued (asks q c) d w v = whole_continued c d w v
whole_continued (yields x b a) d w v = (w.0, whole_continued a d w.1 v)

continued_yields : (b a : Course) (f g : Forest Given) → Yields b f → Yields a g
    → Yields (continued b a) (followed_by f g)
continued_yields b a f g h k = record {
  is_whole = whole_continued b a h.is_whole k.is_whole;
  forest = forest_continued b a h.is_whole ∙ (λ i. followed_by (h.forest i) (k.forest i));
}

item_yields : (x : Given) (b a : Course) (f g : Forest Given) → Yields b f → Yields a g
    → Yields (yields x b a) (item x f g)
item_yields x b a f g h k = record {
  is_whole = (h.is_whole, k.is_whole);
  forest = λ i. item x (h.forest i) (k.forest i);
}

either_yields : (t : Bool) (c d : Course) (f g : Forest Given) → Yields c f → Yields d g
    → Yields (cond t c d) (cond t f g)
either_yields true c d f g h k = h
either_yields false c d f g h k = k

-- a call that opens no folder
asked_yields : {q : DirectoryCall} {c : Course} {f : Forest Given} → opened_by q.answer ≡ [] → Yields c f
    → Yields (asks q c) f
asked_yields {q} {c} {f} e h = record {
  is_whole = h.is_whole;
  forest = ap (λ paths. lists_each paths (forest_of c)) e ∙ h.forest;
}

-- a call that opens this folder
listed_yields : {q : DirectoryCall} {path : List ℕ} {c : Course} {f : Forest Given}
    → opened_by q.answer ≡ path ∷ [] → Yields c f → Yields (asks q c) (lists path f)
listed_yields {q} {path} {c} {f} e h = record {
  is_whole = h.is_whole;
  forest = ap (λ paths. lists_each paths (forest_of c)) e ∙ ap (lists path) h.forest;
}

module _ (scope : WalkScope) where
  depth_yields : (depth : ℕ) (x : Given) (b a : Course) (f g : Forest Given) → Yields b f → Yields a g
      → Yields (course_at_depth scope depth x b a) (at_depth scope depth x f g)
  depth_yields depth x b a f g h k = either_yields (nat_lt depth scope.min) (continued b a) (yields x b a)
      (followed_by f g) (item x f g) (continued_yields b a f g h k) (item_yields x b a f g h k)

  max_yields : (depth : ℕ) (c : Course) (f : Forest Given) → Yields c f
      → Yields (course_above_max scope depth c) (above_max scope depth f)
  max_yields depth c f h = either_yields (nat_lt depth scope.max) c stop f nothing h nothing_yields

  fault_yields : (x : Given) → Yields (yields x stop stop) (item x nothing nothing)
  fault_yields x = item_yields x stop stop nothing nothing nothing_yields nothing_yields

  items_yield : (at : Location) (l : Items) → Yields (items_course scope at l) (items_forest scope at l)
  items_yield at end = record { is_whole = tt; forest = refl }
  items_yield at (leaf x link rest) =
      asked_yields refl (depth_yields at.depth _ stop (items_course scope at rest)
      nothing (items_forest scope at rest) nothing_yields (items_yield at rest))
  items_yield at (folder x inner rest) =
      asked_yields refl (depth_yields at.depth _ _ (items_course scope at rest)
      _ (items_forest scope at rest)
      (max_yields at.depth _ _ (listed_yields refl (items_yield (one_deeper (item_location at x)) inner)))
      (items_yield at rest))
  items_yield at (sealed x rest) = asked_yields refl (depth_yields at.depth _ _ (items_course scope at rest)
      _ (items_forest scope at rest)
      (max_yields at.depth _ _
      (listed_yields refl (fault_yields (fault K.Listing (join at.path x) at.depth))))
      (items_yield at rest))
  items_yield at (misnamed x kind rest) = asked_yields refl (item_yields _ stop (items_course scope at rest)
      nothing (items_forest scope at rest) nothing_yields (items_yield at rest))
  items_yield at (unread rest) = asked_yields refl (item_yields _ stop (items_course scope at rest) nothing
      (items_forest scope at rest) nothing_yields (items_yield at rest))
  items_yield at (not_text rest) = asked_yields refl (item_yields _ stop (items_course scope at rest) nothing
      (items_forest scope at rest) nothing_yields (items_yield at rest))

  below_yields : (at : Location) (s : Shown) → Yields (below_course scope at s) (below_forest scope at s)
  below_yields at (a_leaf link) = nothing_yields
  below_yields at (a_folder l) = max_yields at.depth _ _ (listed_yields refl (items_yield _ l))
  below_yields at a_sealed =
      let same : (at.depth + 1) - 1 ≡ at.depth = omega arith in
      subst (λ n. Yields (course_above_max scope at.depth (refused_course scope at.path n))
      (above_max scope at.depth (unlisted scope at.path at.depth))) (sym same)
      (max_yields at.depth _ _ (listed_yields refl (fault_yields (fault K.Listing at.path at.depth))))
  below_yields at missing = nothing_yields
  below_yields at failing = nothing_yields

  pub place_yields : (at : Location) (s : Shown)
      → Yields (place_course scope at s stop) (plain_at scope at s nothing)
  place_yields at (a_leaf link) = asked_yields refl (depth_yields at.depth _ _ stop _ nothing
      (below_yields at (a_leaf link)) nothing_yields)
  place_yields at (a_folder l) = asked_yields refl (depth_yields at.depth _ _ stop _ nothing
      (below_yields at (a_folder l)) nothing_yields)
  place_yields at a_sealed =
      asked_yields refl (depth_yields at.depth _ _ stop _ nothing (below_yields at a_sealed)
      nothing_yields)
  place_yields at missing = asked_yields refl (fault_yields (fault K.NotFound at.path at.depth))
  place_yields at failing = asked_yields refl (fault_yields (fault K.Listing at.path at.depth))

  -- the course along names yields what the walk along them does
  pub along_yields : (names : List (List ℕ)) (at : Location) (s : Shown)
      → Yields (along_course scope names at s) (walk_from scope at s names nothing)
  along_yields [] at s = place_yields at s
  along_yields (x ∷ names) at (a_folder l) =
      asked_yields refl (along_yields names (one_deeper (item_location at x)) (child_in x l))
  along_yields (x ∷ names) at a_sealed =
      asked_yields refl (place_yields (one_deeper (item_location at x)) failing)
  along_yields (x ∷ names) at (a_leaf link) =
      asked_yields refl (fault_yields (fault K.NotAFolder at.path at.depth))
  along_yields (x ∷ names) at missing = place_yields at missing
  along_yields (x ∷ names) at failing = place_yields at failing

-- a walk that may take only the error that allocation failed gave that error
pub lacks_given : {D : Type 0} (view : WalkView D) (told : List Answer) (xs : List Given) → OnlyLacks view
    → TookCourse view told xs → ¬ (NoMemoryError xs)
lacks_given view told xs lacks (whole c t w e f) n =
    let same = begins_whole c (yields no_memory stop stop) w (lacks c t) in
    absurd ((subst NoMemoryError (f ∙ ap items_of same) n).0 tt)
lacks_given view told xs lacks (cut_short c x t first e f s) n =
    absurd (none c (lacks c t) (subst NoMemoryError f n) s) where
      none : (c : Course) → IsStartOf c (yields no_memory stop stop) → NoMemoryError (items_of c ++ x ∷ [])
          → CutsShort (calls_of c) x → ⊥
      none unknown b n s = not_first x n s where
        not_first : (x : Given) → NoMemoryError (x ∷ []) → CutsShort [] x → ⊥
        not_first no_memory n s = n.0 tt
        not_first (entry m g) n s = s
        not_first (fault K.NotFound path depth) n s = s
        not_first (fault K.NotAFolder path depth) n s = s
        not_first (fault K.Listing path depth) n s = s
        not_first (fault K.BadName path depth) n s = s
        not_first (fault K.NotText path depth) n s = s
        not_first (fault K.Budget path depth) n s = no_calls s.0 _ s.2
      none stop b n s = let i : yields no_memory stop stop ≡ stop = b in (cc)
      none (asks q c) b n s = let i : yields no_memory stop stop ≡ asks q b.0 = b.1 in (cc)
      none (yields y d a) b n s =
          let i : yields no_memory stop stop ≡ yields y b.0 b.1 = b.2 in
          let same : y ≡ no_memory = cc in
          (subst (λ z. NoMemoryError (z ∷ ((items_of d ++ items_of a) ++ x ∷ []))) same n).0 tt

-- an error that cuts a course short is kept
pub cutting_kept : (calls : List DirectoryCall) (x : Given) → CutsShort calls x → is_kept x ≡ true
cutting_kept calls no_memory s = refl
cutting_kept calls (fault kind path depth) s = refl
cutting_kept calls (entry m f) s = absurd s

-- a walk that may take only the error that allocation failed asked nothing and gave one error
pub lacks_alone : (c : Course) (x : Given) (told : List Answer) (xs : List Given) → EndsThere xs
    → IsStartOf c (yields no_memory stop stop) → told ≡ answers (calls_of c) → xs ≡ items_of c ++ x ∷ []
    → CutsShort (calls_of c) x → (told ≡ []) × (xs ≡ x ∷ []) × CutsShort [] x
lacks_alone unknown x told xs ends b e f s = (e, f, s)
lacks_alone stop x told xs ends b e f s = absurd (let i : yields no_memory stop stop ≡ stop = b in (cc))
lacks_alone (asks q c) x told xs ends b e f s =
    absurd (let i : yields no_memory stop stop ≡ asks q b.0 = b.1 in (cc))
lacks_alone (yields y d a) x told xs ends b e f s =
    let i : yields no_memory stop stop ≡ yields y b.0 b.1 = b.2 in
    let same : y ≡ no_memory = cc in
    let parts : xs ≡ [] ++ no_memory ∷ ((items_of d ++ items_of a) ++ x ∷ []) =
    f ∙ ap (λ z. z ∷ ((items_of d ++ items_of a) ++ x ∷ [])) same in
    absurd (not_last (items_of d ++ items_of a)
    (ends [] ((items_of d ++ items_of a) ++ x ∷ []) no_memory parts tt)) where
      not_last : (zs : List Given) → zs ++ x ∷ [] ≡ [] → ⊥
      not_last [] e = cc
      not_last (z ∷ zs) e = cc

-- and nothing else
pub lacks_only : {D : Type 0} (view : WalkView D) (told : List Answer) (xs : List Given) → OnlyLacks view
    → EndsThere xs → TookCourse view told xs → xs ≡ no_memory ∷ []
lacks_only view told xs lacks ends (whole c t w e f) =
    f ∙ ap items_of (begins_whole c (yields no_memory stop stop) w (lacks c t))
lacks_only view told xs lacks ends (cut_short c x t first e f s) =
    let l = lacks_alone c x told xs ends (lacks c t) e f s in l.1 ∙ ap (λ z. z ∷ []) (same x l.2) where
      same : (x : Given) → CutsShort [] x → x ≡ no_memory
      same no_memory s = refl
      same (entry m g) s = absurd s
      same (fault K.NotFound path depth) s = absurd s
      same (fault K.NotAFolder path depth) s = absurd s
      same (fault K.Listing path depth) s = absurd s
      same (fault K.BadName path depth) s = absurd s
      same (fault K.NotText path depth) s = absurd s
      same (fault K.Budget path depth) s = absurd (no_calls s.0 _ s.2)

-- an error that cuts a walk short came within the budget
cuts_within : (budget : ℕ) (told : List Answer) (xs before : List Given) (calls : List DirectoryCall)
    (x : Given) → SpendsWithin (budget + 1) told xs → xs ≡ before ++ x ∷ [] → CutsShort calls x
    → CutsWithin budget told x
cuts_within budget told xs before calls no_memory h e s = h.within
cuts_within budget told xs before calls (entry m f) h e s = absurd s
cuts_within budget told xs before calls (fault K.NotFound path depth) h e s = absurd s
cuts_within budget told xs before calls (fault K.NotAFolder path depth) h e s = absurd s
cuts_within budget told xs before calls (fault K.Listing path depth) h e s = absurd s
cuts_within budget told xs before calls (fault K.BadName path depth) h e s = absurd s
cuts_within budget told xs before calls (fault K.NotText path depth) h e s = absurd s
cuts_within budget told xs before calls (fault K.Budget path depth) h e s =
    h.spent path depth (subst (λ v. Contains v (fault K.Budget path depth)) (sym e)
    (Contains-push before (fault K.Budget path depth)))

module _ (range : DepthRange) (start : List ℕ) where
  plain_yields : (s : Shown) → Yields (plain_course (scope_in range) start s) (plain (scope_in range) start s)
  plain_yields s = place_yields (scope_in range) (start_location start) s

  items_plain : (s : Shown) → items_of (plain_course (scope_in range) start s)
      ≡ yielded range (all.whole start s)
  items_plain s = yields_items _ _ (plain_yields s) ∙ plain_yielded range start s

  -- the folders that it opens are those that the plain walk lists
  plain_opened : (s : Shown) → opened_folders (answers (calls_for range start s))
      ≡ listings (plain (scope_in range) start s)
  plain_opened s = yields_opened (plain_course (scope_in range) start s) _ (plain_yields s)

  -- a walk that wasn't cut short took no more than the budget
  whole_within : (s : Shown) (told : List Answer) (xs : List Given) → told ≡ answers (calls_for range start s)
      → xs ≡ preorder (plain (scope_in range) start s) → SpendsWithin (range.budget + 1) told xs
      → items_listed told ≤ range.budget
  whole_within s told xs e f h = go s e f where
    there : (z : Shown) → ¬ (z ≡ missing) → xs ≡ preorder (plain (scope_in range) start z)
        → items_listed told ≤ range.budget
    there z n items =
        let less = h.going (subst NoneLast (sym items) (plain_goes (scope_in range) start z n)) (omega arith)
        in omega (arith, less)

    go : (z : Shown) → told ≡ answers (calls_for range start z)
        → xs ≡ preorder (plain (scope_in range) start z) → items_listed told ≤ range.budget
    go (a_leaf link) asked items = there (a_leaf link) (λ i. (cc)) items
    go (a_folder l) asked items = there (a_folder l) (λ i. (cc)) items
    go a_sealed asked items = there a_sealed (λ i. (cc)) items
    go missing asked items = let none : items_listed told ≡ 0 = ap items_listed asked in omega (arith, none)
    go failing asked items = there failing (λ i. (cc)) items

  -- only an error came, and nothing was asked
  lacks_answered : (told : List Answer) (xs : List Given) (x : Given) → told ≡ [] → xs ≡ x ∷ []
      → CutsShort [] x → CutsWithin range.budget told x → EntriesAnswered range start told xs
  lacks_answered told xs x e f s within =
      told_in_part (record {
        shown = missing;
        named = tt;
        course = unknown;
        starts = tt;
        known = tt;
        told_is = e;
        rest = calls_for range start missing;
        calls_are = refl;
        later = opened_folders (answers (calls_for range start missing));
        opened_are = opened_first told [] (calls_for range start missing) _ e refl ∙ plain_opened missing;
        error = x;
        items = ([], yielded range (all.whole start missing), f, refl);
        came = f;
        cut = s;
        within = within;
      })

  pub entries_answered : {D : Type 0} (view : WalkView D) (told : List Answer) (xs ys : List Given)
      → ((c : Course) → MayTake view c → StartTakes (scope_in range) start c) → EndsThere xs
      → TookCourse view told xs → SpendsWithin (range.budget + 1) told xs → ys ≡ xs
      → EntriesAnswered range start told ys
  entries_answered view told xs ys takes ends (whole c t w e f) h k = elim (takes c t) [
    | walks s n b ↦
        let same = begins_whole c (plain_course (scope_in range) start s) w b in
        let items = f ∙ ap items_of same in
        let asked = e ∙ ap (λ z. answers (calls_of z)) same in
        as_told s n asked (ap opened_folders asked ∙ plain_opened s) (k ∙ (items ∙ items_plain s))
        (whole_within s told xs asked (items ∙ yields_items _ _ (plain_yields s)) h)
    | lacking_start b ↦
        let same = begins_whole c (yields no_memory stop stop) w b in
        lacks_answered told ys no_memory (e ∙ ap (λ z. answers (calls_of z)) same)
        (k ∙ (f ∙ ap items_of same)) tt h.within
  ]
  entries_answered view told xs ys takes ends (cut_short c x t first e f s) h k = elim (takes c t) [
    | walks d n b ↦
        let p = comes_first c (plain_course (scope_in range) start d) first b in
        told_in_part (record {
          shown = d;
          named = n;
          course = c;
          starts = b;
          known = first;
          told_is = e;
          rest = p.calls;
          calls_are = p.calls_are;
          later = opened_folders (answers p.calls);
          opened_are = opened_first told (calls_of c) p.calls (calls_for range start d) e p.calls_are
              ∙ plain_opened d;
          error = x;
          items = (items_of c, p.items, k ∙ f, p.items_are ∙ items_plain d);
          came = k ∙ f;
          cut = s;
          within = cuts_within range.budget told xs (items_of c) (calls_of c) x h f s;
        })
    | lacking_start b ↦
        let l = lacks_alone c x told xs ends b e f s in
        lacks_answered told ys x l.0 (k ∙ l.1) l.2
        (cuts_within range.budget told xs [] [] x h l.1 l.2)
  ]

  -- a plain walk keeps all that it yields
  pub all_kept : {D : Type 0} (view : WalkView D) (told : List Answer) (xs : List Given)
      → ((c : Course) → MayTake view c → StartTakes (scope_in range) start c) → EndsThere xs
      → TookCourse view told xs → filter is_kept xs ≡ xs
  all_kept view told xs takes ends (whole c t w e f) = elim (takes c t) [
    | walks s n b ↦
        let same = begins_whole c (plain_course (scope_in range) start s) w b in
        first_kept (scope_in range) start s xs []
        (append-nil xs ∙ (f ∙ ap items_of same ∙ yields_items _ _ (plain_yields s)))
    | lacking_start b ↦
        let is = f ∙ ap items_of (begins_whole c (yields no_memory stop stop) w b) in
        ap (filter is_kept) is ∙ sym is
  ]
  all_kept view told xs takes ends (cut_short c x t first e f s) = elim (takes c t) [
    | walks d n b ↦
        let p = comes_first c (plain_course (scope_in range) start d) first b in
        ap (filter is_kept) f ∙ (error_kept (scope_in range) start d (items_of c) p.items x
        (cutting_kept (calls_of c) x s) (p.items_are ∙ yields_items _ _ (plain_yields d)) ∙ sym f)
    | lacking_start b ↦
        let l = lacks_alone c x told xs ends b e f s in
        ap (filter is_kept) l.1 ∙ (ap (λ b. cond b (x ∷ []) []) (cutting_kept [] x l.2) ∙ sym l.1)
  ]
