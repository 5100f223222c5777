-- The course of a walk, step by step.
use Rattle.std.proofs.Common.{◌≡◌, ◌∙◌, ℕ, ◌+◌, ◌-◌, ◌<◌, ◌≤◌, Bool, true, false, cond, nat_lt, List, [], ◌∷◌}
use Rattle.std.proofs.Common.{◌++◌, refl, sym, ap, subst, inl, inr, arith, string_bytes}
use Rattle.std.proofs.{lemmas.Bool.{le-ltb, lt-ltb}, lemmas.List.append-nil, lemmas.Str.IsUtf8-string_bytes}
use Rattle.std.specs.{Prelude.{Option, Some, None, Err, String}, declared.alloc.Global.Global}
use Rattle.wax_directory.specs.{declared.directory.FileType.FileType, declared.directory.ListItem.ListItem}
use Rattle.wax_directory.specs.{Answers.listed_of, History.{at_end, listed, opened}, Law.Law, Names.is_plain}
use Rattle.wax_directory.specs.PlainNames.{not_plain, plain_of}
use Rattle.wax_directory.specs.Shown.{IsPlain, Shown, a_folder, a_leaf, a_sealed, end, failing, folder, leaf}
use Rattle.wax_directory.specs.Shown.{join, leaf_kind, misnamed, missing, named, no_item, no_name, not_text}
use Rattle.wax_directory.specs.Shown.{sealed, unread}
use Rattle.wax_walk.specs.Course.{Ahead, DirectoryCall, Course, CutsShort, ahead, all_ahead, answers, asking}
use Rattle.wax_walk.specs.{Course.{asks, call, continued, stop, yields}, declared.entry.TreeEntry.TreeEntry}
use Rattle.wax_walk.specs.{declared.error.FaultKind.FaultKind, Entries.facts_of}
use Rattle.wax_walk.specs.declared.error.WalkError.TheVariants.{Memory}
use Rattle.wax_walk.specs.{Given.{Facts, Given, entry, fault, no_memory}, Opened.items_listed, View.Takes}
use Rattle.wax_walk.proofs.Courses.{continued_stop, continued_then}
use Rattle.wax_tree.specs.{declared.steps.OpenFolder.OpenFolder, declared.steps.StartPoint.StartPoint}
use Rattle.wax_tree.specs.{declared.steps.Step.Step, declared.steps.Step.TheVariants.{Ends, Gives, GoesOn}}
use Rattle.wax_tree.specs.declared.steps.Steps.{Steps}
use Rattle.wax_tree.specs.Courses.{AlongComes, FoundComes, IsNamed, below_course, course_above_max}
use Rattle.wax_tree.specs.Courses.{course_at_depth, entered_course, entry_course, is_missing, items_course}
use Rattle.wax_tree.specs.Courses.{onward_location, refused_course}
use Rattle.wax_tree.specs.Plain.{HasKind, IsFolder, Location, WalkScope, item_location, one_deeper}
use Rattle.wax_tree.specs.Plain.{plain_entry}
use Rattle.wax_tree.specs.Stepping.{ComesLast, ComesWhole, Enters, EntryComes, CutsOff, ItemComes, RestComes}
use Rattle.wax_tree.specs.Stepping.{TakenComes, FolderComes, PlaceComes, StepCourse, UsesCourse, next_course}
use Rattle.wax_tree.specs.{Stepping.{passed_over, remembered}, inner.Finding.IsFound, Prefix.from_last}
use Rattle.wax_tree.specs.Walking.{AheadUnless, ComesAhead, EnteredComes, FirstComes, GoesAhead, LevelsCome}
use Rattle.wax_tree.specs.Walking.{HasStopped, allowance, entry_location, located, scope_of, step_given}
use Rattle.wax_tree.specs.Walking.{tree_given}
use Rattle.wax_directory.specs.declared.directory.FileType.TheVariants as F
use Rattle.wax_directory.specs.declared.directory.ListItem.TheVariants as I
use Rattle.wax_walk.specs.declared.error.FaultKind.TheVariants as K
use Rattle.wax_tree.specs.declared.location.Location as code
use Rattle.wax_tree.specs.declared.steps.FoundItem.TheVariants as Found

-- ---- the open folders

module _ (scope : WalkScope) {C : Type 0} where
  -- the innermost folder comes before the others
  pub levels_last : (levels : List (OpenFolder C)) (level : OpenFolder C) (c : Course)
      → LevelsCome scope (levels ++ level ∷ []) c
      → (rest : Course) × LevelsCome scope levels rest × RestComes scope (located level.folder) rest c
  levels_last [] level c h =
      let rest : c ≡ items_course scope (located level.folder) h.0 =
      h.4 ∙ ap (λ g. continued g (items_course scope (located level.folder) h.0)) h.3 in
      (stop, refl, (h.0, h.1, rest ∙ sym (continued_stop (items_course scope (located level.folder) h.0))))
  levels_last (first ∷ levels) level c h =
      let p = levels_last levels level h.2 h.3 in
      let items = items_course scope (located first.folder) h.0 in
      let own = items_course scope (located level.folder) p.2.0 in (
        continued p.0 items,
        (h.0, h.1, p.0, p.1, refl),
        (p.2.0, p.2.1, h.4 ∙ (ap (λ g. continued g items) p.2.2 ∙ continued_then own p.0 items)),
      )

  pub levels_push : (levels : List (OpenFolder C)) (level : OpenFolder C) (rest c : Course)
      → LevelsCome scope levels rest → RestComes scope (located level.folder) rest c
      → LevelsCome scope (levels ++ level ∷ []) c
  levels_push [] level rest c h r =
      let items = items_course scope (located level.folder) r.0 in
      (r.0, r.1, stop, refl, r.2 ∙ (ap (continued items) h ∙ continued_stop items))
  levels_push (first ∷ levels) level rest c h r =
      let items = items_course scope (located first.folder) h.0 in
      let own = items_course scope (located level.folder) r.0 in (
        h.0,
        h.1,
        continued own h.2,
        levels_push levels level h.2 (continued own h.2) h.3 (r.0, r.1, refl),
        r.2 ∙ (ap (continued own) h.4 ∙ sym (continued_then own h.2 items)),
      )

  pub some_levels : (levels : List (OpenFolder C)) → (c : Course) × LevelsCome scope levels c
  some_levels [] = (stop, refl)
  some_levels (level ∷ inner) = let g = some_levels inner in (_, (end, tt, g.0, g.1, refl))

one_less : (n : ℕ) → n + 1 - 1 ≡ n
one_less n = omega arith

module _ (scope : WalkScope) where
  -- ---- entries

  depth_then : (b : Bool) (x : Given) (below a rest : Course)
      → continued (cond b (continued below a) (yields x below a)) rest
      ≡ cond b (continued below (continued a rest)) (yields x below (continued a rest))
  depth_then true x below a rest = continued_then below a rest
  depth_then false x below a rest = refl

  pub at_depth_then : (depth : ℕ) (x : Given) (below a rest : Course)
      → continued (course_at_depth scope depth x below a) rest
      ≡ course_at_depth scope depth x below (continued a rest)
  at_depth_then depth x below a rest = depth_then (nat_lt depth scope.min) x below a rest

  pub some_found : (names : List (List ℕ)) (at : Location) (rest : Course) (kind : FileType)
      → (c : Course) × FoundComes scope names at rest kind c
  some_found [] at rest F.File = (_, (a_leaf false, tt, refl, refl))
  some_found [] at rest F.Link = (_, (a_leaf true, tt, refl, refl))
  some_found [] at rest F.Folder = (_, (a_sealed, tt, refl, refl))
  some_found (x ∷ names) at rest F.File = (_, refl)
  some_found (x ∷ names) at rest F.Link = (_, refl)
  some_found (x ∷ names) at rest F.Folder = (_, is_missing refl)

  folder_kind : (s : Shown) → IsFolder s → HasKind s F.Folder
  folder_kind (a_folder l) h = refl
  folder_kind a_sealed h = refl
  folder_kind (a_leaf link) h = absurd h
  folder_kind missing h = absurd h
  folder_kind failing h = absurd h

  -- what is below an entry, by what is remembered of it
  entered_below : (at : Location) (s : Shown) → IsFolder s → at.depth < scope.max
      → below_course scope at s ≡ entered_course scope (one_deeper at) s
  entered_below at (a_folder l) h less =
      ap (λ b. cond b (entered_course scope (one_deeper at) (a_folder l)) stop)
      (lt-ltb at.depth scope.max less)
  entered_below at a_sealed h less =
      ap (λ b. cond b (entered_course scope (one_deeper at) a_sealed) stop) (lt-ltb at.depth scope.max less)
  entered_below at (a_leaf link) h less = absurd h
  entered_below at missing h less = absurd h
  entered_below at failing h less = absurd h

  abbrev pub HasBelow : Location → FileType → Course → Type 0
  HasBelow at kind below = (s : Shown) × IsNamed s × HasKind s kind × (below ≡ below_course scope at s)

  not_below : (at : Location) (kind : FileType) (below : Course) → below ≡ stop
      → ¬ ((kind ≡ F.Folder) × (at.depth < scope.max)) → HasBelow at kind below
  not_below at F.File below e n = (a_leaf false, tt, refl, e)
  not_below at F.Link below e n = (a_leaf true, tt, refl, e)
  not_below at F.Folder below e n =
      let more : scope.max ≤ at.depth = omega (arith, λ (i : at.depth < scope.max). n (refl, i)) in (
        a_sealed,
        tt,
        refl,
        e ∙ sym (ap (λ b. cond b (entered_course scope (one_deeper at) a_sealed) stop)
            (le-ltb at.depth scope.max more)),
      )

  pub below_of : (f : Facts) (old new : Option code.Location) (below : Course) → old ≡ None
      → Enters scope.max f old new → EnteredComes scope None new below
      → HasBelow (entry_location f) f.kind below
  below_of f old new below none (remembered e is at kind less) h =
      let at_e : EnteredComes scope None (Some e) below = subst (λ v. EnteredComes scope None v below) is h in
      let s = at_e.0 in (
        s,
        at_e.1,
        subst (HasKind s) (sym kind) (folder_kind s at_e.2),
        at_e.3
            ∙ (ap (λ v. entered_course scope v s) at ∙ sym (entered_below (entry_location f) s at_e.2 less)),
      )
  below_of f old new below none (passed_over is n) h =
      not_below (entry_location f) f.kind below
      (subst (λ v. EnteredComes scope None v below) (is ∙ none) h) n

-- ---- what is ahead

pub goes_ahead : {D C : Type 0} (w : Steps D C) (a : Ahead) → w.has_ended ≡ false
    → ComesAhead w a → GoesAhead w a
goes_ahead w a e h = subst (λ b. AheadUnless b (GoesAhead w a) a) e h

pub comes_ahead : {D C : Type 0} (w : Steps D C) (a : Ahead) → w.has_ended ≡ false
    → GoesAhead w a → ComesAhead w a
comes_ahead w a e h = subst (λ b. AheadUnless b (GoesAhead w a) a) (sym e) h

pub ended_ahead : {D C : Type 0} (w : Steps D C) (a : Ahead) → w.has_ended ≡ true → ComesAhead w a
    → a ≡ ahead stop stop
ended_ahead w a e h = subst (λ b. AheadUnless b (GoesAhead w a) a) e h

-- ---- what a step makes of answers

given_next : (r : Step) (x : Given) (a : Ahead) → step_given r ≡ Some x
    → next_course r a ≡ yields x a.below a.after
given_next (Gives z) x a e = let same : tree_given z ≡ x = cc in ap (λ v. yields v a.below a.after) same
given_next GoesOn x a e = absurd (let i : None ≡ Some x = e in (cc))
given_next Ends x a e = absurd (let i : None ≡ Some x = e in (cc))

-- no call was made for it
later_cut : (calls : List DirectoryCall) (x : Given) → CutsShort [] x → CutsShort calls x
later_cut calls no_memory s = tt
later_cut calls (entry m f) s = absurd s
later_cut calls (fault K.NotFound path depth) s = absurd s
later_cut calls (fault K.NotAFolder path depth) s = absurd s
later_cut calls (fault K.Listing path depth) s = absurd s
later_cut calls (fault K.BadName path depth) s = absurd s
later_cut calls (fault K.NotText path depth) s = absurd s
later_cut calls (fault K.Budget path depth) s = absurd (none s.0 (call path (listed s.1)) s.2) where
  none : (before : List DirectoryCall) (q : DirectoryCall) → [] ≡ before ++ q ∷ [] → ⊥
  none [] q e = cc
  none (p ∷ before) q e = cc

module _ {D C : Type 0} where
  -- at rest nothing comes before the open folders
  pub rests_ahead : (w : Steps D C) (a : Ahead) → w.has_ended ≡ false → w.first ≡ None → w.entered ≡ None
      → ComesAhead w a
      → (a.below ≡ stop) × LevelsCome (scope_of w) w.levels.items a.after
  rests_ahead w a going first entered h =
      let g = goes_ahead w a going h in
      let e : EnteredComes (scope_of w) None None a.below =
      subst (λ v. EnteredComes (scope_of w) v None a.below) first
      (subst (λ v. EnteredComes (scope_of w) w.first v a.below) entered g.entered) in
      let after : a.after ≡ g.back = subst (λ v. FirstComes (scope_of w) v g.back a.after) first g.first in
      (e, subst (LevelsCome (scope_of w) w.levels.items) (sym after) g.levels)

  -- allocation failed
  pub memory_uses : (calls : List DirectoryCall) (comes : Course → Type 0) (r : Step) (new : Steps D C)
      → (c : Course) × comes c → r ≡ Gives (Err Memory) → new.has_ended ≡ true → UsesCourse calls comes r new
  memory_uses calls comes r new some e ended = record {
    some = some;
    follows = inr (no_memory, ap step_given e, tt, ended);
  }

  -- an error that ends the walk
  pub stopped_uses : (calls : List DirectoryCall) (comes : Course → Type 0) (r : Step)
      (new : Steps D C) (x : Given)
      → step_given r ≡ Some x → new.has_ended ≡ true → comes (yields x stop stop)
      → UsesCourse calls comes r new
  stopped_uses calls comes r new x e ended h = record {
    some = (yields x stop stop, h);
    follows = inl (λ a i.
        let none : a ≡ ahead stop stop = ended_ahead new a ended i in
        subst comes (sym (given_next r x a e ∙ ap (λ (v : Ahead). yields x v.below v.after) none)) h);
  }

  -- an error after which the walk goes on
  pub fault_uses : (calls : List DirectoryCall) (comes : Course → Course → Type 0) (w new : Steps D C)
      (r : Step) (x : Given)
      → step_given r ≡ Some x → w.has_ended ≡ false → w.first ≡ None → w.entered ≡ None
      → (new ≡ w)
      → ((rest : Course) → comes rest (yields x stop rest)) → UsesCourse calls (ComesLast w comes) r new
  fault_uses calls comes w new r x e going first entered same h = record {
    some = let l = some_levels (scope_of w) w.levels.items in (yields x stop l.0, (l.0, l.1, h l.0));
    follows = inl (λ a i.
        let at = rests_ahead w a going first entered (subst (λ v. ComesAhead v a) same i) in
        let is : next_course r a ≡ yields x stop a.after =
        given_next r x a e ∙ ap (λ b. yields x b a.after) at.0 in
        (a.after, at.1, subst (comes a.after) (sym is) (h a.after)));
  }

  cut_later : (calls : List DirectoryCall) (r : Step) (new : Steps D C) → CutsOff [] r new
      → CutsOff calls r new
  cut_later calls r new h = (h.0, h.1, later_cut calls h.0 h.2, h.3)

  pub uses_more : (calls : List DirectoryCall) (this that : Course → Type 0) (r : Step) (new : Steps D C)
      → ((c : Course) → this c → that c) → UsesCourse [] this r new → UsesCourse calls that r new
  uses_more calls this that r new f h = record {
    some = (h.some.0, f h.some.0 h.some.1);
    follows = elim h.follows [
      | inl g ↦ inl (λ a i. f (next_course r a) (g a i))
      | inr c ↦ inr (cut_later calls r new c)
    ];
  }

  pub some_entry : (w : Steps D C) (f : Facts) → (c : Course) × ComesLast w (EntryComes (scope_of w) f) c
  some_entry w f =
      let l = some_levels (scope_of w) w.levels.items in
      let s = some_found (scope_of w) [] (entry_location f) l.0 f.kind in
      (s.0, (l.0, l.1, s.1))

  -- an entry is remembered if it is a folder to be opened, and yielded if it is deep enough
  module _ (w new : Steps D C) (f : Facts) (is : new ≡ record w { entered = new.entered })
      (going : w.has_ended ≡ false) (first : w.first ≡ None) (entered : w.entered ≡ None)
      (enters : Enters w.max f w.entered new.entered) where
    abbrev Comes : Course → Type 0
    Comes = ComesLast w (EntryComes (scope_of w) f)

    entry_ahead : (a : Ahead) → ComesAhead new a
        → Comes (course_at_depth (scope_of w) f.depth (plain_entry (entry_location f) f.kind)
        a.below a.after)
    entry_ahead a h =
        let v : Steps D C = record w { entered = new.entered } in
        let g = goes_ahead v a going (subst (λ u. ComesAhead u a) is h) in
        let e : EnteredComes (scope_of w) None new.entered a.below =
        subst (λ u. EnteredComes (scope_of w) u new.entered a.below) first g.entered in
        let after : a.after ≡ g.back = subst (λ u. FirstComes (scope_of w) u g.back a.after) first g.first in
        let b = below_of (scope_of w) f w.entered new.entered a.below entered enters e in
        let at = entry_location f in
        let x = plain_entry at f.kind in (
          a.after,
          subst (LevelsCome (scope_of w) w.levels.items) (sym after) g.levels,
          (b.0, b.1, b.2, ap (λ u. course_at_depth (scope_of w) f.depth x u a.after) b.3),
        )

    pub passes_uses : f.depth < w.min → UsesCourse [] Comes GoesOn new
    passes_uses less = record {
      some = some_entry w f;
      follows = inl (λ a h. subst Comes (ap
          (λ b. cond b (all_ahead a) (yields (plain_entry (entry_location f) f.kind) a.below a.after))
          (lt-ltb f.depth w.min less))
          (entry_ahead a h));
    }

    pub gives_uses : (x : _) → tree_given x ≡ plain_entry (entry_location f) f.kind
        → w.min ≤ f.depth → UsesCourse [] Comes (Gives x) new
    gives_uses x e more = record {
      some = some_entry w f;
      follows = inl (λ a h. subst Comes (ap
          (λ b. cond b (all_ahead a) (yields (plain_entry (entry_location f) f.kind) a.below a.after))
          (le-ltb f.depth w.min more)
          ∙ ap (λ y. yields y a.below a.after) (sym e)) (entry_ahead a h));
    }

  -- ---- places

  pub some_place : (w : Steps D C) (place : StartPoint) (kind : FileType)
      → (c : Course) × ComesLast w (PlaceComes (scope_of w) place kind) c
  some_place w place kind =
      let l = some_levels (scope_of w) w.levels.items in
      let s = some_found (scope_of w) (from_last place.names.items) (located place.at) l.0 kind in
      (s.0, (l.0, l.1, s.1))

  pub some_along : (w : Steps D C) (place : StartPoint)
      → (c : Course)
      × ComesLast w (AlongComes (scope_of w) (from_last place.names.items) (located place.at)) c
  some_along w place = let l = some_levels (scope_of w) w.levels.items in (_, (l.0, l.1, is_missing refl))

  -- a file or a link is where a folder should be
  pub misplaced_place : (w : Steps D C) (place : StartPoint) (kind : FileType) (x : List ℕ)
      (names : List (List ℕ))
      → from_last place.names.items ≡ x ∷ names → ¬ (kind ≡ F.Folder)
      → ComesLast w (PlaceComes (scope_of w) place kind)
      (yields (fault K.NotAFolder place.at.path.path place.at.depth) stop stop)
  misplaced_place w place kind x names e n =
      let l = some_levels (scope_of w) w.levels.items in (
        l.0,
        l.1,
        subst (λ ns. FoundComes (scope_of w) ns (located place.at) l.0 kind
            (yields (fault K.NotAFolder place.at.path.path place.at.depth) stop stop)) (sym e) (stops kind n),
      ) where
        stops : (k : FileType) → ¬ (k ≡ F.Folder)
            → FoundComes (scope_of w) (x ∷ names) (located place.at)
            (some_levels (scope_of w) w.levels.items).0 k
            (yields (fault K.NotAFolder place.at.path.path place.at.depth) stop stop)
        stops F.File n = refl
        stops F.Link n = refl
        stops F.Folder n = absurd (n refl)

  -- the next name is followed
  pub follows_uses : (w : Steps D C) (place next : StartPoint) (x : List ℕ)
      → from_last place.names.items ≡ x ∷ from_last next.names.items
      → located next.at ≡ onward_location (located place.at) x → w.has_ended ≡ false
      → UsesCourse [] (ComesLast w (PlaceComes (scope_of w) place F.Folder)) GoesOn
      (record w { first = Some next })
  follows_uses w place next x e at going = record {
    some = some_place w place F.Folder;
    follows = inl (λ a h.
        let g = goes_ahead (record w { first = Some next }) a going h in
        let scope = scope_of w in
        let names = from_last next.names.items in
        let here : AlongComes scope names (onward_location (located place.at) x) g.back a.after =
        subst (λ l. AlongComes scope names l g.back a.after) at g.first in
        let found : FoundComes scope (from_last place.names.items)
        (located place.at) g.back F.Folder a.after =
        subst (λ ns. FoundComes scope ns (located place.at) g.back F.Folder a.after) (sym e) here in (
          g.back,
          g.levels,
          subst (FoundComes scope (from_last place.names.items) (located place.at) g.back F.Folder)
              (sym (ap (λ b. continued b a.after) g.entered)) found,
        ));
  }

  -- ---- what is made of a call

  pub uses_moved : (calls : List DirectoryCall) (this that : Course → Type 0) (r : Step) (new : Steps D C)
      → ((c : Course) → this c → that c) → UsesCourse calls this r new → UsesCourse calls that r new
  uses_moved calls this that r new f h = record {
    some = (h.some.0, f h.some.0 h.some.1);
    follows = elim h.follows [ inl g ↦ inl (λ a i. f (next_course r a) (g a i)) | inr c ↦ inr c ];
  }

  pub course_moved : (law : Law D C) (old w : Steps D C) (this that : Course → Type 0) (r : Step)
      (new : Steps D C) → old.directory ≡ w.directory → allowance old ≡ allowance w
      → ((c : Course) → this c → that c) → StepCourse law old this r new → StepCourse law w that r new
  course_moved law old w this that r new d left f h = record {
    calls = h.calls;
    answered = h.answered ∙ ap (λ v. law.answered v ++ answers h.calls) d;
    spends = subst (λ n. Takes (step_given r) n (items_listed (answers h.calls)) (allowance new)) left
        h.spends;
    uses = uses_moved h.calls (λ c. this (asking h.calls c)) (λ c. that (asking h.calls c)) r new
        (λ c i. f (asking h.calls c) i) h.uses;
  }

  -- a step that ends the walk with this item
  pub ends_spends : (w new : Steps D C) (r : Step) (x : Given) (n : ℕ) → step_given r ≡ Some x
      → new.has_ended ≡ true → Takes (Some x) (allowance w) n 0
      → Takes (step_given r) (allowance w) n (allowance new)
  ends_spends w new r x n e ended t =
      let none : allowance new ≡ 0 = ap (λ b. cond b 0 (new.budget + 1)) ended in
      subst (λ z. Takes z (allowance w) n (allowance new)) (sym e)
      (subst (λ k. Takes (Some x) (allowance w) n k) (sym none) t)

  -- a step that took nothing
  pub nothing_spent : (w : Steps D C) → 0 + allowance w ≡ allowance w
  nothing_spent w = omega arith

  pub some_opened : (w : Steps D C) (place : code.Location)
      → let at = located place in let calls = call at.path (opened at.path) ∷ [] in
      (c : Course) × ComesLast w (FolderComes (scope_of w) at) (asking calls c)
  some_opened w place =
      let l = some_levels (scope_of w) w.levels.items in
      (_, (l.0, l.1, (a_folder end, tt, tt, refl)))

  -- a walk that has stopped
  goes_nowhere : (w : Steps D C) (b : Bool) → (w.first ≡ None) × (w.entered ≡ None) × (w.levels.items ≡ [])
      → AheadUnless b (GoesAhead w (ahead stop stop)) (ahead stop stop)
  goes_nowhere w true i = refl
  goes_nowhere w false i = record {
    back = stop;
    first = subst (λ f. FirstComes (scope_of w) f stop stop) (sym i.0) refl;
    entered = subst (λ f. EnteredComes (scope_of w) f w.entered stop) (sym i.0)
        (subst (λ e. EnteredComes (scope_of w) None e stop) (sym i.1) refl);
    levels = subst (λ ls. LevelsCome (scope_of w) ls stop) (sym i.2) refl;
  }

  pub stopped_ahead : (w : Steps D C) → HasStopped w → ComesAhead w (ahead stop stop)
  stopped_ahead w h = elim h [
    | inl e ↦ subst (λ b. AheadUnless b (GoesAhead w (ahead stop stop)) (ahead stop stop)) (sym e) refl
    | inr i ↦ goes_nowhere w w.has_ended i
  ]

  pub stops_so : (law : Law D C) (w new : Steps D C) → new.directory ≡ w.directory
      → allowance new ≡ allowance w → HasStopped w → StepCourse law w (ComesWhole w) Ends new
  stops_so law w new e left h =
      let nothing : ComesWhole w stop = (ahead stop stop, stopped_ahead w h, refl) in record {
        calls = [];
        answered = ap law.answered e ∙ sym (append-nil (law.answered w.directory));
        spends = ap (λ n. 0 + n) left ∙ nothing_spent w;
        uses = record { some = (stop, nothing); follows = inl (λ a i. nothing) };
      }

  -- a folder was opened
  pub opened_uses : (w new : Steps D C) (level : OpenFolder C)
      → new.levels.items ≡ w.levels.items ++ level ∷ []
      → scope_of new ≡ scope_of w → new.has_ended ≡ false → new.first ≡ None → new.entered ≡ None
      → let at = located level.folder in let calls = call at.path (opened at.path) ∷ [] in
      UsesCourse calls (λ c. ComesLast w (FolderComes (scope_of w) at) (asking calls c)) GoesOn new
  opened_uses w new level e same going first entered = record {
    some = some_opened w level.folder;
    follows = inl (λ a h.
        let at = located level.folder in
        let r = rests_ahead new a going first entered h in
        let l : LevelsCome (scope_of w) (w.levels.items ++ level ∷ []) a.after =
        subst (λ s. LevelsCome s (w.levels.items ++ level ∷ []) a.after) same
        (subst (λ ls. LevelsCome (scope_of new) ls a.after) e r.1) in
        let p = levels_last (scope_of w) w.levels.items level a.after l in (
          p.0,
          p.1,
          (
            a_folder p.2.0,
            p.2.1,
            tt,
            ap (asks (call at.path (opened at.path)))
                (ap (λ b. continued b a.after) r.0 ∙ p.2.2),
          ),
        ));
  }

  pub some_folder : (w : Steps D C) (place : code.Location)
      → (c : Course) × ComesLast w (FolderComes (scope_of w) (located place)) c
  some_folder w place = let l = some_levels (scope_of w) w.levels.items in
      (_, (l.0, l.1, (a_sealed, tt, tt, refl)))

  -- a folder came to its end
  pub closed_uses : (w new : Steps D C) (place : code.Location) → new.levels ≡ w.levels
      → scope_of new ≡ scope_of w → new.has_ended ≡ false → new.first ≡ None → new.entered ≡ None
      → let at = located place in let calls = call at.path at_end ∷ [] in
      UsesCourse calls (λ c. ComesLast w (RestComes (scope_of w) at) (asking calls c)) GoesOn new
  closed_uses w new place e same going first entered = record {
    some = let l = some_levels (scope_of w) w.levels.items in (l.0, (l.0, l.1, (end, tt, refl)));
    follows = inl (λ a h.
        let at = located place in
        let r = rests_ahead new a going first entered h in
        let l : LevelsCome (scope_of w) w.levels.items a.after =
        subst (λ s. LevelsCome s w.levels.items a.after) same
        (subst (λ v. LevelsCome (scope_of new) v.items a.after) e r.1) in
        (a.after, l, (end, tt, ap (asks (call at.path at_end)) (ap (λ b. continued b a.after) r.0))));
  }

  pub some_rest : (w : Steps D C) (place : code.Location)
      → (c : Course) × ComesLast w (RestComes (scope_of w) (located place)) c
  some_rest w place = let l = some_levels (scope_of w) w.levels.items in (_, (l.0, l.1, (end, tt, refl)))

fault_is : (at : Location) (kind k : FaultKind) (path : String Global) (depth : ℕ) (rest : Course)
    → depth ≡ at.depth - 1
    → (kind ≡ k) × (string_bytes path ≡ at.path)
    → yields (fault kind (string_bytes path) depth) stop rest
    ≡ yields (fault k at.path (at.depth - 1)) stop rest
fault_is at kind k path depth rest d h =
    ap (λ z. yields (fault z (string_bytes path) depth) stop rest) h.0
    ∙ (ap (λ z. yields (fault k z depth) stop rest) h.1 ∙ ap (λ n. yields (fault k at.path n) stop rest) d)

-- ---- folders and their items

module _ (scope : WalkScope) where
  some_item : (at : Location) (x : ListItem) (rest : Course) → (c : Course) × ItemComes scope at x rest c
  some_item at (I.Name x kind) rest = go (is_plain (string_bytes x)) refl where
    go : (b : Bool) → is_plain (string_bytes x) ≡ b
        → (c : Course) × ItemComes scope at (I.Name x kind) rest c
    go true e =
        let f = some_found scope [] (item_location at (string_bytes x)) rest kind in
        (f.0, inl (plain_of (string_bytes x) (IsUtf8-string_bytes x) e, f.1))
    go false e = (_, inr (not_plain (string_bytes x) e, refl))
  some_item at I.Failed rest = (_, refl)
  some_item at I.NotText rest = (_, refl)

  -- an entry is made of an item
  pub entry_item : (at : Location) (x : ListItem) (e : TreeEntry) (rest c : Course)
      → IsFound at x (Found.Entry e) → EntryComes scope (facts_of e) rest c → ItemComes scope at x rest c
  entry_item at (I.Name x kind) e rest c f h = elim f [
    | inl i ↦ inl (
      plain_of (string_bytes x) (IsUtf8-string_bytes x) i.0,
      subst (λ g. EntryComes scope g rest c) i.1 h,
    )
    | inr i ↦ absurd i.1
  ]
  entry_item at I.Failed e rest c f h = absurd f
  entry_item at I.NotText e rest c f h = absurd f

  -- a fault is made of it
  pub fault_item : (at : Location) (x : ListItem) (kind : FaultKind) (path : String Global) (depth : ℕ)
      (rest : Course) → depth ≡ at.depth - 1 → IsFound at x (Found.Fault kind path)
      → ItemComes scope at x rest (yields (fault kind (string_bytes path) depth) stop rest)
  fault_item at (I.Name x k) kind path depth rest d f = elim f [
    | inl i ↦ absurd i.1
    | inr i ↦ inr (not_plain (string_bytes x) i.0, fault_is at kind K.BadName path depth rest d i.1)
  ]
  fault_item at I.Failed kind path depth rest d f = fault_is at kind K.Listing path depth rest d f
  fault_item at I.NotText kind path depth rest d f = fault_is at kind K.NotText path depth rest d f

pub some_taken : {D C : Type 0} (w : Steps D C) (place : code.Location) (x : ListItem)
    → (c : Course) × ComesLast w (TakenComes (scope_of w) (located place) x) c
some_taken w place x =
    let l = some_levels (scope_of w) w.levels.items in
    let d = continued (items_course (scope_of w) (located place) end) l.0 in
    let i = some_item (scope_of w) (located place) x d in
    (i.0, (l.0, l.1, (d, (end, tt, refl), i.1)))

module _ (scope : WalkScope) where
  -- an item comes before the rest of its folder
  pub item_taken : (at : Location) (x : ListItem) (rest c : Course) → TakenComes scope at x rest c
      → RestComes scope at rest (asks (call at.path (listed (listed_of x))) c)
  item_taken at (I.Name x kind) rest c h = elim h.2 [
    | inl i ↦ entry_taken i.1.0 i.0 i.1.1 i.1.2 i.1.3
    | inr i ↦ (
      misnamed (string_bytes x) kind h.1.0,
      (i.0, h.1.1),
      ap (asks (call at.path (listed (named (string_bytes x) kind))))
          (i.1 ∙ ap (yields (fault K.BadName at.path (at.depth - 1)) stop) h.1.2),
    )
  ] where
    entry_taken : (s : Shown) → IsPlain (string_bytes x) → IsNamed s → HasKind s kind
        → c ≡ entry_course scope (item_location at (string_bytes x)) kind s h.0
        → RestComes scope at rest (asks (call at.path (listed (named (string_bytes x) kind))) c)
    entry_taken (a_leaf link) p n k e =
        let y = plain_entry (item_location at (string_bytes x)) (leaf_kind link) in
        let l = leaf (string_bytes x) link h.1.0 in (
          l,
          (p, h.1.1),
          subst (λ z. asks (call at.path (listed (named (string_bytes x) z))) c
              ≡ continued (items_course scope at l) rest) (sym k)
              (ap (asks (call at.path (listed (named (string_bytes x) (leaf_kind link)))))
              (e ∙ (ap (λ z. entry_course scope (item_location at (string_bytes x)) z (a_leaf link) h.0) k
              ∙ (ap (course_at_depth scope at.depth y stop) h.1.2
              ∙ sym (at_depth_then scope at.depth y stop (items_course scope at h.1.0) rest))))),
        )
    entry_taken (a_folder inner) p n k e =
        let y = plain_entry (item_location at (string_bytes x)) F.Folder in
        let l = folder (string_bytes x) inner h.1.0 in
        let b = below_course scope (item_location at (string_bytes x)) (a_folder inner) in (
          l,
          (p, n, h.1.1),
          subst (λ z. asks (call at.path (listed (named (string_bytes x) z))) c
              ≡ continued (items_course scope at l) rest) (sym k)
              (ap (asks (call at.path (listed (named (string_bytes x) F.Folder))))
              (e ∙ (ap (λ z. entry_course scope (item_location at (string_bytes x)) z (a_folder inner) h.0) k
              ∙ (ap (course_at_depth scope at.depth y b) h.1.2
              ∙ sym (at_depth_then scope at.depth y b (items_course scope at h.1.0) rest))))),
        )
    entry_taken a_sealed p n k e =
        let y = plain_entry (item_location at (string_bytes x)) F.Folder in
        let l = sealed (string_bytes x) h.1.0 in
        let b = course_above_max scope at.depth
        (refused_course scope (join at.path (string_bytes x)) at.depth) in (
          l,
          (p, h.1.1),
          subst (λ z. asks (call at.path (listed (named (string_bytes x) z))) c
              ≡ continued (items_course scope at l) rest) (sym k)
              (ap (asks (call at.path (listed (named (string_bytes x) F.Folder))))
              (e ∙ (ap (λ z. entry_course scope (item_location at (string_bytes x)) z a_sealed h.0) k
              ∙ (ap (λ n. course_at_depth scope at.depth y (course_above_max scope at.depth
              (refused_course scope (join at.path (string_bytes x)) n)) h.0) (one_less at.depth)
              ∙ (ap (course_at_depth scope at.depth y b) h.1.2
              ∙ sym (at_depth_then scope at.depth y b (items_course scope at h.1.0) rest)))))),
        )
    entry_taken missing p n k e = absurd k
    entry_taken failing p n k e = absurd k
  item_taken at I.Failed rest c h = (
    unread h.1.0,
    h.1.1,
    ap (asks (call at.path (listed no_item))) (h.2
        ∙ ap (yields (fault K.Listing at.path (at.depth - 1)) stop) h.1.2),
  )
  item_taken at I.NotText rest c h = (
    not_text h.1.0,
    h.1.1,
    ap (asks (call at.path (listed no_name))) (h.2
        ∙ ap (yields (fault K.NotText at.path (at.depth - 1)) stop) h.1.2),
  )
