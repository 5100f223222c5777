-- Steps of a walk.
use Rattle.std.proofs.Common.{◌≡◌, ℕ, ◌+◌, ◌-◌, ◌^◌, ◌<◌, ◌≤◌, true, false, length, List, [], ◌∷◌, ◌++◌, refl}
use Rattle.std.proofs.Common.{sym, ap, subst, ◌∙◌, arith, inl, inr, string_bytes, append_assoc, length-append}
use Rattle.std.proofs.lemmas.List.Elements.{Contains-append_right, Contains-push}
use Rattle.std.specs.{Prelude.{Option, Some, None, Result, Ok, Err, String}, List.Contains}
use Rattle.std.specs.declared.alloc.Global.{Global}
use Rattle.wax_directory.specs.{declared.directory.FileType.FileType, Answers.Opens, Law.{Law, HoldsLast}}
use Rattle.wax_directory.specs.Shown.{Items, end, leaf, folder, sealed, misnamed, unread, not_text, Shown}
use Rattle.wax_directory.specs.Shown.{a_leaf, a_folder, a_sealed, missing, failing, IsPlain, ShowsIn, join}
use Rattle.wax_directory.specs.Shown.{first_item, child_shown}
use Rattle.wax_walk.specs.{declared.entry.TreeEntry.TreeEntry, declared.error.WalkError.WalkError}
use Rattle.wax_walk.specs.declared.error.FaultKind.TheVariants.{Listing}
use Rattle.wax_walk.specs.Forest.{Forest, nothing, item, lists, followed_by, Pending, pending, all_pending}
use Rattle.wax_walk.specs.{Forest.{FirstIs, IsListed, listed_next}, Given.{Given, fault}}
use Rattle.wax_walk.specs.View.{GivesOrStops, lacks_memory, over_budget, gives, IsLast}
use Rattle.wax_tree.specs.{declared.steps.OpenFolder.OpenFolder, declared.steps.StartPoint.StartPoint}
use Rattle.wax_tree.specs.{declared.steps.Steps.Steps, declared.steps.Step.Step}
use Rattle.wax_tree.specs.declared.steps.Step.TheVariants.{Gives, GoesOn, Ends}
use Rattle.wax_tree.specs.Plain.{Location, count, count_shown, below_forest, entry_forest, plain_entry}
use Rattle.wax_tree.specs.Plain.{items_forest, HasKind, IsFolder, item_location, one_deeper}
use Rattle.wax_tree.specs.Prefix.{ArePlain, from_last, walk_from}
use Rattle.wax_tree.specs.Walking.{IsAlone, tree_given, entered_forest, located, scope_of, cursors_of}
use Rattle.wax_tree.specs.Walking.{allowance, Rest, FirstShows, EnteredShows, LevelsShow, AtRest, PlainToCome}
use Rattle.wax_tree.specs.Walking.{WereListed, steps_view, MovesOn}
use Rattle.wax_tree.specs.Stepping.{StepIs, IsPopped, listing_pending, IncreasesBy, WeaklyDecreases}
use Rattle.wax_tree.specs.Stepping.{items_left, steps_left}
use Rattle.wax_tree.proofs.Lead.{after_listing, ListsBetween}
use Rattle.wax_tree.proofs.Showing.{silent, in_range, from_last_end, follows_folder, child_counts}
use Rattle.wax_tree.proofs.Resting.{comes_after, comes_rest, rest_pushed, levels_popped, levels_none}
use Rattle.wax_tree.proofs.Resting.{cursors_pushed, listed_popped}
use Rattle.wax_directory.specs.declared.directory.FileType.TheVariants as F
use Rattle.wax_directory.specs.declared.directory.DirectoryFault.TheVariants as Fault_of
use Rattle.wax_tree.specs.declared.location.Location as code

module _ {D C : Type 0} (law : Law D C) where
  -- an entry below the least depth isn't given
  pub goes_silently : (w new : Steps D C) (e : Option code.Location) (at : Location)
      (kind : FileType) (s : Shown)
      (k items : ℕ) (rest : Rest) → new ≡ record w { entered = e } → at.depth < new.min
      → AtRest law w rest → EnteredShows (law.shows w.directory) (scope_of w) e
      (below_forest (scope_of w) at s) k → k ≤ count_shown s → count_shown s + rest.count ≤ items
      → StepIs law w (pending nothing (entry_forest (scope_of w) at kind s rest.forest) rest.listed items)
      GoesOn new
  goes_silently w new e at kind s k items rest is d r i few enough =
      let m : new.min ≡ w.min = ap (λ v. v.min) is in
      let a : allowance new ≡ allowance w = ap allowance is in
      let below = below_forest (scope_of w) at s in (
        pending below rest.forest rest.listed items,
        subst (λ v. PlainToCome law v (pending below rest.forest rest.listed items)) (sym is)
            (comes_after law w e below k items rest r i (omega (arith, few, enough))),
        inl (
          silent (scope_of w) at.depth (plain_entry at kind) below rest.forest (omega arith),
          refl,
        ),
        omega (arith, a),
      )

  pub gives_entry : (w new : Steps D C) (e : Option code.Location) (at : Location)
      (kind : FileType) (s : Shown)
      (k items : ℕ) (rest : Rest) (x : Result TreeEntry WalkError) → new ≡ record w { entered = e }
      → new.min ≤ at.depth → tree_given x ≡ plain_entry at kind
      → AtRest law w rest → EnteredShows (law.shows w.directory) (scope_of w) e
      (below_forest (scope_of w) at s) k → k ≤ count_shown s → count_shown s + rest.count ≤ items
      → StepIs law w (pending nothing (entry_forest (scope_of w) at kind s rest.forest) rest.listed items)
      (Gives x) new
  gives_entry w new e at kind s k items rest x is d g r i few enough =
      let m : new.min ≡ w.min = ap (λ v. v.min) is in
      let a : allowance new ≡ allowance w = ap allowance is in
      let below = below_forest (scope_of w) at s in
      let then = PlainToCome law new in
      gives items (λ n. omega (arith, a))
      (subst (λ f. FirstIs then f rest.listed items (Some (tree_given x)))
      (sym (in_range (scope_of w) at.depth (plain_entry at kind) below rest.forest
      (omega arith))) (
        ap Some g,
        subst (λ v. PlainToCome law v (pending below rest.forest rest.listed items)) (sym is)
            (comes_after law w e below k items rest r i (omega (arith, few, enough))),
      ))

  -- one fault is given, and then what comes after it
  pub gives_fault : (w new : Steps D C) (head g : Forest Given) (listed : List (List ℕ)) (items : ℕ)
      (x : Given) (r : Result TreeEntry WalkError) → head ≡ item x nothing g → tree_given r ≡ x
      → ((IsLast (Some x) → ⊥) → allowance new ≡ allowance w)
      → PlainToCome law new (pending nothing g listed items)
      → StepIs law w (pending nothing head listed items) (Gives r) new
  gives_fault w new head g listed items x r is e a c =
      gives items (λ n. omega (arith, a (λ i. n (subst (λ v. IsLast (Some v)) (sym e) i))))
      (subst (λ f. FirstIs (PlainToCome law new) f listed items (Some (tree_given r))) (sym is)
      (ap Some e, c))

  -- a folder was opened
  pub enters : (w v : Steps D C) (d : D) (lv : OpenFolder C) (s : Shown) (rest : Rest) (items : ℕ)
      → IsFolder s → Opens (HoldsLast law d (cursors_of w.levels.items) rest.has) s (Ok lv.cursor)
      → law.shows d lv.folder.path.path s
      → ((l : Items) → law.shows d lv.folder.path.path (a_folder l)
      → ShowsIn (law.shows d) lv.folder.path.path l)
      → ((l : Items) → HoldsLast law d (cursors_of w.levels.items) rest.has lv.cursor l
      → AtRest law (record w { directory = d })
      (record rest { listed = rest.listed ++ lv.folder.path.path ∷ [] }))
      → v.levels.items ≡ w.levels.items ++ lv ∷ [] → count_shown s + rest.count ≤ items
      → StepIs law w (pending nothing
      (followed_by (entered_forest (scope_of w) (located lv.folder) s) rest.forest) rest.listed items)
      GoesOn (record w { directory = d; levels = v.levels })
  enters w v d lv (a_folder l) rest items i o h inner r e few =
      let path = lv.folder.path.path in
      let pushed = rest_pushed law (record w { directory = d }) v lv l
      (record rest { listed = rest.listed ++ path ∷ [] }) (r l o) o (inner l h)
      (Contains-append_right rest.listed (path ∷ []) path (Contains-push [] path)) e in (
        pending nothing (followed_by (items_forest (scope_of w) (located lv.folder) l) rest.forest)
            (rest.listed ++ path ∷ []) items,
        comes_rest law (record w { directory = d; levels = v.levels }) items _ pushed (omega (arith, few)),
        inr (path, refl, refl),
        omega arith,
      )
  enters w v d lv a_sealed rest items i o h inner r e few = cc
  enters w v d lv (a_leaf link) rest items i o h inner r e few = absurd i
  enters w v d lv missing rest items i o h inner r e few = absurd i
  enters w v d lv failing rest items i o h inner r e few = absurd i

  -- a folder couldn't be opened
  pub enters_sealed : (w : Steps D C) (d : D) (at : Location) (s : Shown) (rest : Rest) (items : ℕ)
      (r : Result TreeEntry WalkError)
      → IsFolder s → Opens {C = C} (HoldsLast law d (cursors_of w.levels.items) rest.has) s
      (Err Fault_of.Failed) → tree_given r ≡ fault Listing at.path (at.depth - 1)
      → AtRest law (record w { directory = d }) (record rest { listed = rest.listed ++ at.path ∷ [] })
      → count_shown s + rest.count ≤ items
      → StepIs law w (pending nothing (followed_by (entered_forest (scope_of w) at s) rest.forest) rest.listed
      items) (Gives r) (record w { directory = d })
  enters_sealed w d at a_sealed rest items r i o e h few = gives items (λ n. omega arith)
      (ap Some e, comes_rest law (record w { directory = d }) items _ h (omega (arith, few)))
  enters_sealed w d at (a_folder l) rest items r i o e h few = absurd o
  enters_sealed w d at (a_leaf link) rest items r i o e h few = absurd i
  enters_sealed w d at missing rest items r i o e h few = absurd i
  enters_sealed w d at failing rest items r i o e h few = absurd i

  -- the end of a folder
  pub goes_up : (w new : Steps D C) (at : Location) (l : Items) (rest after : Rest) (items : ℕ)
      → None ≡ first_item l → after.forest ≡ rest.forest → after.listed ≡ rest.listed → AtRest law new after
      → allowance new ≡ allowance w → after.count ≤ items
      → StepIs law w (listing_pending (scope_of w) at l rest items) GoesOn new
  goes_up w new at end rest after items h f t r a few = (
    pending nothing after.forest after.listed items,
    comes_rest law new items after r few,
    inl (sym f, t),
    omega (arith, a),
  )
  goes_up w new at (leaf x link l) rest after items h f t r a few = cc
  goes_up w new at (folder x inner l) rest after items h f t r a few = cc
  goes_up w new at (sealed x l) rest after items h f t r a few = cc
  goes_up w new at (misnamed x kind l) rest after items h f t r a few = cc
  goes_up w new at (unread l) rest after items h f t r a few = cc
  goes_up w new at (not_text l) rest after items h f t r a few = cc

  -- a name follows a folder
  pub follows : (w : Steps D C) (place next : StartPoint) (x : String Global) (s : Shown)
      (rest : Rest) (items : ℕ)
      → AtRest law w rest → law.shows w.directory place.at.path.path s → HasKind s F.Folder
      → ArePlain (from_last place.names.items) → place.at.depth + length place.names.items ≤ 2 ^ 64 - 1
      → w.levels.items ≡ [] → count_shown s + rest.count ≤ items
      → ((path : List ℕ) (y : List ℕ) (s : Shown) → law.shows w.directory path s → IsPlain y
      → law.shows w.directory (join path y) (child_shown y s))
      → place.names.items ≡ next.names.items ++ x ∷ []
      → located next.at ≡ one_deeper (item_location (located place.at) (string_bytes x))
      → StepIs law w (pending nothing
      (walk_from (scope_of w) (located place.at) s (from_last place.names.items) rest.forest) rest.listed
      items) GoesOn (record w { first = Some next })
  follows w place next x s rest items r h k p d none few child e onward =
      let path : next.at.path.path ≡ join place.at.path.path (string_bytes x) = ap (λ v. v.path) onward in
      let depth : next.at.depth ≡ place.at.depth + 1 = ap (λ v. v.depth) onward in
      let names : from_last place.names.items ≡ string_bytes x ∷ from_last next.names.items =
      ap from_last e ∙ from_last_end next.names.items x in
      let plain : ArePlain (string_bytes x ∷ from_last next.names.items) = subst ArePlain names p in
      let below = child_shown (string_bytes x) s in
      let long : length place.names.items ≡ length next.names.items + 1 =
      ap length e ∙ length-append next.names.items (x ∷ []) in
      let at : law.shows w.directory next.at.path.path below =
      subst (λ v. law.shows w.directory v below) (sym path)
      (child place.at.path.path (string_bytes x) s h plain.0) in
      let fewer : count_shown below ≤ count_shown s = child_counts (string_bytes x) s in (
        pending nothing (walk_from (scope_of w) (located next.at) below (from_last next.names.items)
            rest.forest) rest.listed items,
        record {
          has = rest.has;
          back = rest.forest;
          of_first = count_shown below;
          of_entered = 0;
          of_levels = rest.count;
          first = (below, at, plain.1, omega (arith, long, depth, d), omega arith, refl);
          entered = subst (λ v. EnteredShows (law.shows w.directory) (scope_of w) v nothing 0) (sym r.entered)
              (refl, refl);
          levels = r.levels;
          held = r.held;
          few = omega (arith, fewer, few);
          alone = (r.entered, none);
          told = r.told;
          opened = r.opened;
          ended = λ t. absurd (let b : true ≡ false = sym t ∙ r.running in (cc));
        },
        inl (
          (ap (λ v. walk_from (scope_of w) (located place.at) s v rest.forest) names
              ∙ follows_folder (scope_of w) (located place.at) s (string_bytes x) (from_last next.names.items)
              rest.forest k)
              ∙ (λ i. walk_from (scope_of w) (sym onward i) below (from_last next.names.items) rest.forest),
          refl,
        ),
        omega arith,
      )

  -- ---- what the parts of a state have to give

  pub steps_begin : (w : Steps D C) (place : StartPoint) (a : Option StartPoint)
      (b : Option code.Location) (p : Pending Given)
      → PlainToCome law w p → w.first ≡ Some place → a ≡ None → b ≡ None → w.has_ended ≡ false
      → (s : Shown) × (rest : Rest) × AtRest law (record w { first = a; entered = b }) rest × law.shows
      w.directory place.at.path.path s × ArePlain (from_last place.names.items) ×
      (place.at.depth + length place.names.items ≤ 2 ^ 64 - 1) × (w.levels.items ≡ [])
      × (count_shown s + rest.count ≤ p.items) × (p ≡ pending p.below p.after rest.listed p.items) ×
      (all_pending p ≡ walk_from (scope_of w) (located place.at) s (from_last place.names.items)
      rest.forest)
  steps_begin w place a b p h e i j running =
      let f = subst (λ v. FirstShows (law.shows w.directory) (scope_of w) v p.after h.back h.of_first) e
      h.first in
      let alone = subst (λ v. IsAlone v w.entered w.levels.items) e h.alone in
      let below = subst (λ v. EnteredShows (law.shows w.directory) (scope_of w) v p.below h.of_entered)
      alone.0 h.entered in (
        f.0,
        record { has = h.has; forest = h.back; count = h.of_levels; listed = p.listed },
        record {
          levels = h.levels;
          held = h.held;
          told = h.told;
          opened = h.opened;
          first = i;
          entered = j;
          running = running;
        },
        f.1,
        f.2,
        f.3,
        alone.1,
        omega (arith, h.few, f.4, below.1),
        refl,
        ap (λ v. followed_by v p.after) below.0 ∙ f.5,
      )

  pub steps_enter : (w : Steps D C) (e : code.Location) (a : Option StartPoint)
      (b : Option code.Location) (p : Pending Given)
      → PlainToCome law w p → w.first ≡ None → w.entered ≡ Some e → a ≡ None → b ≡ None → w.has_ended ≡ false
      → (s : Shown) × (rest : Rest) × AtRest law (record w { first = a; entered = b }) rest × law.shows
      w.directory e.path.path s × IsFolder s
      × (count_shown s + rest.count ≤ p.items) × (p ≡ pending p.below p.after rest.listed p.items) ×
      (all_pending p ≡ followed_by (entered_forest (scope_of w) (located e) s) rest.forest)
  steps_enter w e a b p h first is i j running =
      let f = subst (λ v. FirstShows (law.shows w.directory) (scope_of w) v p.after h.back h.of_first) first
      h.first in
      let below = subst (λ v. EnteredShows (law.shows w.directory) (scope_of w) v p.below h.of_entered) is
      h.entered in (
        below.0,
        record { has = h.has; forest = h.back; count = h.of_levels; listed = p.listed },
        record {
          levels = h.levels;
          held = h.held;
          told = h.told;
          opened = h.opened;
          first = i;
          entered = j;
          running = running;
        },
        below.1,
        below.2,
        omega (arith, h.few, below.4),
        refl,
        ap (λ v. followed_by v p.after) below.3 ∙ ap
            (followed_by (entered_forest (scope_of w) (located e) below.0)) f.0,
      )

  pub steps_list : (w v : Steps D C) (lv : OpenFolder C) (a : Option StartPoint)
      (b : Option code.Location) (p : Pending Given)
      → PlainToCome law w p → w.first ≡ None → w.entered ≡ None → a ≡ None → b ≡ None → w.has_ended ≡ false
      → w.levels.items ≡ v.levels.items ++ lv ∷ []
      → ((cs : List C) (ls : List Items) (c : C) (l : Items) → HoldsLast law w.directory cs ls c l
      → law.holds w.directory cs ls)
      → (l : Items) × (rest : Rest)
      × IsPopped law (record w { first = a; entered = b; levels = v.levels }) lv l
      rest × (rest.count + count l ≤ p.items) × (p ≡ pending p.below p.after rest.listed p.items)
      × (all_pending p ≡ followed_by (items_forest (scope_of w) (located lv.folder) l) rest.forest)
  steps_list w v lv a b p h first is i j running e drop =
      let f = subst (λ v. FirstShows (law.shows w.directory) (scope_of w) v p.after h.back h.of_first) first
      h.first in
      let below = subst (λ v. EnteredShows (law.shows w.directory) (scope_of w) v p.below h.of_entered) is
      h.entered in
      let q = levels_popped (law.shows w.directory) (scope_of w) v.levels.items lv h.has h.back h.of_levels
      (subst (λ ls. LevelsShow (law.shows w.directory) (scope_of w) ls h.has h.back h.of_levels) e
      h.levels) in
      let held : HoldsLast law w.directory (cursors_of v.levels.items) q.0 lv.cursor q.1 =
      subst (λ cs. law.holds w.directory cs (q.0 ++ q.1 ∷ [])) (cursors_pushed v.levels.items lv)
      (subst (λ ls. law.holds w.directory (cursors_of ls) (q.0 ++ q.1 ∷ [])) e
      (subst (λ has. law.holds w.directory (cursors_of w.levels.items) has) q.4 h.held)) in
      let listed =
      listed_popped v.levels.items lv p.listed (subst (λ ls. WereListed ls p.listed) e h.opened) in (
        q.1,
        record { has = q.0; forest = q.2; count = q.3; listed = p.listed },
        record {
          rests = record {
            levels = q.6;
            held = drop _ _ _ _ held;
            told = h.told;
            opened = listed.0;
            first = i;
            entered = j;
            running = running;
          };
          held = held;
          shown = q.5;
          opened = listed.1;
        },
        omega (arith, h.few, q.8),
        refl,
        ap (λ v. followed_by v p.after) below.0 ∙ (f.0 ∙ q.7),
      )

  -- the walk had ended
  pub steps_ended : (w : Steps D C) (p : Pending Given) → PlainToCome law w p → w.has_ended ≡ true
      → StepIs law w p Ends w
  steps_ended w p h e =
      let n = h.ended e in
      let is : all_pending p ≡ nothing = ap (λ v. followed_by v p.after) n.0 ∙ n.1 in
      let whole : p ≡ pending nothing nothing p.listed p.items =
      λ i. record { below = n.0 i; after = n.1 i; listed = p.listed; items = p.items } in
      gives p.items (λ m. omega arith)
      (subst (λ f. FirstIs (PlainToCome law w) f p.listed p.items None) (sym is)
      (refl, subst (PlainToCome law w) whole h))

  -- nothing is left
  pub steps_none : (w v : Steps D C) (a : Option StartPoint) (b : Option code.Location) (p : Pending Given)
      → PlainToCome law w p → w.first ≡ None → w.entered ≡ None → w.levels.items ≡ [] → v.levels.items ≡ []
      → a ≡ None → b ≡ None
      → StepIs law w p Ends (record w { first = a; entered = b; levels = v.levels })
  steps_none w v a b p h first is none gone i j =
      let f = subst (λ v. FirstShows (law.shows w.directory) (scope_of w) v p.after h.back h.of_first) first
      h.first in
      let below = subst (λ v. EnteredShows (law.shows w.directory) (scope_of w) v p.below h.of_entered) is
      h.entered in
      let back : h.back ≡ nothing = levels_none (law.shows w.directory) (scope_of w) w.levels.items h.has
      h.back h.of_levels h.levels none in
      let all : all_pending p ≡ nothing = ap (λ v. followed_by v p.after) below.0 ∙ (f.0 ∙ back) in
      let same : w.levels.items ≡ v.levels.items = none ∙ sym gone in
      let new = record w { first = a; entered = b; levels = v.levels } in
      gives p.items (λ n. omega arith)
      (subst (λ g. FirstIs (PlainToCome law new) g p.listed p.items None) (sym all) (
        refl,
        record {
          has = h.has;
          back = h.back;
          of_first = 0;
          of_entered = 0;
          of_levels = h.of_levels;
          first = subst (λ v. FirstShows (law.shows w.directory) (scope_of w) v nothing h.back 0) (sym i)
              (sym back, refl);
          entered = subst (λ v. EnteredShows (law.shows w.directory) (scope_of w) v nothing 0) (sym j)
              (refl, refl);
          levels = subst (λ ls. LevelsShow (law.shows w.directory) (scope_of w) ls h.has h.back h.of_levels)
              same h.levels;
          held = subst (λ ls. law.holds w.directory (cursors_of ls) h.has) same h.held;
          few = omega (arith, h.few);
          alone = subst (λ v. IsAlone v b new.levels.items) (sym i) tt;
          told = h.told;
          opened = subst (λ ls. WereListed ls p.listed) same h.opened;
          ended = λ t. (refl, refl);
        },
      ))

module _ {D C : Type 0} where
  pub saves_after : (old mid new : Steps D C) (r : Step) → items_left mid + 2 ≡ items_left old
      → steps_left mid + 2 ≡ steps_left old → IncreasesBy 1 2 mid r new → WeaklyDecreases old r new
  saves_after old mid new (Gives x) h k a = omega arith
  saves_after old mid new GoesOn h k a = (omega arith, omega arith)
  saves_after old mid new Ends h k a = tt

append-nil : {A : Type 0} (xs : List A) → xs ++ [] ≡ xs
append-nil [] = refl
append-nil (x ∷ xs) = ap (λ ys. x ∷ ys) (append-nil xs)

listed_last : (paths : List (List ℕ)) (path : List ℕ) (f : Forest Given)
    → after_listing paths (lists path f) ≡ after_listing (paths ++ path ∷ []) f
listed_last [] path f = refl
listed_last (x ∷ paths) path f = ap (lists x) (listed_last paths path f)

-- one step on
pub leads_on : (p q r : Pending Given) → ListsBetween p q → MovesOn q r → ListsBetween p r
leads_on p q r h a = elim a [
  | inl e ↦ (h.0, h.1 ∙ ap (after_listing h.0) e.0, e.1 ∙ h.2)
  | inr e ↦ (
    h.0 ++ e.0 ∷ [],
    (h.1 ∙ ap (after_listing h.0) e.1) ∙ listed_last h.0 e.0 (all_pending r),
    (e.2 ∙ ap (λ ps. ps ++ e.0 ∷ []) h.2) ∙ append_assoc p.listed h.0 (e.0 ∷ []),
  )
]

first_listed : (then : Pending Given → Type 0) (paths : List (List ℕ)) (f : Forest Given)
    (listed : List (List ℕ)) (items : ℕ) (r : Option Given) → FirstIs then f (listed ++ paths) items r
    → FirstIs then (after_listing paths f) listed items r
first_listed then [] f listed items r h = subst (λ ps. FirstIs then f ps items r) (append-nil listed) h
first_listed then (x ∷ paths) f listed items r h = first_listed then paths f (listed ++ x ∷ []) items r
    (subst (λ ps. FirstIs then f ps items r) (sym (append_assoc listed (x ∷ []) paths)) h)

-- the first item after some listings is the first item
leads_first : (then : Pending Given → Type 0) (p q : Pending Given) (items : ℕ) (r : Option Given)
    → ListsBetween p q → FirstIs then (all_pending q) q.listed items r
    → FirstIs then (all_pending p) p.listed items r
leads_first then p q items r h f = subst (λ g. FirstIs then g p.listed items r) (sym h.1)
    (first_listed then h.0 (all_pending q) p.listed items r
    (subst (λ ps. FirstIs then (all_pending q) ps items r) h.2 f))

next_after : (paths : List (List ℕ)) (f : Forest Given)
    → listed_next (after_listing paths f) ≡ paths ++ listed_next f
next_after [] f = refl
next_after (path ∷ paths) f = ap (λ ps. path ∷ ps) (next_after paths f)

leads_listed : (p q : Pending Given) (path : List ℕ) → ListsBetween p q → IsListed q path → IsListed p path
leads_listed p q path h listed =
    let ahead = listed_next (all_pending q) in
    let same : q.listed ++ ahead ≡ p.listed ++ listed_next (all_pending p) =
    ap (λ ps. ps ++ ahead) h.2 ∙ (append_assoc p.listed h.0 ahead ∙ ap (λ ps. p.listed ++ ps)
    (sym (ap listed_next h.1 ∙ next_after h.0 (all_pending q)))) in
    subst (λ ps. Contains ps path) same listed

-- ---- the run

pub run_gives : {D C : Type 0} (law : Law D C) (old mid new : Steps D C) (p q : Pending Given)
    (r : Option Given) → ListsBetween p q → q.items + allowance old ≤ p.items + allowance mid
    → GivesOrStops (steps_view law mid) q r (steps_view law new) → GivesOrStops (steps_view law old) p r
    (steps_view law new)
run_gives law old mid new p q r h few (lacks_memory e) = lacks_memory e
run_gives law old mid new p q r h few (over_budget path depth e m listed) =
    over_budget path depth e (omega (arith, few, m)) (leads_listed p q path h listed)
run_gives law old mid new p q r h few (gives items k f) = gives items (λ n. omega (arith, few, k n))
    (leads_first (PlainToCome law new) p q items r h f)
