-- The folders of which steps yield errors.
use Rattle.std.proofs.Common.{◌≡◌, ℕ, ◌+◌, ◌-◌, ◌^◌, ◌<◌, ◌≤◌, min, true, false, length, List, [], ◌∷◌, ◌++◌}
use Rattle.std.proofs.Common.{refl, sym, ap, subst, ◌∙◌, arith, inl, inr, string_bytes, length-append}
use Rattle.std.proofs.lemmas.Str.{IsUtf8-string_bytes}
use Rattle.std.specs.{Prelude.{Some, None, ◌⊎◌, Err, String}, declared.alloc.Global.Global}
use Rattle.wax_directory.specs.{Shown.{IsPlain, join}, declared.directory.ListItem.ListItem, Law.Law}
use Rattle.wax_directory.specs.PlainNames.{plain_of}
use Rattle.wax_walk.specs.{declared.entry.TreeEntry.TreeEntry, Entries.facts_of}
use Rattle.wax_walk.specs.declared.error.FaultKind.{FaultKind}
use Rattle.wax_walk.specs.declared.error.WalkError.TheVariants.{Memory, Fault}
use Rattle.wax_walk.specs.{Collected.{AreOfFolders, HasFolder}, Given.{Given, fault}}
use Rattle.wax_walk.specs.View.{IsErrorAt, IsFolderAt, WalkView, Places, MayFail, is_above}
use Rattle.wax_tree.specs.{declared.steps.OpenFolder.OpenFolder, declared.steps.StartPoint.StartPoint}
use Rattle.wax_tree.specs.{declared.steps.Steps.Steps, declared.steps.Step.Step}
use Rattle.wax_tree.specs.declared.steps.Step.TheVariants.{Gives, GoesOn}
use Rattle.wax_tree.specs.Prefix.{ArePlain, from_last, path_from}
use Rattle.wax_tree.specs.Reaching.{FolderSet, LeadsUnseen, OfAny, OfEntered, OfFirst, OfLevels, OnWay}
use Rattle.wax_tree.specs.Reaching.{OneFolder, IsOf, MayFailAt, MayFailBelow, MayReach, ReachesFrom}
use Rattle.wax_tree.specs.{Reaching.no_folders, Begins.{FailsFrom, IsPassed}, Stepping.StepPlaces}
use Rattle.wax_tree.specs.{Walking.{HasStopped, step_given, steps_view}, inner.Finding.IsFound}
use Rattle.wax_tree.specs.{declared.steps.FoundItem.TheVariants.{Entry, Fault as FoundFault}, Plain.Location}
use Rattle.wax_tree.proofs.Showing.{from_last_end}
use Rattle.wax_tree.specs.declared.location.Location as code
use Rattle.wax_directory.specs.declared.directory.ListItem.TheVariants as I

-- ---- names

path_from_append : (path : List ℕ) (xs ys : List (List ℕ))
    → path_from path (xs ++ ys) ≡ path_from (path_from path xs) ys
path_from_append path [] ys = refl
path_from_append path (x ∷ xs) ys = path_from_append (join path x) xs ys

plain_append : (xs ys : List (List ℕ)) → ArePlain xs → ArePlain ys → ArePlain (xs ++ ys)
plain_append [] ys h k = k
plain_append (x ∷ xs) ys h k = (h.0, plain_append xs ys h.1 k)

append-nil : {A : Type 0} (xs : List A) → xs ++ [] ≡ xs
append-nil [] = refl
append-nil (x ∷ xs) = ap (λ ys. x ∷ ys) (append-nil xs)

-- ---- where names lead

pub leads_more : (least : ℕ) (a b : FolderSet) → ((path : List ℕ) (n : ℕ) → a path n → b path n)
    → (path : List ℕ) (n : ℕ) → LeadsUnseen least a path n → LeadsUnseen least b path n
leads_more least a b f path n h = record {
  top = h.top;
  above = h.above;
  names = h.names;
  begins = f h.top h.above h.begins;
  plain = h.plain;
  path_is = h.path_is;
  depth_is = h.depth_is;
  unseen = h.unseen;
}

pub leads_here : (least : ℕ) (a : FolderSet) (path : List ℕ) (n : ℕ) → a path n → LeadsUnseen least a path n
leads_here least a path n h = record {
  top = path;
  above = n;
  names = [];
  begins = h;
  plain = tt;
  path_is = refl;
  depth_is = omega arith;
  unseen = inl refl;
}

pub leads_on : (least : ℕ) (a : FolderSet) (path : List ℕ) (n : ℕ)
    → LeadsUnseen least (LeadsUnseen least a) path n
    → LeadsUnseen least a path n
leads_on least a path n h =
    let i = h.begins in
    let long : length (i.names ++ h.names) ≡ length i.names + length h.names =
    length-append i.names h.names in
    record {
      top = i.top;
      above = i.above;
      names = i.names ++ h.names;
      begins = i.begins;
      plain = plain_append i.names h.names i.plain h.plain;
      path_is = h.path_is
          ∙ (ap (λ v. path_from v h.names) i.path_is ∙ sym (path_from_append i.top i.names h.names));
      depth_is = omega (arith, h.depth_is, i.depth_is, long);
      unseen = elim h.unseen [
        | inl empty ↦ elim i.unseen [
          | inl first ↦ inl (ap (λ v. v ++ h.names) first ∙ empty)
          | inr few ↦
              let short : length h.names ≡ 0 = ap length empty in inr (omega (arith, few, h.depth_is, short))
        ]
        | inr few ↦ inr few
      ];
    }

-- a name of an entry that isn't yielded
pub leads_name : (least : ℕ) (a : FolderSet) (path name : List ℕ) (n : ℕ) → IsPlain name → n + 1 ≤ least
    → LeadsUnseen least a path n → LeadsUnseen least a (join path name) (n + 1)
leads_name least a path name n p few h = leads_on least a (join path name) (n + 1) (record {
  top = path;
  above = n;
  names = name ∷ [];
  begins = h;
  plain = (p, tt);
  path_is = refl;
  depth_is = omega arith;
  unseen = inr few;
})

pub leads_either : (least : ℕ) (a b : FolderSet) (path : List ℕ) (n : ℕ)
    → LeadsUnseen least (λ p k. a p k ⊎ b p k) path n → LeadsUnseen least a path n
    ⊎ LeadsUnseen least b path n
leads_either least a b path n h = elim h.begins [
  | inl i ↦ inl (record {
    top = h.top;
    above = h.above;
    names = h.names;
    begins = i;
    plain = h.plain;
    path_is = h.path_is;
    depth_is = h.depth_is;
    unseen = h.unseen;
  })
  | inr i ↦ inr (record {
    top = h.top;
    above = h.above;
    names = h.names;
    begins = i;
    plain = h.plain;
    path_is = h.path_is;
    depth_is = h.depth_is;
    unseen = h.unseen;
  })
]

pub levels_pushed : {C : Type 0} (levels : List (OpenFolder C)) (level : OpenFolder C) (path : List ℕ) (n : ℕ)
    → OfLevels (levels ++ level ∷ []) path n → IsOf level.folder path n ⊎ OfLevels levels path n
levels_pushed [] level path n h = elim h [ inl i ↦ inl i | inr i ↦ absurd i ]
levels_pushed (outer ∷ levels) level path n h = elim h [
  | inl i ↦ inr (inl i)
  | inr i ↦ elim (levels_pushed levels level path n i) [ inl j ↦ inl j | inr j ↦ inr (inr j) ]
]

pub levels_popped : {C : Type 0} (levels : List (OpenFolder C)) (level : OpenFolder C) (path : List ℕ) (n : ℕ)
    → IsOf level.folder path n ⊎ OfLevels levels path n → OfLevels (levels ++ level ∷ []) path n
levels_popped [] level path n h = h
levels_popped (outer ∷ levels) level path n h = elim h [
  | inl i ↦ inr (levels_popped levels level path n (inl i))
  | inr i ↦ elim i [ inl j ↦ inl j | inr j ↦ inr (levels_popped levels level path n (inr j)) ]
]

-- ---- the way

pub way_here : (place : StartPoint) (path : List ℕ) (n : ℕ)
    → OneFolder place.at.path.path (place.at.depth + 1) path n
    → OnWay place path n
way_here place path n h = ([], from_last place.names.items, refl, h.0, λ fits. omega (arith, h.1))

way_next : (place next : StartPoint) (x : String Global) → place.names.items ≡ next.names.items ++ x ∷ []
    → next.at.path.path ≡ join place.at.path.path (string_bytes x)
    → next.at.depth ≡ min (place.at.depth + 1) (2 ^ 64 - 1)
    → (path : List ℕ) (n : ℕ) → OnWay next path n → OnWay place path n
way_next place next x e q d path n h =
    let names : from_last place.names.items ≡ string_bytes x ∷ from_last next.names.items =
    ap from_last e ∙ from_last_end next.names.items x in (
      string_bytes x ∷ h.0,
      h.1,
      names ∙ ap (λ v. string_bytes x ∷ v) h.2,
      h.3 ∙ ap (λ v. path_from v h.0) q,
      λ fits. omega (arith, h.4 (omega (arith, fits, d)), d, fits),
    )

way_passed : (least : ℕ) (place : StartPoint) (start : List ℕ) (names : List (List ℕ))
    → place.at.path.path ≡ start → place.at.depth ≡ 0 → from_last place.names.items ≡ names
    → length names < 2 ^ 64
    → (top : List ℕ) (above : ℕ) → OnWay place top above → (path : List ℕ) (n : ℕ) (more : List (List ℕ))
    → ArePlain more → path ≡ path_from top more → n ≡ above + length more → (more ≡ []) ⊎ (n ≤ least)
    → IsPassed least start names path (n - 1)
way_passed least place start names q d e fits top above way path n more plain p k unseen =
    let long : length names ≡ length way.0 + length way.1 =
    ap length (sym e ∙ way.2) ∙ length-append way.0 way.1 in
    let inside : above ≡ length way.0 + 1 = omega (arith, d, way.4 (omega (arith, d, long, fits))) in
    let both : length (way.0 ++ more) ≡ length way.0 + length more = length-append way.0 more in
    record {
      front = way.0;
      rest = way.1;
      names = more;
      on_way = sym e ∙ way.2;
      plain = plain;
      path_is = p ∙ (ap (λ v. path_from v more) (way.3 ∙ ap (λ v. path_from v way.0) q)
          ∙ sym (path_from_append start way.0 more));
      depth_is = omega (arith, k, inside, both);
      unseen = elim unseen [
        | inl none ↦ inl none
        | inr few ↦ inr (omega (arith, few, k, inside))
      ];
    }

module _ {D C : Type 0} where
  -- more folders
  pub any_more : (w : Steps D C) (a b : FolderSet) → ((path : List ℕ) (n : ℕ) → a path n → b path n)
      → (path : List ℕ) (n : ℕ) → OfAny w a path n → OfAny w b path n
  any_more w a b f path n h = elim h [ inl i ↦ inl (f path n i) | inr i ↦ inr i ]

  pub reaches_more : (w : Steps D C) (a b : FolderSet) → ((path : List ℕ) (n : ℕ) → a path n → b path n)
      → (path : List ℕ) (n : ℕ) → ReachesFrom w a path n → ReachesFrom w b path n
  reaches_more w a b f path n h = leads_more w.min (OfAny w a) (OfAny w b) (any_more w a b f) path n h

  -- ---- steps

  -- allocation failed
  pub failed_places : (from entered : FolderSet) (most : ℕ) (w : Steps D C)
      → StepPlaces from entered most (Gives (Err Memory)) (record w { has_ended = true })
  failed_places from entered most w = record {
    item = λ path depth i. absurd i;
    later = λ path n e i. (cc);
    below = λ path n e i. (cc);
  }

  -- the walk ends with an error
  pub stopped_places : (from entered : FolderSet) (most : ℕ) (w new : Steps D C) (r : Step) (kind : FaultKind)
      (path : List ℕ) (depth n : ℕ) → step_given r ≡ Some (fault kind path depth)
      → new ≡ record w { has_ended = true } → depth ≡ n - 1 → from path n → StepPlaces from entered most r new
  stopped_places from entered most w new r kind path depth n e is d h =
      let ended : new.has_ended ≡ true = ap (λ v. v.has_ended) is in
      record {
        item = λ p k i.
            let j : IsErrorAt p k (Some (fault kind path depth)) = subst (λ v. IsErrorAt p k v) e i in
            (n, sym j.1 ∙ d, subst (λ v. from v n) j.0 h);
        later = λ p k f i. absurd (let b : true ≡ false = sym ended ∙ f in (cc));
        below = λ p k f i. absurd (let b : true ≡ false = sym ended ∙ f in (cc));
      }

  -- an error, and no folder is entered
  pub fault_places : (from entered : FolderSet) (most : ℕ) (w : Steps D C) (kind : FaultKind)
      (path : String Global) (depth n : ℕ) → depth ≡ n - 1 → from (string_bytes path) n → w.entered ≡ None
      → ((p : List ℕ) (k : ℕ) → ReachesFrom w no_folders p k → from p k)
      → StepPlaces from entered most (Gives (Err (Fault kind path depth))) w
  fault_places from entered most w kind path depth n d h none f = record {
    item = λ p k i. (n, sym i.1 ∙ d, subst (λ v. from v n) i.0 h);
    later = λ p k e i. f p k i;
    below = λ p k e i. absurd (subst (λ v. OfEntered v i.top i.above) none i.begins);
  }

  -- no item, and no folder is entered
  pub silent_places : (from entered : FolderSet) (most : ℕ) (w : Steps D C) (r : Step) → step_given r ≡ None
      → w.entered ≡ None → ((p : List ℕ) (k : ℕ) → ReachesFrom w no_folders p k → from p k)
      → StepPlaces from entered most r w
  silent_places from entered most w r e none f = record {
    item = λ p k i. absurd (subst (λ v. IsErrorAt p k v) e i);
    later = λ p k t i. f p k i;
    below = λ p k t i. absurd (subst (λ v. OfEntered v i.top i.above) none i.begins);
  }

  -- more folders
  pub places_more : (a b c d : FolderSet) (most : ℕ) (r : Step) (new : Steps D C)
      → ((path : List ℕ) (n : ℕ) → a path n → b path n) → ((path : List ℕ) (n : ℕ) → c path n → d path n)
      → StepPlaces a c most r new → StepPlaces b d most r new
  places_more a b c d most r new f g h = record {
    item = λ path depth i. let j = h.item path depth i in (j.0, j.1, f path j.0 j.2);
    later = λ path n e i. f path n (h.later path n e i);
    below = λ path n e i. elim (h.below path n e i) [
      | inl j ↦ inl j
      | inr j ↦ inr (j.0, g path n j.1)
    ];
  }

  -- ---- the parts of a state

  pub pushed_reaches : (w new : Steps D C) (level : OpenFolder C) (a : FolderSet) → new.min ≡ w.min
      → new.first ≡ w.first → new.levels.items ≡ w.levels.items ++ level ∷ []
      → ((path : List ℕ) (n : ℕ) → a path n → IsOf level.folder path n)
      → (path : List ℕ) (n : ℕ) → ReachesFrom new a path n → ReachesFrom w (IsOf level.folder) path n
  pushed_reaches w new level a least first levels f path n h =
      subst (λ m. LeadsUnseen m (OfAny w (IsOf level.folder)) path n) least
      (leads_more new.min (OfAny new a) (OfAny w (IsOf level.folder)) (λ p k i. elim i [
        | inl j ↦ inl (f p k j)
        | inr o ↦ elim o [
          | inl j ↦ inr (inl (subst (λ v. OfFirst v p k) first j))
          | inr j ↦
              elim (levels_pushed w.levels.items level p k (subst (λ v. OfLevels v p k) levels j)) [
                | inl l ↦ inl l
                | inr l ↦ inr (inr l)
              ]
        ]
      ]) path n h)

  -- a folder was popped, and the walk has no start point
  pub popped_reaches : (w mid : Steps D C) (level : OpenFolder C) → mid.min ≡ w.min → mid.first ≡ None
      → w.levels.items ≡ mid.levels.items ++ level ∷ []
      → (path : List ℕ) (n : ℕ) → ReachesFrom mid (IsOf level.folder) path n → ReachesFrom w no_folders path n
  popped_reaches w mid level least none levels path n h =
      subst (λ m. LeadsUnseen m (OfAny w no_folders) path n) least
      (leads_more mid.min (OfAny mid (IsOf level.folder)) (OfAny w no_folders) (λ p k i.
      let both : (IsOf level.folder p k ⊎ OfLevels mid.levels.items p k) → OfAny w no_folders p k =
      λ j.
      inr (inr (subst (λ v. OfLevels v p k) (sym levels) (levels_popped mid.levels.items level p k j))) in
      elim i [
        | inl j ↦ both (inl j)
        | inr o ↦ elim o [
          | inl j ↦ absurd (subst (λ v. OfFirst v p k) none j)
          | inr j ↦ both (inr j)
        ]
      ]) path n h)

  -- the start point was taken
  pub first_reaches : (w mid : Steps D C) (place : StartPoint) → mid.min ≡ w.min → mid.first ≡ None
      → w.first ≡ Some place → mid.levels.items ≡ w.levels.items
      → (path : List ℕ) (n : ℕ) → ReachesFrom mid (OnWay place) path n → ReachesFrom w no_folders path n
  first_reaches w mid place least none some levels path n h =
      subst (λ m. LeadsUnseen m (OfAny w no_folders) path n) least
      (leads_more mid.min (OfAny mid (OnWay place)) (OfAny w no_folders) (λ p k i. elim i [
        | inl j ↦ inr (inl (subst (λ v. OfFirst v p k) (sym some) j))
        | inr o ↦ elim o [
          | inl j ↦ absurd (subst (λ v. OfFirst v p k) none j)
          | inr j ↦ inr (inr (subst (λ v. OfLevels v p k) levels j))
        ]
      ]) path n h)

  -- the folder that is to be entered was taken
  pub entered_reaches : (w mid : Steps D C) (folder : code.Location) → mid.min ≡ w.min → mid.first ≡ None
      → w.entered ≡ Some folder → mid.levels.items ≡ w.levels.items
      → (path : List ℕ) (n : ℕ) → ReachesFrom mid (IsOf folder) path n
      → ReachesFrom w no_folders path n ⊎ LeadsUnseen w.min (OfEntered w.entered) path n
  entered_reaches w mid folder least none some levels path n h =
      let outer : FolderSet = λ p k. OfFirst mid.first p k ⊎ OfLevels mid.levels.items p k in
      elim (leads_either mid.min (IsOf folder) outer path n h) [
        | inl i ↦ inr (subst (λ m. LeadsUnseen m (OfEntered w.entered) path n) least
            (leads_more mid.min (IsOf folder) (OfEntered w.entered)
            (λ p k j. subst (λ v. OfEntered v p k) (sym some) j) path n i))
        | inr i ↦ inl (subst (λ m. LeadsUnseen m (OfAny w no_folders) path n) least
            (leads_more mid.min outer (OfAny w no_folders) (λ p k o. elim o [
              | inl j ↦ absurd (subst (λ v. OfFirst v p k) none j)
              | inr j ↦ inr (inr (subst (λ v. OfLevels v p k) levels j))
            ]) path n i))
      ]

  -- the next name was followed
  pub next_reaches : (w : Steps D C) (place next : StartPoint) (x : String Global)
      → place.names.items ≡ next.names.items ++ x ∷ []
      → next.at.path.path ≡ join place.at.path.path (string_bytes x)
      → next.at.depth ≡ min (place.at.depth + 1) (2 ^ 64 - 1)
      → (path : List ℕ) (n : ℕ) → ReachesFrom (record w { first = Some next }) no_folders path n
      → ReachesFrom w (OnWay place) path n
  next_reaches w place next x e q d path n h =
      leads_more w.min (OfAny (record w { first = Some next }) no_folders) (OfAny w (OnWay place))
      (λ p k i. elim i [
        | inl j ↦ absurd j
        | inr o ↦ elim o [
          | inl j ↦ inl (way_next place next x e q d p k j)
          | inr j ↦ inr (inr j)
        ]
      ]) path n h

  -- ---- the run

  reach_fails : (law : Law D C) (w : Steps D C) (path : List ℕ) (depth n : ℕ) → depth ≡ n - 1
      → MayReach w path n → MayFail (steps_view law w) path depth
  reach_fails law w path depth n d h = elim h.1 [
    | inl i ↦ inl (h.0, n, d, i)
    | inr i ↦ inr (h.0, n, d, i)
  ]

  pub run_reaches : (old mid new : Steps D C)
      → ((path : List ℕ) (n : ℕ) → MayReach mid path n → MayReach old path n)
      → StepPlaces (MayReach mid) (MayReach mid) mid.max GoesOn new
      → (path : List ℕ) (n : ℕ) → MayReach new path n → MayReach old path n
  run_reaches old mid new f s path n h = elim h.1 [
    | inl i ↦ f path n (s.later path n h.0 i)
    | inr i ↦ elim (s.below path n h.0 i) [
      | inl j ↦ absurd j
      | inr j ↦ f path n j.1
    ]
  ]

  pub run_places : (law : Law D C) (old mid new : Steps D C) (r : Step)
      → ((path : List ℕ) (n : ℕ) → MayReach mid path n → MayReach old path n) → mid.max ≡ old.max
      → StepPlaces (MayReach mid) (MayReach mid) mid.max r new → (step_given r ≡ None → HasStopped new)
      → Places (steps_view law old) (step_given r) (steps_view law new)
  run_places law old mid new r f same s stops = record {
    item = λ path depth i.
        let j = s.item path depth i in reach_fails law old path depth j.0 j.1 (f path j.0 j.2);
    later = λ path depth i. reach_fails law old path depth i.1 i.2 (f path i.1 (s.later path i.1 i.0 i.3));
    below = λ path depth i. elim (s.below path i.1 i.0 i.3) [
      | inl j ↦
          subst (λ d. IsFolderAt (is_above old.max) path d (step_given r)) (sym i.2)
          (subst (λ m. IsFolderAt (is_above m) path (i.1 - 1) (step_given r)) same j)
      | inr j ↦ elim (stops j.0) [
        | inl ended ↦ absurd (let b : true ≡ false = sym ended ∙ i.0 in (cc))
        | inr stopped ↦ absurd (subst (λ v. OfEntered v i.3.top i.3.above) stopped.1 i.3.begins)
      ]
    ];
  }

-- ---- the items of a folder

-- an entry of a folder has a plain name
found_name : (at : Location) (x : ListItem) (e : TreeEntry) → IsFound at x (Entry e)
    → (name : List ℕ) × IsPlain name × ((facts_of e).path ≡ join at.path name)
    × ((facts_of e).depth ≡ at.depth)
found_name at (I.Name name k) e f = elim f [
  | inl a ↦ (
    string_bytes name,
    plain_of (string_bytes name) (IsUtf8-string_bytes name) a.0,
    ap (λ v. v.path) a.1,
    ap (λ v. v.depth) a.1,
  )
  | inr a ↦ absurd a.1
]
found_name at I.Failed e f = absurd f
found_name at I.NotText e f = absurd f

-- an error of a folder has its path
found_path : (at : Location) (x : ListItem) (kind : FaultKind) (path : String Global)
    → IsFound at x (FoundFault kind path) → string_bytes path ≡ at.path
found_path at (I.Name name k) kind path f = elim f [ inl a ↦ absurd a.1 | inr a ↦ a.1.1 ]
found_path at I.Failed kind path f = f.1
found_path at I.NotText kind path f = f.1

module _ {D C : Type 0} (w : Steps D C) (at : Location) (x : ListItem) where
  -- an entry that isn't yielded is below its folder
  pub entry_places : (e : TreeEntry) (r : Step) (new : Steps D C) → IsFound at x (Entry e)
      → let f = facts_of e in
      (StepPlaces (ReachesFrom w no_folders)
      (λ p n. (f.depth < w.min) × LeadsUnseen w.min (OneFolder f.path (f.depth + 1)) p n) w.max r new
      → StepPlaces (ReachesFrom w (OneFolder at.path at.depth)) (ReachesFrom w (OneFolder at.path at.depth))
      w.max r new)
  entry_places e r new found s =
      let f = facts_of e in
      let one = OneFolder at.path at.depth in
      let named = found_name at x e found in
      places_more _ (ReachesFrom w one) _ (ReachesFrom w one) w.max r new
      (λ p n h. reaches_more w no_folders one (λ q k i. absurd i) p n h)
      (λ p n h. leads_on w.min (OfAny w one) p n
      (leads_more w.min (OneFolder f.path (f.depth + 1)) (ReachesFrom w one) (λ q k i.
      subst (λ v. ReachesFrom w one v k) (sym (i.0 ∙ named.2))
      (subst (λ m. ReachesFrom w one (join at.path named.0) m) (sym (i.1 ∙ ap (λ v. v + 1) named.3))
      (leads_name w.min (OfAny w one) at.path named.0 at.depth named.1 (omega (arith, h.0, named.3))
      (leads_here w.min (OfAny w one) at.path at.depth (inl (refl, refl))))))
      p n h.1)) s

  pub found_places : (kind : FaultKind) (path : String Global) (depth inside : ℕ)
      → IsFound at x (FoundFault kind path) → depth ≡ inside - 1 → w.entered ≡ None
      → StepPlaces (ReachesFrom w (OneFolder at.path inside)) (ReachesFrom w (OneFolder at.path inside)) w.max
      (Gives (Err (Fault kind path depth))) w
  found_places kind path depth inside f d none =
      let one = OneFolder at.path inside in
      fault_places (ReachesFrom w one) (ReachesFrom w one) w.max w kind path depth inside d
      (leads_here w.min (OfAny w one) (string_bytes path) inside (inl (found_path at x kind path f, refl)))
      none
      (λ p k h. reaches_more w no_folders one (λ q m i. absurd i) p k h)

-- ---- a walk when it is made

module _ {D C : Type 0} where
  -- of a walk that is at nothing no error can come
  pub none_reached : (w : Steps D C) → w.first ≡ None → w.levels.items ≡ []
      → (path : List ℕ) (depth : ℕ) → ¬ (MayFailAt w path depth)
  none_reached w first levels path depth h = elim h.3.begins [
    | inl i ↦ i
    | inr o ↦ elim o [
      | inl i ↦ subst (λ v. OfFirst v h.3.top h.3.above) first i
      | inr i ↦ subst (λ v. OfLevels v h.3.top h.3.above) levels i
    ]
  ]

  pub none_entered : (w : Steps D C) → w.entered ≡ None
      → (path : List ℕ) (depth : ℕ) → ¬ (MayFailBelow w path depth)
  none_entered w none path depth h = subst (λ v. OfEntered v h.3.top h.3.above) none h.3.begins

  -- of a walk that begins, errors can come only of what it passes
  pub begins_passed : (w : Steps D C) (place : StartPoint) (start : List ℕ) (names : List (List ℕ))
      → w.first ≡ Some place → w.levels.items ≡ [] → place.at.path.path ≡ start → place.at.depth ≡ 0
      → from_last place.names.items ≡ names → length names < 2 ^ 64
      → (path : List ℕ) (depth : ℕ) → MayFailAt w path depth → IsPassed w.min start names path depth
  begins_passed w place start names first levels q d e fits path depth h =
      let i = h.3 in
      subst (λ k. IsPassed w.min start names path k) (sym h.2) (elim i.begins [
        | inl no_folder ↦ absurd no_folder
        | inr o ↦ elim o [
          | inl j ↦
              way_passed w.min place start names q d e fits i.top i.above
              (subst (λ v. OfFirst v i.top i.above) first j) path h.1 i.names i.plain i.path_is i.depth_is
              i.unseen
          | inr j ↦ absurd (subst (λ v. OfLevels v i.top i.above) levels j)
        ]
      ])

-- errors come of what the walk passes, or of yielded folders
pub errors_passed : {D : Type 0} (least : ℕ) (start : List ℕ) (way : List (List ℕ))
    (most : ℕ) (view : WalkView D)
    (xs : List Given) → FailsFrom least start way view → view.may_open ≡ is_above most
    → AreOfFolders (MayFail view) view.may_open xs
    → AreOfFolders (IsPassed least start way) (is_above most) xs
errors_passed least start way most view xs fails same are before after x path depth e i =
    elim (are before after x path depth e i) [
      | inl may ↦ inl (elim may [
        | inl f ↦ fails.at path depth f
        | inr f ↦ absurd (fails.below path depth f)
      ])
      | inr has ↦ inr (subst (λ n. HasFolder n path depth before) same has)
    ]
