-- Which folders are listed after all filters.
use Rattle.std.proofs.Common.{◌≡◌, ℕ, ◌<◌, Bool, true, false, ◌⊎◌, cond, List, [], ◌∷◌, ◌++◌, map, refl, sym}
use Rattle.std.proofs.Common.{ap, subst, ◌∙◌, inl, inr, arith, append_assoc, append-nil, chars}
use Rattle.std.proofs.{lemmas.Bool.ltb-true, lemmas.List.Elements.{All-append, All-cons, All-nil, All-weaker}}
use Rattle.std.specs.Prelude.{nat_lt, ⊤, All}
use Rattle.wax_directory.specs.declared.directory.FileType.{FileType}
use Rattle.wax_directory.specs.declared.directory.FileType.TheVariants.{Folder}
use Rattle.wax_directory.specs.Shown.{Items, end, leaf, folder, sealed, misnamed, unread, not_text, Shown}
use Rattle.wax_directory.specs.Shown.{a_leaf, a_folder, a_sealed, missing, failing, leaf_kind, join, IsPlain}
use Rattle.wax_token.specs.Decided.{means_test}
use Rattle.wax_tree.specs.{Begins.{Origin, scope_in}, declared.steps.DepthRange.DepthRange}
use Rattle.wax_tree.specs.Plain.{WalkScope, Location, one_deeper, plain_entry, items_forest, plain_at}
use Rattle.wax_tree.specs.{Walking.entry_location, Prefix.path_from}
use Rattle.wax_walk.specs.declared.error.FaultKind.TheVariants.{Listing}
use Rattle.wax_walk.specs.Forest.{Forest, nothing, item, lists, listings, followed_by, filtered}
use Rattle.wax_walk.specs.Given.{Facts, Mark, kept, alone, with_tree, Given, entry, fault, combined_mark}
use Rattle.wax_walk.specs.Given.{is_cut, changed_by, cut_by}
use Rattle.wax_exclude.proofs.{Filters.{filter_descends, below_said}, Names.{at_join, at_sees, names_chars}}
use Rattle.wax_exclude.proofs.Tests.{lead_tested}
use Rattle.wax_query.specs.Below.{AreNames}
use Rattle.wax_exclude.specs.Candidates.{candidate_at, text_at}
use Rattle.wax_exclude.specs.{inner.Descents.{said_of, At, child_location}, Leading.{leading_of, lead_test}}
use Rattle.wax_exclude.specs.{Marks.{led_mark, glob_mark}, Premises.{ArePlainItems, IsPlainShown}}
use Rattle.wax_exclude.specs.Walked.{AreUncovered, MayList}
use Rattle.wax_exclude.specs.Wanted.{Filter, Wanted, stacked, filter_mark, filter_rules, rules_of}

-- no rule excludes the entry with everything below it
abbrev pub NoneLeaves : List (Facts → Mark) → Facts → Type 0
NoneLeaves [] f = ⊤
NoneLeaves (rule ∷ rules) f = ¬ (rule f ≡ with_tree) × NoneLeaves rules f

module _ (OfEntry : Facts → List ℕ → Type 0) (Free : List ℕ → Type 0) where
  -- the folder is listed below its entry, which none of these rules excludes with everything below it
  pub record Guarded (rules : List (Facts → Mark)) (x : Given) (path : List ℕ) : Type 0 where
    pub mark : Mark
    pub facts : Facts
    pub is : x ≡ entry mark facts
    pub stays : ¬ (mark ≡ with_tree)
    pub of_entry : OfEntry facts path
    pub none : NoneLeaves rules facts

  -- each folder is listed right below its entry, or is free
  abbrev mutual
    pub Well : List (Facts → Mark) → Forest Given → Type 0
    Well rules nothing = ⊤
    Well rules (item x below after) = WellBelow rules x below × Well rules after
    Well rules (lists path after) = Free path × Well rules after

    pub WellBelow : List (Facts → Mark) → Given → Forest Given → Type 0
    WellBelow rules x nothing = ⊤
    WellBelow rules x (item y below after) = WellBelow rules y below × Well rules after
    WellBelow rules x (lists path after) = Guarded rules x path × Well rules after

  uncut : (m s : Mark) (f : Facts) → ¬ (m ≡ with_tree) → is_cut (entry m f) s ≡ false
      → ¬ (s ≡ with_tree) × ¬ (combined_mark m s ≡ with_tree)
  uncut kept kept f n e = ((λ i. (cc)), (λ i. (cc)))
  uncut kept alone f n e = ((λ i. (cc)), (λ i. (cc)))
  uncut kept with_tree f n e = cc
  uncut alone kept f n e = ((λ i. (cc)), (λ i. (cc)))
  uncut alone alone f n e = ((λ i. (cc)), (λ i. (cc)))
  uncut alone with_tree f n e = cc
  uncut with_tree s f n e = absurd (n refl)

  module _ (rule : Facts → Mark) (rules : List (Facts → Mark)) where
    guarded_after : (x : Given) (path : List ℕ) → Guarded rules x path → cut_by rule x ≡ false
        → Guarded (rule ∷ rules) (changed_by rule x) path
    guarded_after x path g e =
        let u = uncut g.mark (rule g.facts) g.facts g.stays (subst (λ v. cut_by rule v ≡ false) g.is e) in
        record {
          mark = combined_mark g.mark (rule g.facts);
          facts = g.facts;
          is = ap (changed_by rule) g.is;
          stays = u.1;
          of_entry = g.of_entry;
          none = (u.0, g.none);
        }

    well_cut : (x : Given) (b : Bool) → cut_by rule x ≡ b → (below : Forest Given)
        → (cut_by rule x ≡ false → WellBelow (rule ∷ rules) (changed_by rule x) below)
        → WellBelow (rule ∷ rules) (changed_by rule x) (cond b nothing below)
    well_cut x true e below h = tt
    well_cut x false e below h = h e

    mutual
      well_after : (f : Forest Given) → Well rules f
          → Well (rule ∷ rules) (filtered (changed_by rule) (cut_by rule) f)
      well_after nothing h = tt
      well_after (item x below after) h = (
        well_cut x (cut_by rule x) refl (filtered (changed_by rule) (cut_by rule) below)
            (λ e. below_after x below h.0 e),
        well_after after h.1,
      )
      well_after (lists path after) h = (h.0, well_after after h.1)

      below_after : (x : Given) (below : Forest Given) → WellBelow rules x below → cut_by rule x ≡ false
          → WellBelow (rule ∷ rules) (changed_by rule x) (filtered (changed_by rule) (cut_by rule) below)
      below_after x nothing h e = tt
      below_after x (item y below after) h e = (
        well_cut y (cut_by rule y) refl (filtered (changed_by rule) (cut_by rule) below)
            (λ i. below_after y below h.0 i),
        well_after after h.1,
      )
      below_after x (lists path after) h e = (guarded_after x path h.0 e, well_after after h.1)

  abbrev pub done_with : List (Facts → Mark) → List (Facts → Mark) → List (Facts → Mark)
  done_with [] done = done
  done_with (rule ∷ rules) done = done_with rules (rule ∷ done)

  pub well_stacked : (rules done : List (Facts → Mark)) (f : Forest Given) → Well done f
      → Well (done_with rules done) (stacked rules f)
  well_stacked [] done f h = h
  well_stacked (rule ∷ rules) done f h =
      well_stacked rules (rule ∷ done) (filtered (changed_by rule) (cut_by rule) f) (well_after rule done f h)

  pub none_done : (rules done : List (Facts → Mark)) (f : Facts) → NoneLeaves (done_with rules done) f
      → NoneLeaves rules f × NoneLeaves done f
  none_done [] done f h = (tt, h)
  none_done (rule ∷ rules) done f h = let r = none_done rules (rule ∷ done) f h in ((r.1.0, r.0), r.1.1)

  abbrev pub Chosen : List (Facts → Mark) → List ℕ → Type 0
  Chosen rules path = Free path ⊎ ((f : Facts) × OfEntry f path × NoneLeaves rules f)

  mutual
    pub each_listed : (rules : List (Facts → Mark)) (f : Forest Given) → Well rules f
        → All (Chosen rules) (listings f)
    each_listed rules nothing h = All-nil (Chosen rules)
    each_listed rules (item x below after) h =
        All-append (Chosen rules) (listings below) (listings after) (each_below rules x below h.0)
        (each_listed rules after h.1)
    each_listed rules (lists path after) h =
        All-cons (Chosen rules) path (listings after) (inl h.0) (each_listed rules after h.1)

    each_below : (rules : List (Facts → Mark)) (x : Given) (f : Forest Given) → WellBelow rules x f
        → All (Chosen rules) (listings f)
    each_below rules x nothing h = All-nil (Chosen rules)
    each_below rules x (item y below after) h =
        All-append (Chosen rules) (listings below) (listings after) (each_below rules y below h.0)
        (each_listed rules after h.1)
    each_below rules x (lists path after) h =
        All-cons (Chosen rules) path (listings after) (inr (h.0.facts, h.0.of_entry, h.0.none))
        (each_listed rules after h.1)

  well_followed : (rules : List (Facts → Mark)) (f g : Forest Given) → Well rules f → Well rules g
      → Well rules (followed_by f g)
  well_followed rules nothing g h k = k
  well_followed rules (item x below after) g h k = (h.0, well_followed rules after g h.1 k)
  well_followed rules (lists path after) g h k = (h.0, well_followed rules after g h.1 k)

pub path_last : (path : List ℕ) (names : List (List ℕ)) (x : List ℕ)
    → path_from path (names ++ x ∷ []) ≡ join (path_from path names) x
path_last path [] x = refl
path_last path (n ∷ names) x = path_last (join path n) names x

module _ (rooted : Bool) (scope : WalkScope) (start : List ℕ) (prefix : List (List ℕ)) where
  -- the location of some names below the path
  pub record IsBelow (at : Location) : Type 0 where
    pub names : List (List ℕ)
    pub path_is : at.path ≡ path_from start names
    pub place : At rooted at (prefix ++ names)

  abbrev pub location_at : Facts → List ℕ → Location
  location_at f path = record (entry_location f) { path = path }

  abbrev pub OfFolder : Facts → List ℕ → Type 0
  OfFolder f path = IsBelow (location_at f path) × (f.depth < scope.max) × (f.kind ≡ Folder)

  abbrev pub AboveLeast : List ℕ → Type 0
  AboveLeast path = (at : Location) × (at.path ≡ path) × IsBelow
      at × (at.depth < scope.max) × (at.depth < scope.min)

  abbrev IsWell : Forest Given → Type 0
  IsWell f = Well OfFolder AboveLeast [] f

  abbrev in_folder : Location → Items → Forest Given
  in_folder at l = items_forest scope (one_deeper at) l

  well_folder : (at : Location) → IsBelow at → (b c : Bool) → nat_lt at.depth scope.min ≡ b
      → nat_lt at.depth scope.max ≡ c
      → (inner rest : Forest Given) → IsWell inner → IsWell rest
      → IsWell (cond b (followed_by (cond c (lists at.path inner) nothing) rest)
      (item (plain_entry at Folder) (cond c (lists at.path inner) nothing) rest))
  well_folder at s true true e f inner rest h k = (
    (at, refl, s, ltb-true at.depth scope.max f, ltb-true at.depth scope.min e),
    well_followed OfFolder AboveLeast [] inner rest h k,
  )
  well_folder at s true false e f inner rest h k = k
  well_folder at s false true e f inner rest h k = (
    (
      record {
        mark = kept;
        facts = record {
          path = at.path;
          root = at.root;
          candidate = at.candidate;
          depth = at.depth;
          kind = Folder;
        };
        is = refl;
        stays = λ i. (cc);
        of_entry = (s, ltb-true at.depth scope.max f, refl);
        none = tt;
      },
      h,
    ),
    k,
  )
  well_folder at s false false e f inner rest h k = (tt, k)

  well_leaf : (at : Location) (kind : FileType) (b : Bool) (rest : Forest Given) → IsWell rest
      → IsWell (cond b (followed_by nothing rest) (item (plain_entry at kind) nothing rest))
  well_leaf at kind true rest k = k
  well_leaf at kind false rest k = (tt, k)

  below_child : (at : Location) (x : List ℕ) → IsBelow at → IsPlain x → IsBelow (child_location at x)
  below_child at x s t = record {
    names = s.names ++ x ∷ [];
    path_is = ap (λ v. join v x) s.path_is ∙ sym (path_last start s.names x);
    place = subst (λ v. At rooted (child_location at x) v) (append_assoc prefix s.names (x ∷ []))
        (at_join rooted at (prefix ++ s.names) x s.place t);
  }

  well_inside : (at : Location) (l : Items) → IsBelow at → ArePlainItems l → IsWell (in_folder at l)
  well_inside at end s t = tt
  well_inside at (leaf x link rest) s t =
      let c = child_location at x in
      well_leaf c (leaf_kind link) (nat_lt c.depth scope.min) (in_folder at rest) (well_inside at rest s t.1)
  well_inside at (folder x inner rest) s t =
      let c = child_location at x in
      let r = below_child at x s t.0 in
      well_folder c r (nat_lt c.depth scope.min) (nat_lt c.depth scope.max) refl refl (in_folder c inner)
      (in_folder at rest) (well_inside c inner r t.1) (well_inside at rest s t.2)
  well_inside at (sealed x rest) s t =
      let c = child_location at x in
      well_folder c (below_child at x s t.0) (nat_lt c.depth scope.min) (nat_lt c.depth scope.max) refl refl
      (item (fault Listing c.path c.depth) nothing nothing) (in_folder at rest) (tt, tt)
      (well_inside at rest s t.1)
  well_inside at (misnamed x kind rest) s t = (tt, well_inside at rest s t)
  well_inside at (unread rest) s t = (tt, well_inside at rest s t)
  well_inside at (not_text rest) s t = (tt, well_inside at rest s t)

  pub well_at : (at : Location) (s : Shown) → IsBelow at → IsPlainShown s
      → IsWell (plain_at scope at s nothing)
  well_at at (a_leaf link) s t = well_leaf at (leaf_kind link) (nat_lt at.depth scope.min) nothing tt
  well_at at (a_folder l) s t =
      well_folder at s (nat_lt at.depth scope.min) (nat_lt at.depth scope.max) refl refl (in_folder at l)
      nothing
      (well_inside at l s t) tt
  well_at at a_sealed s t =
      well_folder at s (nat_lt at.depth scope.min) (nat_lt at.depth scope.max) refl refl
      (item (fault Listing at.path at.depth) nothing nothing) nothing (tt, tt) tt
  well_at at missing s t = (tt, tt)
  well_at at failing s t = (tt, tt)

  unled : (b m : Bool) → b ≡ false → led_mark b m ≡ with_tree
  unled b m e = ap (λ v. led_mark v m) e

  is_led : (b m : Bool) → ¬ (led_mark b m ≡ with_tree) → b ≡ true
  is_led true m n = refl
  is_led false m n = absurd (n refl)

  pub none_covers : {A : Type 0} (filters : List (Filter A)) (f : Facts) (path : List ℕ)
      (names : List (List ℕ))
      → At rooted (location_at f path) names → NoneLeaves (filter_rules filters) f
      → AreUncovered rooted filters (map chars names)
  none_covers [] f path names a h = tt
  none_covers (x ∷ filters) f path names a h = (
    λ front back e c.
        let n = names_chars names a.are_plain in
        let w : said_of rooted (filter_mark x) front ≡ with_tree =
        below_said x (candidate_at rooted front) c in
        h.0 (ap (filter_mark x) (at_sees rooted (location_at f path) names a)
        ∙ ap (said_of rooted (filter_mark x)) (sym e)
        ∙ filter_descends rooted x front back (subst AreNames (sym e) n) w),
    none_covers filters f path names a h.1,
  )

-- the walk from the last name of an origin on, in a range
module _ {A : Type 0} (w : Wanted A) (range : DepthRange) (origin : Origin) where
  abbrev scope : WalkScope
  scope = scope_in range

  abbrev pub origin_end : List ℕ
  origin_end = path_from origin.path origin.names

  abbrev OfFolders : Facts → List ℕ → Type 0
  OfFolders f path = OfFolder w.rooted scope origin_end origin.names f path

  abbrev Above : List ℕ → Type 0
  Above path = AboveLeast w.rooted scope origin_end origin.names path

  abbrev all_rules : List (Facts → Mark)
  all_rules = done_with OfFolders Above (rules_of w) []

  may_list : (path : List ℕ) → Chosen OfFolders Above all_rules path → MayList w range origin path
  may_list path (inl (at, e, s, low, small)) = record {
    names = s.names;
    path_is = sym e ∙ s.path_is;
    are_plain = s.place.are_plain;
    above_greatest = omega (arith, low, s.place.depth_is);
    are_led = λ h. absurd (omega (arith, small, s.place.depth_is, h));
    uncovered = λ h. absurd (omega (arith, small, s.place.depth_is, h));
  }
  may_list path (inr (f, s, none)) =
      let n = (none_done OfFolders Above (rules_of w) [] f none).0 in
      let names = map chars (origin.names ++ s.0.names) in
      let at = location_at w.rooted scope origin_end origin.names f path in
      let lead = lead_test (leading_of w.rooted w.glob) names in
      let meant = means_test w.glob false false (text_at w.rooted names) in
      record {
        names = s.0.names;
        path_is = s.0.path_is;
        are_plain = s.0.place.are_plain;
        above_greatest = omega (arith, s.1, s.0.place.depth_is);
        are_led = λ h. (lead_tested (leading_of w.rooted w.glob) names).0
            (is_led w.rooted scope origin_end origin.names lead meant
            (λ e. n.0 (ap (glob_mark w.rooted w.glob)
            (at_sees w.rooted at (origin.names ++ s.0.names) s.0.place)
            ∙ e)));
        uncovered = λ h.
            none_covers w.rooted scope origin_end origin.names w.filters f path
            (origin.names ++ s.0.names) s.0.place n.1;
      }

  -- the walk lists only folders that it may list
  pub walk_lists : (at : Location) (s : Shown) → at.path ≡ origin_end
      → At w.rooted at origin.names → IsPlainShown s
      → All (MayList w range origin) (listings (stacked (rules_of w) (plain_at scope at s nothing)))
  walk_lists at s e a x =
      let f = plain_at scope at s nothing in
      let below : IsBelow w.rooted scope origin_end origin.names at = record {
        names = [];
        path_is = e;
        place = subst (λ v. At w.rooted at v) (sym (append-nil origin.names)) a;
      } in
      let well = well_stacked OfFolders Above (rules_of w) [] f
      (well_at w.rooted scope origin_end origin.names at s below x) in
      All-weaker (Chosen OfFolders Above all_rules) (MayList w range origin) may_list
      (listings (stacked (rules_of w) f))
      (each_listed OfFolders Above all_rules (stacked (rules_of w) f) well)
