-- States of a walk: levels that are pushed and popped, and directories that answered.
use Rattle.std.proofs.Common.{◌≡◌, ℕ, ◌+◌, ◌-◌, ◌<◌, ◌≤◌, true, false, cond, List, [], ◌∷◌, ◌++◌, refl, sym}
use Rattle.std.proofs.{Common.{ap, subst, ◌∙◌, arith}, lemmas.Bool.lt-ltb, lemmas.List.map-append}
use Rattle.std.proofs.lemmas.List.Elements.{Contains-append_left}
use Rattle.std.specs.{Prelude.{Option, Some}, List.Contains}
use Rattle.wax_directory.specs.Law.{Law, ShowsSame, HoldsLast}
use Rattle.wax_directory.specs.Shown.{Items, Shown, a_leaf, a_folder, a_sealed, missing, failing, ShowsIn}
use Rattle.wax_walk.specs.{Forest.{Forest, nothing, lists, followed_by, pending}, Given.Given}
use Rattle.wax_tree.specs.{declared.steps.OpenFolder.OpenFolder, declared.steps.Steps.Steps}
use Rattle.wax_tree.specs.Plain.{WalkScope, Location, count, count_shown, below_forest, items_forest}
use Rattle.wax_tree.specs.Plain.{unlisted, HasKind, one_deeper}
use Rattle.wax_tree.specs.Walking.{IsAlone, located, scope_of, cursors_of, Rest, FirstShows, EnteredShows}
use Rattle.wax_tree.specs.Walking.{LevelsShow, AtRest, PlainToCome, WereListed}
use Rattle.wax_tree.proofs.Showing.{followed_nothing, followed_assoc, shows_in_moved}
use Rattle.wax_directory.specs.declared.directory.FileType.TheVariants as F
use Rattle.wax_tree.specs.declared.location.Location as code

pub levels_moved : {C : Type 0} (old new : List ℕ → Shown → Type 0) (scope : WalkScope)
    (same : (at : List ℕ) (s : Shown) → old at s → new at s) (ls : List (OpenFolder C)) (has : List Items)
    (f : Forest Given) (n : ℕ)
    → LevelsShow old scope ls has f n → LevelsShow new scope ls has f n
levels_moved old new scope same [] [] f n h = h
levels_moved old new scope same [] (l ∷ has) f n h = h
levels_moved old new scope same (lv ∷ inner) [] f n h = h
levels_moved old new scope same (lv ∷ inner) (l ∷ has) f n h = (
  h.0,
  h.1,
  shows_in_moved old new same lv.folder.path.path l h.2,
  levels_moved old new scope same inner has h.0 h.1 h.3,
  h.4,
  h.5,
)

module _ {C : Type 0} (shows : List ℕ → Shown → Type 0) (scope : WalkScope) where
  -- one more level
  pub levels_pushed : (ls : List (OpenFolder C)) (has : List Items) (lv : OpenFolder C)
      (l : Items) (f : Forest Given)
      (n : ℕ) → LevelsShow shows scope ls has f n → ShowsIn shows lv.folder.path.path l
      → LevelsShow shows scope (ls ++ lv ∷ []) (has ++ l ∷ [])
      (followed_by (items_forest scope (located lv.folder) l) f) (n + count l)
  levels_pushed [] [] lv l f n h i = (
    nothing,
    0,
    i,
    (refl, refl),
    ap (followed_by (items_forest scope (located lv.folder) l)) h.0 ∙
        followed_nothing (items_forest scope (located lv.folder) l),
    omega (arith, h.1),
  )
  levels_pushed [] (m ∷ has) lv l f n h i = absurd h
  levels_pushed (lw ∷ inner) [] lv l f n h i = absurd h
  levels_pushed (lw ∷ inner) (m ∷ has) lv l f n h i = (
    followed_by (items_forest scope (located lv.folder) l) h.0,
    h.1 + count l,
    h.2,
    levels_pushed inner has lv l h.0 h.1 h.3 i,
    ap (followed_by (items_forest scope (located lv.folder) l)) h.4 ∙ sym
        (followed_assoc (items_forest scope (located lv.folder) l) h.0
        (items_forest scope (located lw.folder) m)),
    omega (arith, h.5),
  )

  -- what the innermost level has to give, and what comes of the others
  abbrev pub Popped : List (OpenFolder C) → OpenFolder C → List Items → Forest Given → ℕ → Type 0
  Popped ls lv has f n = (outer : List Items) × (l : Items) × (g : Forest Given) × (m : ℕ) ×
      (has ≡ outer ++ l ∷ []) × ShowsIn shows lv.folder.path.path l × LevelsShow shows scope ls
      outer g m
      × (f ≡ followed_by (items_forest scope (located lv.folder) l) g) × (n ≡ m + count l)

  pub levels_popped : (ls : List (OpenFolder C)) (lv : OpenFolder C) (has : List Items)
      (f : Forest Given) (n : ℕ)
      → LevelsShow shows scope (ls ++ lv ∷ []) has f n → Popped ls lv has f n
  levels_popped [] lv [] f n h = absurd h
  levels_popped [] lv (l ∷ []) f n h = (
    [],
    l,
    nothing,
    0,
    refl,
    h.2,
    (refl, refl),
    h.4 ∙ (ap (λ v. followed_by v (items_forest scope (located lv.folder) l)) h.3.0 ∙ sym
        (followed_nothing (items_forest scope (located lv.folder) l))),
    omega (arith, h.5, h.3.1),
  )
  levels_popped [] lv (l ∷ m ∷ has) f n h = absurd h.3
  levels_popped (lw ∷ inner) lv [] f n h = absurd h
  levels_popped (lw ∷ inner) lv (l ∷ has) f n h =
      let p = levels_popped inner lv has h.0 h.1 h.3 in
      let back = items_forest scope (located lw.folder) l in (
        l ∷ p.0,
        p.1,
        followed_by p.2 back,
        p.3 + count l,
        ap (λ v. l ∷ v) p.4,
        p.5,
        (p.2, p.3, h.2, p.6, refl, refl),
        h.4 ∙ (ap (λ v. followed_by v back) p.7 ∙ followed_assoc
            (items_forest scope (located lv.folder) p.1) p.2 back),
        omega (arith, h.5, p.8),
      )

  pub levels_none : (ls : List (OpenFolder C)) (has : List Items) (f : Forest Given) (n : ℕ)
      → LevelsShow shows scope ls has f n → ls ≡ [] → f ≡ nothing
  levels_none [] [] f n h e = h.0
  levels_none [] (l ∷ has) f n h e = absurd h
  levels_none (lv ∷ inner) has f n h e = cc

-- a folder that will be entered
pub enters_later : (shows : List ℕ → Shown → Type 0) (scope : WalkScope) (e : code.Location) (at : Location)
    (s : Shown) → shows at.path s → HasKind s F.Folder → at.depth < scope.max → located e ≡ one_deeper at
    → (n : ℕ) × (n ≤ count_shown s) × EnteredShows shows scope (Some e) (below_forest scope at s) n
enters_later shows scope e at (a_folder l) h k d i = (
  count l,
  omega arith,
  (
    a_folder l,
    subst (λ v. shows v (a_folder l)) (sym (ap (λ v. v.path) i)) h,
    tt,
    ap (λ b. cond b (lists at.path (items_forest scope (one_deeper at) l)) nothing)
        (lt-ltb at.depth scope.max d)
        ∙ (λ j. lists (sym i j).path (items_forest scope (sym i j) l)),
    refl,
  ),
)
enters_later shows scope e at a_sealed h k d i =
    let p : e.path.path ≡ at.path = ap (λ v. v.path) i in
    let deep : e.depth ≡ at.depth + 1 = ap (λ v. v.depth) i in
    let back : at.depth ≡ e.depth - 1 = omega (arith, deep) in (
      0,
      omega arith,
      (
        a_sealed,
        subst (λ v. shows v a_sealed) (sym p) h,
        tt,
        rw p (ap (λ b. cond b (unlisted scope at.path at.depth) nothing) (lt-ltb at.depth scope.max d) ∙ ap
            (unlisted scope at.path) back),
        refl,
      ),
    )
enters_later shows scope e at (a_leaf true) h k d i = cc
enters_later shows scope e at (a_leaf false) h k d i = cc
enters_later shows scope e at missing h k d i = absurd k
enters_later shows scope e at failing h k d i = absurd k

pub cursors_pushed : {C : Type 0} (ls : List (OpenFolder C)) (lv : OpenFolder C)
    → cursors_of (ls ++ lv ∷ []) ≡ cursors_of ls ++ lv.cursor ∷ []
cursors_pushed ls lv = map-append (λ level. level.cursor) ls (lv ∷ [])

module _ {C : Type 0} where
  listed_pushed : (levels : List (OpenFolder C)) (last : OpenFolder C) (listed : List (List ℕ))
      → WereListed levels listed → Contains listed last.folder.path.path
      → WereListed (levels ++ last ∷ []) listed
  listed_pushed [] last listed h k = (k, tt)
  listed_pushed (level ∷ levels) last listed h k = (h.0, listed_pushed levels last listed h.1 k)

  pub listed_popped : (levels : List (OpenFolder C)) (last : OpenFolder C) (listed : List (List ℕ))
      → WereListed (levels ++ last ∷ []) listed
      → WereListed levels listed × Contains listed last.folder.path.path
  listed_popped [] last listed h = (tt, h.0)
  listed_popped (level ∷ levels) last listed h =
      let rest = listed_popped levels last listed h.1 in ((h.0, rest.0), rest.1)

  pub listed_more : (levels : List (OpenFolder C)) (listed more : List (List ℕ)) → WereListed levels listed
      → WereListed levels (listed ++ more)
  listed_more [] listed more h = tt
  listed_more (level ∷ levels) listed more h =
      (Contains-append_left listed more _ h.0, listed_more levels listed more h.1)

module _ {D C : Type 0} (law : Law D C) where
  pub comes_after : (w : Steps D C) (e : Option code.Location) (below : Forest Given)
      (k items : ℕ) (rest : Rest)
      → AtRest law w rest → EnteredShows (law.shows w.directory) (scope_of w) e below k
      → k + rest.count ≤ items
      → PlainToCome law (record w { entered = e }) (pending below rest.forest rest.listed items)
  comes_after w e below k items rest r i few = record {
    has = rest.has;
    back = rest.forest;
    of_first = 0;
    of_entered = k;
    of_levels = rest.count;
    first = subst (λ v. FirstShows (law.shows w.directory) (scope_of w) v rest.forest rest.forest 0)
        (sym r.first) (refl, refl);
    entered = i;
    levels = r.levels;
    held = r.held;
    few = omega (arith, few);
    alone = subst (λ v. IsAlone v e w.levels.items) (sym r.first) tt;
    told = r.told;
    opened = r.opened;
    ended = λ t. absurd (let x : true ≡ false = sym t ∙ r.running in (cc));
  }

  pub comes_rest : (w : Steps D C) (items : ℕ) (rest : Rest) → AtRest law w rest → rest.count ≤ items
      → PlainToCome law w (pending nothing rest.forest rest.listed items)
  comes_rest w items rest r few = record {
    has = rest.has;
    back = rest.forest;
    of_first = 0;
    of_entered = 0;
    of_levels = rest.count;
    first = subst (λ v. FirstShows (law.shows w.directory) (scope_of w) v rest.forest rest.forest 0)
        (sym r.first) (refl, refl);
    entered = subst (λ v. EnteredShows (law.shows w.directory) (scope_of w) v nothing 0) (sym r.entered)
        (refl, refl);
    levels = r.levels;
    held = r.held;
    few = omega (arith, few);
    alone = subst (λ v. IsAlone v w.entered w.levels.items) (sym r.first) tt;
    told = r.told;
    opened = r.opened;
    ended = λ t. absurd (let x : true ≡ false = sym t ∙ r.running in (cc));
  }

  -- the walk has ended
  pub comes_ended : (w : Steps D C) (items : ℕ) (rest : Rest) → AtRest law w rest → w.levels.items ≡ []
      → rest.count ≤ items → PlainToCome law (record w { has_ended = true })
      (pending nothing rest.forest rest.listed items)
  comes_ended w items rest r none few =
      let c = comes_rest w items rest r few in
      record {
        has = c.has;
        back = c.back;
        of_first = c.of_first;
        of_entered = c.of_entered;
        of_levels = c.of_levels;
        first = c.first;
        entered = c.entered;
        levels = c.levels;
        held = c.held;
        few = c.few;
        alone = c.alone;
        told = c.told;
        opened = c.opened;
        ended = λ t. (
          refl,
          levels_none (law.shows w.directory) (scope_of w) w.levels.items rest.has
              rest.forest rest.count r.levels none,
        );
      }

  -- the directory answered
  pub rest_moved : (w : Steps D C) (d : D) (listed : List (List ℕ)) (rest : Rest) → AtRest law w rest
      → ShowsSame law w.directory d → law.holds d (cursors_of w.levels.items) rest.has → law.tells d listed
      → WereListed w.levels.items listed
      → AtRest law (record w { directory = d }) (record rest { listed = listed })
  rest_moved w d listed rest r same held told opened = record {
    levels = levels_moved (law.shows w.directory) (law.shows d) (scope_of w) same w.levels.items rest.has
        rest.forest rest.count r.levels;
    held = held;
    told = told;
    opened = opened;
    first = r.first;
    entered = r.entered;
    running = r.running;
  }

  -- a folder was opened, or an item taken from it
  pub rest_pushed : (w v : Steps D C) (lv : OpenFolder C) (l : Items) (rest : Rest) → AtRest law w rest
      → HoldsLast law w.directory (cursors_of w.levels.items) rest.has lv.cursor l
      → ShowsIn (law.shows w.directory) lv.folder.path.path l
      → Contains rest.listed lv.folder.path.path
      → v.levels.items ≡ w.levels.items ++ lv ∷ []
      → AtRest law (record w { levels = v.levels })
      (record {
        has = rest.has ++ l ∷ [];
        forest =
            followed_by (items_forest (scope_of w) (located lv.folder) l) rest.forest;
        count =
            rest.count + count l;
        listed = rest.listed;
      })
  rest_pushed w v lv l rest r held shown opened e = record {
    levels = subst (λ ls. LevelsShow (law.shows w.directory) (scope_of w) ls (rest.has ++ l ∷ [])
        (followed_by (items_forest (scope_of w) (located lv.folder) l) rest.forest)
        (rest.count + count l)) (sym e)
        (levels_pushed (law.shows w.directory) (scope_of w) w.levels.items rest.has lv l rest.forest
        rest.count r.levels shown);
    held = subst (λ ls. law.holds w.directory (cursors_of ls) (rest.has ++ l ∷ [])) (sym e)
        (subst (λ cs. law.holds w.directory cs (rest.has ++ l ∷ [])) (sym (cursors_pushed w.levels.items lv))
        held);
    told = r.told;
    opened = subst (λ ls. WereListed ls rest.listed) (sym e)
        (listed_pushed w.levels.items lv rest.listed r.opened opened);
    first = r.first;
    entered = r.entered;
    running = r.running;
  }

  -- an item was taken
  pub rest_spent : (w : Steps D C) (budget : ℕ) (rest : Rest) → AtRest law w rest
      → AtRest law (record w { budget = budget }) rest
  rest_spent w budget rest r =
      record {
        levels = r.levels;
        held = r.held;
        told = r.told;
        opened = r.opened;
        first = r.first;
        entered = r.entered;
        running = r.running;
      }
