-- Which folders a least walk lists.
use Rattle.std.proofs.Common.{◌≡◌, ℕ, ◌<◌, Bool, true, false, ◌&&◌, not, cond, List, [], ◌∷◌, ◌++◌, map, refl}
use Rattle.std.proofs.Common.{length, sym, ap, subst, ◌∙◌, inl, inr, arith, append_assoc, append-nil, chars}
use Rattle.std.proofs.lemmas.List.Elements.{All-nil, All-weaker}
use Rattle.std.specs.Prelude.{All, Option}
use Rattle.wax_directory.specs.Shown.{Shown, a_leaf, a_folder, a_sealed, missing, failing, child_in}
use Rattle.wax_tree.specs.{Begins.{Origin, origin_location, scope_in}, declared.steps.DepthRange.DepthRange}
use Rattle.wax_tree.specs.{Plain.{WalkScope, Location, plain_at}, Prefix.{ArePlain, path_from, walk_from}}
use Rattle.wax_tree.specs.Programs.{limit_below}
use Rattle.wax_walk.specs.declared.error.FaultKind.{FaultKind}
use Rattle.wax_walk.specs.declared.error.FaultKind.TheVariants.{NotFound, NotAFolder, Listing}
use Rattle.wax_walk.specs.{Forest.{Forest, nothing, item, lists, listings}, Given.{Facts, Mark, Given, fault}}
use Rattle.wax_walk.specs.{View.is_folder_kind, Pruned.{is_closed, pruned}}
use Rattle.wax_exclude.proofs.Headline.{at_start, stacked_fault}
use Rattle.wax_exclude.proofs.Listing.{Guarded, Well, WellBelow, done_with, well_stacked, none_done, Chosen}
use Rattle.wax_exclude.proofs.Listing.{each_listed, IsBelow, OfFolder, AboveLeast, location_at, well_at}
use Rattle.wax_exclude.proofs.{Listing.{none_covers, origin_end}, Names.{at_join, chars_joined, names_chars}}
use Rattle.wax_exclude.proofs.Reaching.{plain_child}
use Rattle.wax_exclude.specs.{Candidates.text_at, inner.Descents.{At, child_location}, Premises.IsPlainShown}
use Rattle.wax_exclude.specs.Pruned.{TestsBelow, opens_where, least_rules, least_walk, CanWalkLeast, MayOpen}
use Rattle.wax_exclude.specs.Wanted.{Wanted, stacked}

opened : (o k : Bool) → k ≡ true → not o && k ≡ false → o ≡ true
opened true k e f = refl
opened false k e f = absurd (let h : true ≡ false = sym e ∙ f in let g : ⊥ = cc in g)

module _ (opens : Facts → Bool) (OfEntry : Facts → List ℕ → Type 0)
    (of_folder : (f : Facts) (path : List ℕ) → OfEntry f path → is_folder_kind f.kind ≡ true)
    (Free : List ℕ → Type 0) where
  -- of a folder that is opened
  abbrev pub OfOpened : Facts → List ℕ → Type 0
  OfOpened f path = OfEntry f path × (opens f ≡ true)

  guarded_open : (x : Given) (path : List ℕ) → Guarded OfEntry Free [] x path → is_closed opens x ≡ false
      → Guarded OfOpened Free [] x path
  guarded_open x path g e = record {
    mark = g.mark;
    facts = g.facts;
    is = g.is;
    stays = g.stays;
    of_entry = (
      g.of_entry,
      opened (opens g.facts) (is_folder_kind g.facts.kind) (of_folder g.facts path g.of_entry)
          (subst (λ v. is_closed opens v ≡ false) g.is e),
    );
    none = tt;
  }

  well_shut : (x : Given) (b : Bool) → is_closed opens x ≡ b → (below : Forest Given)
      → (is_closed opens x ≡ false → WellBelow OfOpened Free [] x below)
      → WellBelow OfOpened Free [] x (cond b nothing below)
  well_shut x true e below h = tt
  well_shut x false e below h = h e

  mutual
    pub well_pruned : (f : Forest Given) → Well OfEntry Free [] f → Well OfOpened Free [] (pruned opens f)
    well_pruned nothing h = tt
    well_pruned (item x below after) h = (
      well_shut x (is_closed opens x) refl (pruned opens below) (λ e. below_pruned x below h.0 e),
      well_pruned after h.1,
    )
    well_pruned (lists path after) h = (h.0, well_pruned after h.1)

    below_pruned : (x : Given) (below : Forest Given) → WellBelow OfEntry Free [] x below
        → is_closed opens x ≡ false → WellBelow OfOpened Free [] x (pruned opens below)
    below_pruned x nothing h e = tt
    below_pruned x (item y below after) h e = (
      well_shut y (is_closed opens y) refl (pruned opens below) (λ i. below_pruned y below h.0 i),
      well_pruned after h.1,
    )
    below_pruned x (lists path after) h e = (guarded_open x path h.0 e, well_pruned after h.1)

-- the least walk from the last name of an origin on, in a range
module _ {A : Type 0} (w : Wanted A) (goes : Option ℕ → List ℕ → Bool)
    (tested : TestsBelow goes w.rooted w.glob) (least : ℕ)
    (range : DepthRange) (origin : Origin) (all : range.min ≡ 0) where
  abbrev scope : WalkScope
  scope = scope_in range

  abbrev start : List ℕ
  start = origin_end w range origin

  abbrev Folders : Facts → List ℕ → Type 0
  Folders f path = OfFolder w.rooted scope start origin.names f path

  abbrev Above : List ℕ → Type 0
  Above path = AboveLeast w.rooted scope start origin.names path

  kind_is : (f : Facts) (path : List ℕ) → Folders f path → is_folder_kind f.kind ≡ true
  kind_is f path h = ap is_folder_kind h.2

  abbrev Opened : Facts → List ℕ → Type 0
  Opened f path = OfOpened (opens_where goes range.max) Folders kind_is Above f path

  abbrev rules : List (Facts → Mark)
  rules = least_rules least w

  -- what the test says of the folder, by its text and depth and by its names
  says : (f : Facts) (path : List ℕ) (names : List (List ℕ))
      → At w.rooted (location_at w.rooted scope start origin.names f path) names
      → goes (limit_below range.max f.depth) (chars f.candidate)
      ≡ goes (limit_below range.max (length names)) (text_at w.rooted (map chars names))
  says f path names a =
      let text : chars f.candidate ≡ text_at w.rooted (map chars names) =
      ap chars a.candidate_is ∙ chars_joined w.rooted names a.are_plain in
      λ i. goes (limit_below range.max (a.depth_is i)) (text i)

  may_open : (path : List ℕ) → Chosen Opened Above (done_with Opened Above rules []) path
      → MayOpen w range origin path
  may_open path (inl (at, e, s, low, small)) = absurd (omega (arith, small, all))
  may_open path (inr (f, o, none)) =
      let below = o.0.0 in
      let deep : f.depth < range.max = o.0.1 in
      let n = (none_done Opened Above rules [] f none).0 in
      let a = below.place in
      let names = origin.names ++ below.names in
      record {
        names = below.names;
        path_is = below.path_is;
        are_plain = a.are_plain;
        above_greatest = omega (arith, deep, a.depth_is);
        means_longer = (tested (limit_below range.max (length names)) (map chars names)
            (names_chars names a.are_plain)).0 (sym (says f path names a) ∙ o.1);
        uncovered = none_covers w.rooted scope start origin.names w.filters f path names a n.1;
      }

  abbrev May : Forest Given → Type 0
  May f = All (MayOpen w range origin) (listings (stacked rules (pruned (opens_where goes range.max) f)))

  may_at : (at : Location) (s : Shown) → at.path ≡ start → At w.rooted at origin.names → IsPlainShown s
      → May (plain_at scope at s nothing)
  may_at at s e a x =
      let f = plain_at scope at s nothing in
      let below : IsBelow w.rooted scope start origin.names at = record {
        names = [];
        path_is = e;
        place = subst (λ v. At w.rooted at v) (sym (append-nil origin.names)) a;
      } in
      let well = well_stacked Opened Above rules [] (pruned (opens_where goes range.max) f)
      (well_pruned (opens_where goes range.max) Folders kind_is Above f
      (well_at w.rooted scope start origin.names at s below x)) in
      All-weaker (Chosen Opened Above (done_with Opened Above rules [])) (MayOpen w range origin) may_open
      (listings (stacked rules (pruned (opens_where goes range.max) f)))
      (each_listed Opened Above (done_with Opened Above rules [])
      (stacked rules (pruned (opens_where goes range.max) f)) well)

  may_fault : (kind : FaultKind) (path : List ℕ) (depth : ℕ)
      → May (item (fault kind path depth) nothing nothing)
  may_fault kind path depth =
      subst (λ v. All (MayOpen w range origin) (listings v)) (sym (stacked_fault w rules kind path depth))
      (All-nil (MayOpen w range origin))

  pub may_walk : (names : List (List ℕ)) (at : Location) (done : List (List ℕ)) (s : Shown) → ArePlain names
      → At w.rooted at done → IsPlainShown s → done ++ names ≡ origin.names → path_from at.path names ≡ start
      → May (walk_from scope at s names nothing)
  may_walk [] at done s n a x e f =
      may_at at s f (subst (λ v. At w.rooted at v) (sym (append-nil done) ∙ e) a) x
  may_walk (x ∷ names) at done (a_leaf link) n a s e f = may_fault NotAFolder at.path at.depth
  may_walk (x ∷ names) at done a_sealed n a s e f =
      may_fault Listing (child_location at x).path (child_location at x).depth
  may_walk (x ∷ names) at done missing n a s e f = may_fault NotFound at.path at.depth
  may_walk (x ∷ names) at done failing n a s e f = may_fault Listing at.path at.depth
  may_walk (x ∷ names) at done (a_folder l) n a s e f =
      may_walk names (child_location at x) (done ++ x ∷ []) (child_in x l) n.1
      (at_join w.rooted at done x a n.0) (plain_child x l s) (append_assoc done (x ∷ []) names ∙ e) f

-- the least walk lists only folders below which something is meant
pub opens_few : {A : Type 0} (w : Wanted A) (goes : Option ℕ → List ℕ → Bool)
    (tested : TestsBelow goes w.rooted w.glob)
    (asked walked : DepthRange) (origin : Origin) → CanWalkLeast w asked walked origin
    → (s : Shown) → IsPlainShown s
    → All (MayOpen w walked origin) (listings (least_walk goes asked.min w walked origin s))
opens_few w goes tested asked walked origin can s t =
    may_walk w goes tested asked.min walked origin can.least origin.names
    (origin_location origin) [] s can.plain
    (at_start w origin can.candidate) t refl refl
