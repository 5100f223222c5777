-- What comes after a filter, from what comes before it.
use Rattle.std.proofs.Common.{◌≡◌, ℕ, Bool, true, false, cond, List, [], ◌∷◌, ◌++◌, refl, sym, ap, subst, ◌∙◌}
use Rattle.std.proofs.Common.{arith}
use Rattle.std.specs.{Prelude.{Option, Some, None}, List.Contains}
use Rattle.wax_walk.specs.Given.{Facts, Mark, Given, entry, fault, no_memory, mark_by, with_mark, is_cut}
use Rattle.wax_walk.specs.Given.{changed_by, cut_by}
use Rattle.wax_walk.specs.Forest.{Forest, nothing, item, lists, followed_by, Pending, pending, cancelled}
use Rattle.wax_walk.specs.Forest.{all_pending, FirstIs, IsListed, listed_next, filtered, filtered_pending}
use Rattle.wax_walk.specs.Pruned.{itself}
use Rattle.wax_walk.specs.View.{WalkView, GivesOrStops, lacks_memory, over_budget, gives, IsLast}
use Rattle.wax_walk.proofs.Accounting.{last_marked}

pub filtered_append : {A B : Type 0} (change : A → B) (cut : A → Bool) (f g : Forest A)
    → filtered change cut (followed_by f g) ≡ followed_by (filtered change cut f) (filtered change cut g)
filtered_append change cut nothing g = refl
filtered_append change cut (item x below after) g =
    ap (item (change x) (cond (cut x) nothing (filtered change cut below)))
    (filtered_append change cut after g)
filtered_append change cut (lists path after) g = ap (lists path) (filtered_append change cut after g)

-- how the answer after a filter follows from the answer before it
abbrev pub Follows : {A B : Type 0} → (A → B) → (A → Bool) → (Pending A → Type 0) → (Pending B → Type 0)
    → Option A → Option B → Type 0
Follows {A} {B} change cut inner outer None r =
    (r ≡ None) × ((q : Pending A) → inner q → outer (filtered_pending change cut q))
Follows {A} {B} change cut inner outer (Some x) r =
    (r ≡ Some (change x)) ×
    ((q : Pending A) → inner q
    → outer (cond (cut x) (cancelled (filtered_pending change cut q)) (filtered_pending change cut q)))

cut_pending : {B : Type 0} (outer : Pending B → Type 0) (b : Bool) (q : Pending B)
    → outer (cond b (cancelled q) q) → outer (pending (cond b nothing q.below) q.after q.listed q.items)
cut_pending outer true q h = h
cut_pending outer false q h = h

first_filtered : {A B : Type 0} (change : A → B) (cut : A → Bool) (inner : Pending A → Type 0)
    (outer : Pending B → Type 0) (f : Forest A) (listed : List (List ℕ)) (items : ℕ) (r : Option A)
    (r' : Option B)
    → FirstIs inner f listed items r → Follows change cut inner outer r r'
    → FirstIs outer (filtered change cut f) listed items r'
first_filtered change cut inner outer nothing listed items r r' h a =
    let b = subst (λ v. Follows change cut inner outer v r') h.0 a in
    (b.0, b.1 (pending nothing nothing listed items) h.1)
first_filtered change cut inner outer (item x below after) listed items r r' h a =
    let b = subst (λ v. Follows change cut inner outer v r') h.0 a in (
      b.0,
      cut_pending outer (cut x) (filtered_pending change cut (pending below after listed items))
          (b.1 (pending below after listed items) h.1),
    )
first_filtered change cut inner outer (lists path after) listed items r r' h a =
    first_filtered change cut inner outer after (listed ++ path ∷ []) items r r' h a

pub gives_filtered : {A B : Type 0} (change : A → B) (cut : A → Bool) (inner : Pending A → Type 0)
    (outer : Pending B → Type 0) (p : Pending A) (items : ℕ) (r : Option A) (r' : Option B)
    → FirstIs inner (all_pending p) p.listed items r → Follows change cut inner outer r r'
    → FirstIs outer (all_pending (filtered_pending change cut p)) p.listed items r'
gives_filtered change cut inner outer p items r r' h a =
    subst (λ f. FirstIs outer f p.listed items r') (filtered_append change cut p.below p.after)
    (first_filtered change cut inner outer (followed_by p.below p.after) p.listed items r r' h a)

next_filtered : {A B : Type 0} (change : A → B) (cut : A → Bool) (f : Forest A)
    → listed_next (filtered change cut f) ≡ listed_next f
next_filtered change cut nothing = refl
next_filtered change cut (item x below after) = refl
next_filtered change cut (lists path after) = ap (λ ps. path ∷ ps) (next_filtered change cut after)

listed_filtered : {A B : Type 0} (change : A → B) (cut : A → Bool) (p : Pending A) (path : List ℕ)
    → IsListed p path → IsListed (filtered_pending change cut p) path
listed_filtered change cut p path h =
    let same = ap listed_next (sym (filtered_append change cut p.below p.after)) ∙
    next_filtered change cut (all_pending p) in
    subst (λ ps. Contains (p.listed ++ ps) path) (sym same) h

-- ---- a filter of entries

failed : (x y : Given) (m : Mark) → Some x ≡ Some no_memory → y ≡ with_mark x m → Some y ≡ Some no_memory
failed no_memory y m w e = ap Some e
failed (entry k f) y m w e = cc
failed (fault kind path depth) y m w e = cc

faulty : (x y : Given) (m : Mark) (z : Given) → Some x ≡ Some z → ((n : Mark) → with_mark z n ≡ z)
    → y ≡ with_mark x m → Some y ≡ Some z
faulty x y m z w same e = let v : x ≡ z = cc in ap Some (e ∙ (ap (λ u. with_mark u m) v ∙ same m))

module _ {D : Type 0} (rule : Facts → Mark) (v w outer new : WalkView D) (p : Pending Given) where
  -- an item goes through a filter that marks it with m
  layer_gives : (x y : Given) (m : Mark) → m ≡ mark_by rule x → y ≡ with_mark x m
      → outer.listings_left ≡ v.listings_left → new.listings_left ≡ w.listings_left
      → ((q : Pending Given) → w.to_come q
      → new.to_come (cond (is_cut x m) (cancelled (filtered_pending (changed_by rule) (cut_by rule) q))
      (filtered_pending (changed_by rule) (cut_by rule) q)))
      → GivesOrStops v p (Some x) w → GivesOrStops outer (filtered_pending (changed_by rule) (cut_by rule) p)
      (Some y) new
  layer_gives x y m s e l k a (lacks_memory i) = lacks_memory (failed x y m i e)
  layer_gives x y m s e l k a (over_budget path depth i few listed) =
      over_budget path depth (faulty x y m _ i (λ n. refl) e) (omega (arith, few, l))
      (listed_filtered (changed_by rule) (cut_by rule) p path listed)
  layer_gives x y m s e l k a (gives items few f) =
      gives items (λ n. omega (
        arith,
        few (λ i. n (subst (λ u. IsLast (Some u)) (sym e) (last_marked x m i))),
        l,
        k,
      ))
      (gives_filtered (changed_by rule) (cut_by rule) w.to_come new.to_come p items (Some x) (Some y) f (
        ap Some (e ∙ ap (with_mark x) s),
        λ q i. subst (λ u. new.to_come
            (cond (is_cut x u) (cancelled (filtered_pending (changed_by rule) (cut_by rule) q))
            (filtered_pending (changed_by rule) (cut_by rule) q))) s (a q i),
      ))

  pub layer_ends : outer.listings_left ≡ v.listings_left → new.listings_left ≡ w.listings_left
      → ((q : Pending Given) → w.to_come q → new.to_come (filtered_pending (changed_by rule) (cut_by rule) q))
      → GivesOrStops v p None w → GivesOrStops outer (filtered_pending (changed_by rule) (cut_by rule) p) None
      new
  layer_ends l k a (lacks_memory i) = cc
  layer_ends l k a (over_budget path depth i few listed) = cc
  layer_ends l k a (gives items few f) = gives items (λ n. omega (arith, few n, l, k))
      (gives_filtered (changed_by rule) (cut_by rule) w.to_come new.to_come p items None None f (refl, a))

  -- the filter cancelled what lies below
  pub layer_cuts : (x y : Given) (m : Mark) → m ≡ mark_by rule x → y ≡ with_mark x m
      → outer.listings_left ≡ v.listings_left → new.listings_left ≡ w.listings_left → true ≡ is_cut x m
      → ((q : Pending Given) → w.to_come q
      → new.to_come (cancelled (filtered_pending (changed_by rule) (cut_by rule) q)))
      → GivesOrStops v p (Some x) w → GivesOrStops outer (filtered_pending (changed_by rule) (cut_by rule) p)
      (Some y) new
  layer_cuts x y m s e l k b a = layer_gives x y m s e l k
      (λ q i. subst (λ u. new.to_come
      (cond u (cancelled (filtered_pending (changed_by rule) (cut_by rule) q))
      (filtered_pending (changed_by rule) (cut_by rule) q))) b (a q i))

  -- it did not
  pub layer_passes : (x y : Given) (m : Mark) → m ≡ mark_by rule x → y ≡ with_mark x m
      → outer.listings_left ≡ v.listings_left → new.listings_left ≡ w.listings_left → false ≡ is_cut x m
      → ((q : Pending Given) → w.to_come q → new.to_come (filtered_pending (changed_by rule) (cut_by rule) q))
      → GivesOrStops v p (Some x) w → GivesOrStops outer (filtered_pending (changed_by rule) (cut_by rule) p)
      (Some y) new
  layer_passes x y m s e l k b a = layer_gives x y m s e l k
      (λ q i. subst (λ u. new.to_come
      (cond u (cancelled (filtered_pending (changed_by rule) (cut_by rule) q))
      (filtered_pending (changed_by rule) (cut_by rule) q))) b (a q i))

-- ---- a filter that leaves each item as it is

pub itself_gives : {D : Type 0} (cut : Given → Bool) (v w outer new : WalkView D) (p : Pending Given)
    (r : Option Given) → outer.listings_left ≡ v.listings_left → new.listings_left ≡ w.listings_left
    → Follows itself cut w.to_come new.to_come r r → GivesOrStops v p r w
    → GivesOrStops outer (filtered_pending itself cut p) r new
itself_gives cut v w outer new p r l k a (lacks_memory i) = lacks_memory i
itself_gives cut v w outer new p r l k a (over_budget path depth i few listed) =
    over_budget path depth i (omega (arith, few, l)) (listed_filtered itself cut p path listed)
itself_gives cut v w outer new p r l k a (gives items few f) = gives items (λ n. omega (arith, few n, l, k))
    (gives_filtered itself cut w.to_come new.to_come p items r r f a)
