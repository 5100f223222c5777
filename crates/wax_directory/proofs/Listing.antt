-- All items of a folder, taken one by one.
use Rattle.std.proofs.Common.{◌≡◌, ◌<◌, ◌≤◌, ◌-◌, min, ℕ, List, [], ◌∷◌, ◌++◌, length, map, take, Option}
use Rattle.std.proofs.Common.{Some, None, Ok, Err, Result, Vec, refl, sym, ◌∙◌, ap, subst, arith}
use Rattle.std.proofs.{Common.append_assoc, lemmas.List.{map-append, append-nil, take_all, length-map}}
use Rattle.std.proofs.Math.Seq.{take-append_seam}
use Rattle.std.specs.Option.{option_map}
use Rattle.wax_directory.specs.{declared.directory.ListItem.ListItem, declared.tally.Tally.Tally}
use Rattle.wax_directory.specs.{Answers.{listed_of, Opens, NextIs, ListIs}, Calls.{OpenCall, Nexts}}
use Rattle.wax_directory.specs.Counting.{Counts, plus, item_counts, items_counts, next_counts, end_counts}
use Rattle.wax_directory.specs.{Counting.opening_counts, Listing.{listing_counts, CountsListed}}
use Rattle.wax_directory.specs.declared.directory.DirectoryFault.{DirectoryFault}
use Rattle.wax_directory.specs.declared.directory.DirectoryFault.TheVariants.{Failed, Memory}
use Rattle.wax_directory.specs.Law.{Law, ShowsSame, HoldsLast}
use Rattle.wax_directory.specs.Shown.{Items, end, leaf, folder, sealed, misnamed, unread, not_text, Shown}
use Rattle.wax_directory.specs.Shown.{a_leaf, a_folder, a_sealed, missing, failing, Listed, listing}
use Rattle.wax_directory.specs.Shown.{first_item, rest_of}
use Rattle.wax_directory.proofs.Counts.{plus_assoc, plus_none}
use Rattle.wax_directory.specs.declared.directory.ListItem.TheVariants as I

-- ---- counts

pub counts_on : (n a b c : Tally) → Counts n a b → Counts (items_counts []) b c → Counts n a c
counts_on n a b c h i = record {
  misses = omega (arith, h.misses, i.misses);
  leaves = omega (arith, h.leaves, i.leaves);
  failures = omega (arith, h.failures, i.failures);
  items = omega (arith, h.items, i.items);
  bad_names = omega (arith, h.bad_names, i.bad_names);
  opened = omega (arith, h.opened, i.opened);
  ended = omega (arith, h.ended, i.ended);
}

-- a listing came to its end
pub counts_end : (items : List ListItem) (most : ℕ) (a b c : Tally) → Counts (listing_counts items 1 0) a b
    → Counts end_counts b c → length items < most
    → Counts (listing_counts items 1 (min 1 (most - length items))) a c
counts_end items most a b c h i less = record {
  misses = omega (arith, h.misses, i.misses);
  leaves = omega (arith, h.leaves, i.leaves);
  failures = omega (arith, h.failures, i.failures);
  items = omega (arith, h.items, i.items);
  bad_names = omega (arith, h.bad_names, i.bad_names);
  opened = omega (arith, h.opened, i.opened);
  ended = omega (arith, h.ended, i.ended, less);
}

-- all items that were wanted were taken, so that the end wasn't asked for
pub counts_most : (items : List ListItem) (most : ℕ) (a b : Tally) → Counts (listing_counts items 1 0) a b
    → length items ≡ most → Counts (listing_counts items 1 (min 1 (most - length items))) a b
counts_most items most a b h many = record {
  misses = h.misses;
  leaves = h.leaves;
  failures = h.failures;
  items = h.items;
  bad_names = h.bad_names;
  opened = h.opened;
  ended = omega (arith, h.ended, many);
}

-- the folder can't be opened
pub opening_failed : {Z : Type 0} (C : Type 0) (most : ℕ) (r : Result (Vec ListItem Z) DirectoryFault)
    (e : DirectoryFault) (a b : Tally) → r ≡ Err e → Counts (opening_counts {A = C} (Err e)) a b
    → CountsListed most r a b
opening_failed C most r Failed a b is h = subst (λ v. CountsListed most v a b) (sym is) h
opening_failed C most r Memory a b is h =
    subst (λ v. CountsListed most v a b) (sym is) ([], 0, omega arith, omega arith, h)

item_opens : (x : ListItem) → ((item_counts x).opened ≡ 0) × ((item_counts x).ended ≡ 0)
item_opens (I.Name name kind) = (refl, refl)
item_opens I.Failed = (refl, refl)
item_opens I.NotText = (refl, refl)

counted_more : (items : List ListItem) (x : ListItem) → items_counts (items ++ x ∷ []) ≡ plus
    (items_counts items) (item_counts x)
counted_more [] x = plus_none (item_counts x)
counted_more (y ∷ items) x = ap (plus (item_counts y)) (counted_more items x) ∙ plus_assoc (item_counts y)
    (items_counts items) (item_counts x)

counts_sum : (items : List ListItem) (x : ListItem) (a b c : Tally) → Counts (listing_counts items 1 0) a b
    → Counts (item_counts x) b c → Counts (record (plus (items_counts items) (item_counts x)) {
      opened = 1;
      ended = 0;
    }) a c
counts_sum items x a b c h i = let none = item_opens x in record {
  misses = omega (arith, h.misses, i.misses);
  leaves = omega (arith, h.leaves, i.leaves);
  failures = omega (arith, h.failures, i.failures);
  items = omega (arith, h.items, i.items);
  bad_names = omega (arith, h.bad_names, i.bad_names);
  opened = omega (arith, h.opened, i.opened, none.0);
  ended = omega (arith, h.ended, i.ended, none.1);
}

-- ---- the first item and those after it

first_rest : (l : Items) (x : Listed) → Some x ≡ first_item l → listing l ≡ x ∷ listing (rest_of l)
first_rest end x e = absurd (cc)
first_rest (leaf y link rest) x e = cc
first_rest (folder y inner rest) x e = cc
first_rest (sealed y rest) x e = cc
first_rest (misnamed y kind rest) x e = cc
first_rest (unread rest) x e = cc
first_rest (not_text rest) x e = cc

no_first : (l : Items) → None ≡ first_item l → listing l ≡ []
no_first end e = refl
no_first (leaf y link rest) e = absurd (cc)
no_first (folder y inner rest) e = absurd (cc)
no_first (sealed y rest) e = absurd (cc)
no_first (misnamed y kind rest) e = absurd (cc)
no_first (unread rest) e = absurd (cc)
no_first (not_text rest) e = absurd (cc)

-- these items of the folder were taken, and `has` holds of those that are to come
abbrev pub Coming : (Items → Type 0) → Shown → List ListItem → Type 0
Coming has (a_folder l) items = (rest : Items) × has rest × (map listed_of items ++ listing rest ≡ listing l)
Coming has s items = ⊥

coming_first : {C : Type 0} (holds : C → Items → Type 0) (cursor : C) (s : Shown) → Opens holds s (Ok cursor)
    → Coming (holds cursor) s []
coming_first holds cursor (a_folder l) h = (l, h, refl)
coming_first holds cursor (a_leaf link) h = cc
coming_first holds cursor a_sealed h = cc
coming_first holds cursor missing h = cc
coming_first holds cursor failing h = cc

module _ {C : Type 0} (old new : C → Items → Type 0) (cursor next : C) (items : List ListItem) where
  coming_more : (s : Shown) (x : ListItem) → ((l : Items) → old cursor l → NextIs new l (Ok (Some x)) next)
      → Coming (old cursor) s items → Coming (new next) s (items ++ x ∷ [])
  coming_more (a_folder l) x step h =
      let n : (Some (listed_of x) ≡ first_item h.0) × new next (rest_of h.0) = step h.0 h.1 in (
        rest_of h.0,
        n.1,
        ap (λ xs. xs ++ listing (rest_of h.0)) (map-append listed_of items (x ∷ [])) ∙ append_assoc
            (map listed_of items) (listed_of x ∷ []) (listing (rest_of h.0)) ∙ ap
            (λ xs. map listed_of items ++ xs) (sym (first_rest h.0 (listed_of x) n.0)) ∙ h.2,
      )
  coming_more (a_leaf link) x step h = elim h [ ]
  coming_more a_sealed x step h = elim h [ ]
  coming_more missing x step h = elim h [ ]
  coming_more failing x step h = elim h [ ]

rest_still : (l : Items) → None ≡ first_item l → listing (rest_of l) ≡ listing l
rest_still end e = refl
rest_still (leaf y link rest) e = absurd (cc)
rest_still (folder y inner rest) e = absurd (cc)
rest_still (sealed y rest) e = absurd (cc)
rest_still (misnamed y kind rest) e = absurd (cc)
rest_still (unread rest) e = absurd (cc)
rest_still (not_text rest) e = absurd (cc)

-- if there was no item, and if allocation failed, the same items are still to come
pub coming_still : {C : Type 0} (old new : C → Items → Type 0) (cursor next : C) (items : List ListItem)
    (s : Shown) (o : Option ListItem) → o ≡ None → ((l : Items) → old cursor l → NextIs new l (Ok o) next)
    → Coming (old cursor) s items → Coming (new next) s items
coming_still old new cursor next items (a_folder l) o none step h =
    let n = step h.0 h.1 in (
      rest_of h.0,
      n.1,
      ap (λ xs. map listed_of items ++ xs)
          (rest_still h.0 (sym (ap (option_map listed_of) none) ∙ n.0)) ∙ h.2,
    )
coming_still old new cursor next items (a_leaf link) o none step h = elim h [ ]
coming_still old new cursor next items a_sealed o none step h = elim h [ ]
coming_still old new cursor next items missing o none step h = elim h [ ]
coming_still old new cursor next items failing o none step h = elim h [ ]

pub coming_kept : (old new : Items → Type 0) (items : List ListItem) (s : Shown)
    → ((l : Items) → old l → new l) → Coming old s items → Coming new s items
coming_kept old new items (a_folder l) step h = (h.0, step h.0 h.1, h.2)
coming_kept old new items (a_leaf link) step h = elim h [ ]
coming_kept old new items a_sealed step h = elim h [ ]
coming_kept old new items missing step h = elim h [ ]
coming_kept old new items failing step h = elim h [ ]

-- at the end all of them were taken
module _ {Z : Type 0} (answer : Vec ListItem Z) (most : ℕ) where
  all_taken : (l : Items) (rest : List Listed) → rest ≡ [] → map listed_of answer.items ++ rest ≡ listing l
      → length answer.items ≤ most → map listed_of answer.items ≡ take most (listing l)
  all_taken l rest none e few =
      let whole : map listed_of answer.items ≡ listing l = sym (append-nil (map listed_of answer.items)) ∙ ap
      (λ xs. map listed_of answer.items ++ xs) (sym none) ∙ e in
      let fits : length (listing l) ≤ most = subst (λ xs. length xs ≤ most) whole
      (subst (λ n. n ≤ most) (sym (length-map answer.items listed_of)) few) in
      whole ∙ sym (take_all most (listing l) fits)

  most_taken : (l : Items) (rest : List Listed) → map listed_of answer.items ++ rest ≡ listing l
      → length answer.items ≡ most → map listed_of answer.items ≡ take most (listing l)
  most_taken l rest e many =
      let xs : List Listed = map listed_of answer.items in
      sym (take-append_seam xs rest) ∙ ap (λ n. take n (xs ++ rest))
      (length-map answer.items listed_of ∙ many) ∙ ap (λ ys. take most ys) e

  pub coming_end : {C : Type 0} (old new : C → Items → Type 0) (cursor next : C) (s : Shown)
      (o : Option ListItem) → o ≡ None → ((l : Items) → old cursor l → NextIs new l (Ok o) next)
      → Coming (old cursor) s answer.items → length answer.items ≤ most → ListIs most s (Ok answer)
  coming_end old new cursor next (a_folder l) o none step h few = all_taken l (listing h.0)
      (no_first h.0 (sym (ap (option_map listed_of) none) ∙ (step h.0 h.1).0)) h.2 few
  coming_end old new cursor next (a_leaf link) o none step h few = elim h [ ]
  coming_end old new cursor next a_sealed o none step h few = elim h [ ]
  coming_end old new cursor next missing o none step h few = elim h [ ]
  coming_end old new cursor next failing o none step h few = elim h [ ]

  pub coming_most : (has : Items → Type 0) (s : Shown) → Coming has s answer.items
      → length answer.items ≡ most → ListIs most s (Ok answer)
  coming_most has (a_folder l) h many = most_taken l (listing h.0) h.2 many
  coming_most has (a_leaf link) h many = elim h [ ]
  coming_most has a_sealed h many = elim h [ ]
  coming_most has missing h many = elim h [ ]
  coming_most has failing h many = elim h [ ]

-- ---- the state after some items were taken

module _ {D C : Type 0} (law : Law D C) where
  -- what is known after these items of the folder at a path were taken
  pub record Taken (path : List ℕ) (old new : D) (cursor : C) (items : List ListItem) : Type 0 where
    pub coming : (s : Shown) (cursors : List C) (ls : List Items) → law.shows old path s
        → law.holds old cursors ls → Coming (HoldsLast law new cursors ls cursor) s items
    pub shown : ShowsSame law old new
    pub told : (t : List (List ℕ)) → law.tells old t → law.tells new (t ++ path ∷ [])
    pub counted : Counts (listing_counts items 1 0) (law.tally old) (law.tally new)

  -- no item was taken yet
  pub taken_none : (path : List ℕ) (old new : D) (cursor : C) → OpenCall law old path (Ok cursor) new
      → Taken path old new cursor []
  taken_none path old new cursor o = record {
    coming = λ s cursors ls shown held. coming_first (HoldsLast law new cursors ls) cursor s
        (o.opens cursors ls s held shown);
    shown = o.shown;
    told = o.told;
    counted = o.counted;
  }

  -- one more item
  pub taken_more : (path : List ℕ) (old now new : D) (cursor next : C) (items all : List ListItem)
      (o : Option ListItem) (x : ListItem) → Taken path old now cursor items → o ≡ Some x
      → Nexts law now cursor (Ok o) new next → ShowsSame law now new
      → ((t : List (List ℕ)) → law.tells now t → law.tells new t)
      → Counts (next_counts (Ok o)) (law.tally now) (law.tally new) → all ≡ items ++ x ∷ []
      → Taken path old new next all
  taken_more path old now new cursor next items all o x h is nexts shown told counted grown =
      let P : List ListItem → Type 0 = λ l. Taken path old new next l in
      let N : Option ListItem → Type 0 = λ v. Nexts law now cursor (Ok v) new next in
      let K : Option ListItem → Type 0 = λ v. Counts (next_counts (Ok v)) (law.tally now) (law.tally new) in
      let step : Nexts law now cursor (Ok (Some x)) new next = subst N is nexts in
      let count : Counts (item_counts x) (law.tally now) (law.tally new) = subst K is counted in
      subst P (sym grown) (record {
        coming = λ s cursors ls k held. coming_more (HoldsLast law now cursors ls)
            (HoldsLast law new cursors ls) cursor next items s x (λ l i. step cursors ls l i)
            (h.coming s cursors ls k held);
        shown = λ at s k. shown at s (h.shown at s k);
        told = λ t k. told (t ++ path ∷ []) (h.told t k);
        counted = let E : Tally → Type 0 = λ n. Counts (record n { opened = 1; ended = 0 })
            (law.tally old) (law.tally new) in subst E
            (sym (counted_more items x)) (counts_sum items x _ _ _ h.counted count);
      })

  -- what is left of the folder may be dropped
  pub left_dropped : (d : D) (cursors : List C) (ls : List Items) (cursor : C) (s : Shown)
      (items : List ListItem)
      → ((l : Items) → HoldsLast law d cursors ls cursor l → law.holds d cursors ls)
      → Coming (HoldsLast law d cursors ls cursor) s items → law.holds d cursors ls
  left_dropped d cursors ls cursor (a_folder l) items drop h = drop h.0 h.1
  left_dropped d cursors ls cursor (a_leaf link) items drop h = elim h [ ]
  left_dropped d cursors ls cursor a_sealed items drop h = elim h [ ]
  left_dropped d cursors ls cursor missing items drop h = elim h [ ]
  left_dropped d cursors ls cursor failing items drop h = elim h [ ]
