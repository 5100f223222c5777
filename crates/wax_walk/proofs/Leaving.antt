-- What a filter leaves of a forest is what it leaves of the list.
use Rattle.std.proofs.Common.{◌≡◌, ℕ, ◌+◌, ◌<◌, ◌≤◌, Bool, true, false, ◌&&◌, ◌||◌, not, cond, nat_lt, List}
use Rattle.std.proofs.{Common.{[], ◌∷◌, ◌++◌, refl, sym, ap, ◌∙◌, append_assoc, arith}, lemmas.Bool.lt-ltb}
use Rattle.std.proofs.{lemmas.Bool.Decides.nat_tests, lemmas.List.Folds.list_all-append}
use Rattle.std.specs.{Prelude.⊤, List.list_all}
use Rattle.wax_walk.specs.Forest.{Forest, nothing, item, lists, filtered, preorder}
use Rattle.wax_walk.specs.Given.{Facts, Given, entry, fault, no_memory}
use Rattle.wax_walk.specs.Left.{are_below, is_deeper, is_cancelled, left_after, opened_items}
use Rattle.wax_walk.specs.Pruned.{Opening, all_folders, is_closed, itself, opened_forest, pruned}
use Rattle.wax_walk.specs.Pruned.{these_folders}

append-nil : {A : Type 0} (xs : List A) → xs ++ [] ≡ xs
append-nil [] = refl
append-nil (x ∷ xs) = ap (λ ys. x ∷ ys) (append-nil xs)

-- ---- booleans

false_unless : (b c : Bool) → (c ≡ true → b ≡ true) → b ≡ false → c ≡ false
false_unless b false h e = refl
false_unless b true h e = let t : b ≡ true = h refl in cc

neither : (b c : Bool) → b ≡ false → c ≡ false → (b || c) ≡ false
neither false c e f = f
neither true c e f = cc

not_left : (b c : Bool) → (b || c) ≡ false → b ≡ false
not_left false c e = refl
not_left true c e = cc

not_right : (b c : Bool) → (b || c) ≡ false → c ≡ false
not_right false c e = e
not_right true c e = cc

or_right : (b c : Bool) → c ≡ true → (b || c) ≡ true
or_right true c e = refl
or_right false c e = e

and_none : (b c : Bool) → c ≡ false → (b && c) ≡ false
and_none true c e = e
and_none false c e = refl

and_left : (b c : Bool) → (b && c) ≡ true → b ≡ true
and_left true c e = refl
and_left false c e = cc

and_right : (b c : Bool) → (b && c) ≡ true → c ≡ true
and_right true c e = e
and_right false c e = cc

both : (b c : Bool) → b ≡ true → c ≡ true → (b && c) ≡ true
both true c e f = f
both false c e f = cc

both_to : (b c d : Bool) → (c ≡ true → d ≡ true) → (b && c) ≡ true → (b && d) ≡ true
both_to true c d h e = h e
both_to false c d h e = cc

-- ---- forests by depth

-- each entry on top is of this depth, and what is below it is one deeper; each error on top is of a folder
-- that is less deep, at `low` at least
abbrev pub IsLevelled : ℕ → ℕ → Forest Given → Type 0
IsLevelled low depth nothing = ⊤
IsLevelled low depth (lists path after) = IsLevelled low depth after
IsLevelled low depth (item (entry m f) below after) = (f.depth ≡ depth) × IsLevelled depth (depth + 1) below
    × IsLevelled low depth after
IsLevelled low depth (item (fault kind path d) below after) = (low ≤ d) × (d < depth) × (below ≡ nothing)
    × IsLevelled low depth after
IsLevelled low depth (item no_memory below after) = ⊥

all_append : (p : Given → Bool) (xs ys : List Given) → list_all p xs ≡ true → list_all p ys ≡ true
    → list_all p (xs ++ ys) ≡ true
all_append p xs ys e f = list_all-append p xs ys ∙ both (list_all p xs) (list_all p ys) e f

less_false : (n d : ℕ) → n ≤ d → nat_lt d n ≡ false
less_false n d h = grind (arith, nat_tests)

-- all of a forest is deeper than what is above it
all_deeper : (n low depth : ℕ) (f : Forest Given) → n ≤ low → n < depth → IsLevelled low depth f
    → list_all (is_deeper n) (preorder f) ≡ true
all_deeper n low depth nothing few less h = refl
all_deeper n low depth (lists path after) few less h = all_deeper n low depth after few less h
all_deeper n low depth (item (entry m f) below after) few less h =
    both (nat_lt n f.depth) (list_all (is_deeper n) (preorder below ++ preorder after))
    (lt-ltb n f.depth (omega (arith, less, h.0)))
    (all_append (is_deeper n) (preorder below) (preorder after)
    (all_deeper n depth (depth + 1) below (omega (arith, less)) (omega (arith, less)) h.1)
    (all_deeper n low depth after few less h.2))
all_deeper n low depth (item (fault kind path d) below after) few less h =
    both (not (nat_lt d n)) (list_all (is_deeper n) (preorder below ++ preorder after))
    (ap not (less_false n d (omega (arith, few, h.0))))
    (all_append (is_deeper n) (preorder below) (preorder after)
    (ap (λ f. list_all (is_deeper n) (preorder f)) h.2) (all_deeper n low depth after few less h.3))
all_deeper n low depth (item no_memory below after) few less h = absurd h

-- the first item, if there is one
abbrev FirstHas : (Given → Type 0) → List Given → Type 0
FirstHas P [] = ⊤
FirstHas P (x ∷ xs) = P x

first_to : (P Q : Given → Type 0) (xs : List Given) → ((x : Given) → P x → Q x)
    → FirstHas P xs → FirstHas Q xs
first_to P Q [] f h = tt
first_to P Q (x ∷ xs) f h = f x h

-- the first item of a forest isn't below an entry of its depth
first_beside : (low depth : ℕ) (f : Forest Given) → IsLevelled low depth f
    → FirstHas (λ y. is_deeper depth y ≡ false) (preorder f)
first_beside low depth nothing h = tt
first_beside low depth (lists path after) h = first_beside low depth after h
first_beside low depth (item (entry m f) below after) h = less_false f.depth depth (omega (arith, h.0))
first_beside low depth (item (fault kind path d) below after) h = ap not (lt-ltb d depth h.1)
first_beside low depth (item no_memory below after) h = absurd h

-- ---- what is below an item

all_front : (p : Given → Bool) (xs ys : List Given) (x : Given) → list_all p (xs ++ x ∷ ys) ≡ true
    → list_all p (xs ++ x ∷ []) ≡ true
all_front p [] ys x e = both (p x) true (and_left (p x) (list_all p ys) e) refl
all_front p (z ∷ xs) ys x e =
    both_to (p z) (list_all p (xs ++ x ∷ ys)) (list_all p (xs ++ x ∷ [])) (all_front p xs ys x) e

below_front : (y : Given) (xs ys : List Given) (x : Given) → are_below y (xs ++ x ∷ ys) ≡ true
    → are_below y (xs ++ x ∷ []) ≡ true
below_front (entry m f) xs ys x e = all_front (is_deeper f.depth) xs ys x e
below_front (fault kind path d) xs ys x e = e
below_front no_memory xs ys x e = e

last_beside : (p : Given → Bool) (xs : List Given) (x : Given) → p x ≡ false
    → list_all p (xs ++ x ∷ []) ≡ false
last_beside p [] x e = ap (λ b. b && true) e
last_beside p (z ∷ xs) x e = and_none (p z) (list_all p (xs ++ x ∷ [])) (last_beside p xs x e)

-- what is no deeper than one depth is no deeper than a greater one
beside_deeper : (n d : ℕ) (y : Given) → n < d → is_deeper n y ≡ false → is_deeper d y ≡ false
beside_deeper n d (entry m f) l e = grind (arith, nat_tests)
beside_deeper n d (fault kind path k) l e = grind (arith, nat_tests)
beside_deeper n d no_memory l e = refl

module _ (change : Given → Given) (cut : Given → Bool) where
  abbrev IsSeen : List Given → Given → Type 0
  IsSeen before y = is_cancelled cut before y ≡ false

  -- what is deeper leaves out nothing that isn't
  seen_beside : (n : ℕ) (xs : List Given) (y : Given) → list_all (is_deeper n) xs ≡ true
      → is_deeper n y ≡ false → IsSeen xs y
  seen_beside n [] y e b = refl
  seen_beside n (entry m f ∷ xs) y e b =
      let deeper : n < f.depth = grind (
        arith,
        nat_tests,
        and_left (nat_lt n f.depth) (list_all (is_deeper n) xs) e,
      ) in
      neither _ (is_cancelled cut xs y)
      (and_none (cut (entry m f)) _
      (last_beside (is_deeper f.depth) xs y (beside_deeper n f.depth y deeper b)))
      (seen_beside n xs y (and_right (nat_lt n f.depth) (list_all (is_deeper n) xs) e) b)
  seen_beside n (fault kind path d ∷ xs) y e b =
      neither _ (is_cancelled cut xs y) (and_none (cut (fault kind path d)) _ refl)
      (seen_beside n xs y (and_right (not (nat_lt d n)) (list_all (is_deeper n) xs) e) b)
  seen_beside n (no_memory ∷ xs) y e b = cc

  -- an item that was left, and then others, leave out only what these do
  seen_after : (before zs : List Given) (x y : Given) → IsSeen before x
      → (cut x && are_below x (zs ++ y ∷ [])) ≡ false → IsSeen zs y → IsSeen (before ++ x ∷ zs) y
  seen_after [] zs x y e c h = neither _ (is_cancelled cut zs y) c h
  seen_after (b ∷ before) zs x y e c h =
      let assoc : (before ++ x ∷ zs) ++ y ∷ [] ≡ before ++ x ∷ (zs ++ y ∷ []) =
      append_assoc before (x ∷ zs) (y ∷ []) in
      neither _ (is_cancelled cut (before ++ x ∷ zs) y)
      (false_unless (cut b && are_below b (before ++ x ∷ [])) _
      (both_to (cut b) _ _
      (λ t. below_front b before (zs ++ y ∷ []) x (ap (are_below b) (sym assoc) ∙ t)))
      (not_left _ (is_cancelled cut before x) e))
      (seen_after before zs x y (not_right _ (is_cancelled cut before x) e) c h)

  -- what is below an item that is cut is left out
  out_below : (before zs : List Given) (x y : Given) → cut x ≡ true → are_below x (zs ++ y ∷ []) ≡ true
      → is_cancelled cut (before ++ x ∷ zs) y ≡ true
  out_below [] zs x y c e = ap (λ b. b || is_cancelled cut zs y) (both (cut x) _ c e)
  out_below (b ∷ before) zs x y c e = or_right _ _ (out_below before zs x y c e)

  skips : (before zs ws rest : List Given) (x : Given) → cut x ≡ true → are_below x (zs ++ ws) ≡ true
      → left_after change cut (before ++ x ∷ zs) (ws ++ rest)
      ≡ left_after change cut (before ++ x ∷ (zs ++ ws)) rest
  skips before zs [] rest x c e = ap (λ v. left_after change cut (before ++ x ∷ v) rest) (sym (append-nil zs))
  skips before zs (w ∷ ws) rest x c e =
      let out : is_cancelled cut (before ++ x ∷ zs) w ≡ true =
      out_below before zs x w c (below_front x zs ws w e) in
      let one : (before ++ x ∷ zs) ++ w ∷ [] ≡ before ++ x ∷ (zs ++ w ∷ []) =
      append_assoc before (x ∷ zs) (w ∷ []) in
      let next : (zs ++ w ∷ []) ++ ws ≡ zs ++ w ∷ ws = append_assoc zs (w ∷ []) ws in
      let others = left_after change cut ((before ++ x ∷ zs) ++ w ∷ []) (ws ++ rest) in
      ap (λ b. cond b others (change w ∷ others)) out
      ∙ (ap (λ v. left_after change cut v (ws ++ rest)) one
      ∙ (skips before (zs ++ w ∷ []) ws rest x c (ap (are_below x) next ∙ e)
      ∙ ap (λ v. left_after change cut (before ++ x ∷ v) rest) next))

  abbrev left_forest : Forest Given → Forest Given
  left_forest f = filtered change cut f

  abbrev Leaves : Forest Given → Type 0
  Leaves f = (low depth : ℕ) (before rest : List Given) → IsLevelled low depth f
      → FirstHas (IsSeen before) (preorder f)
      → left_after change cut before (preorder f ++ rest)
      ≡ preorder (left_forest f) ++ left_after change cut (before ++ preorder f) rest

  -- an item that was left, and what is below it
  leaves_below : (x : Given) (below : Forest Given) (depth : ℕ) (before rest : List Given) → Leaves below
      → IsLevelled depth (depth + 1) below → are_below x (preorder below) ≡ true → IsSeen before x
      → (b : Bool) → cut x ≡ b
      → left_after change cut (before ++ x ∷ []) (preorder below ++ rest)
      ≡ preorder (cond b nothing (left_forest below)) ++ left_after change cut
      (before ++ x ∷ preorder below) rest
  leaves_below x below depth before rest goes h deep seen true c =
      skips before [] (preorder below) rest x c deep
  leaves_below x below depth before rest goes h deep seen false c =
      goes depth (depth + 1) (before ++ x ∷ []) rest h
      (first_to (λ y. ⊤) (IsSeen (before ++ x ∷ [])) (preorder below)
      (λ y t. seen_after before [] x y seen (ap (λ b. b && are_below x (y ∷ [])) c) refl)
      (any_first (preorder below)))
      ∙ ap (λ v. preorder (left_forest below) ++ left_after change cut v rest)
      (append_assoc before (x ∷ []) (preorder below)) where
        any_first : (xs : List Given) → FirstHas (λ y. ⊤) xs
        any_first [] = tt
        any_first (y ∷ xs) = tt

  left_first : (before xs : List Given) (x : Given) → IsSeen before x
      → left_after change cut before (x ∷ xs) ≡ change x ∷ left_after change cut (before ++ x ∷ []) xs
  left_first before xs x e =
      ap (λ b. cond b (left_after change cut (before ++ x ∷ []) xs)
      (change x ∷ left_after change cut (before ++ x ∷ []) xs)) e

  none_cut : (b : Bool) → preorder (cond b nothing (left_forest nothing)) ≡ []
  none_cut true = refl
  none_cut false = refl

  leaves : (f : Forest Given) → Leaves f
  leaves nothing low depth before rest h first =
      ap (λ v. left_after change cut v rest) (sym (append-nil before))
  leaves (lists path after) low depth before rest h first = leaves after low depth before rest h first
  leaves (item (entry m f) below after) low depth before rest h seen =
      let x = entry m f in
      let pb = preorder below in
      let pa = preorder after in
      let lower = preorder (cond (cut x) nothing (left_forest below)) in
      let deep : list_all (is_deeper f.depth) pb ≡ true =
      all_deeper f.depth depth (depth + 1) below (omega (arith, h.0)) (omega (arith, h.0)) h.1 in
      let next : FirstHas (IsSeen (before ++ x ∷ pb)) pa =
      first_to (λ y. is_deeper depth y ≡ false) (IsSeen (before ++ x ∷ pb)) pa (λ y e.
      let f_beside : is_deeper f.depth y ≡ false = ap (λ n. is_deeper n y) h.0 ∙ e in
      seen_after before pb x y seen
      (and_none (cut x) _ (last_beside (is_deeper f.depth) pb y f_beside))
      (seen_beside f.depth pb y deep f_beside)) (first_beside low depth after h.2) in
      left_first before ((pb ++ pa) ++ rest) x seen
      ∙ ap (λ v. change x ∷ v)
      (ap (left_after change cut (before ++ x ∷ [])) (append_assoc pb pa rest)
      ∙ (leaves_below x below depth before (pa ++ rest) (leaves below) h.1 deep seen (cut x) refl
      ∙ (ap (λ v. lower ++ v) (leaves after low depth (before ++ x ∷ pb) rest h.2 next)
      ∙ (sym (append_assoc lower (preorder (left_forest after)) _)
      ∙ ap (λ v. (lower ++ preorder (left_forest after)) ++ left_after change cut v rest)
      (append_assoc before (x ∷ pb) pa)))))
  leaves (item (fault kind path d) below after) low depth before rest h seen =
      let x = fault kind path d in
      let pa = preorder after in
      let none : preorder below ≡ [] = ap preorder h.2 in
      let none_left : preorder (cond (cut x) nothing (left_forest below)) ≡ [] =
      ap (λ v. preorder (cond (cut x) nothing (left_forest v))) h.2 ∙ none_cut (cut x) in
      let next : FirstHas (IsSeen (before ++ x ∷ [])) pa =
      first_to (λ y. is_deeper depth y ≡ false) (IsSeen (before ++ x ∷ [])) pa
      (λ y e. seen_after before [] x y seen (and_none (cut x) _ refl) refl)
      (first_beside low depth after h.3) in
      left_first before ((preorder below ++ pa) ++ rest) x seen
      ∙ ap (λ v. change x ∷ v)
      (ap (λ v. left_after change cut (before ++ x ∷ []) ((v ++ pa) ++ rest)) none
      ∙ (leaves after low depth (before ++ x ∷ []) rest h.3 next
      ∙ (ap
      (λ v. (v ++ preorder (left_forest after)) ++ left_after change cut ((before ++ x ∷ []) ++ pa) rest)
      (sym none_left)
      ∙ ap (λ v. (preorder (cond (cut x) nothing (left_forest below)) ++ preorder (left_forest after))
      ++ left_after change cut v rest)
      (append_assoc before (x ∷ []) pa ∙ ap (λ v. before ++ x ∷ (v ++ pa)) (sym none)))))
  leaves (item no_memory below after) low depth before rest h seen = absurd h

  -- what the filter leaves of a forest, as a list
  pub leaves_list : (low depth : ℕ) (f : Forest Given) → IsLevelled low depth f
      → preorder (left_forest f) ≡ left_after change cut [] (preorder f)
  leaves_list low depth f h =
      sym (ap (left_after change cut []) (sym (append-nil (preorder f)))
      ∙ (leaves f low depth [] [] h (unseen (preorder f)) ∙ append-nil (preorder (left_forest f)))) where
        unseen : (xs : List Given) → FirstHas (IsSeen []) xs
        unseen [] = tt
        unseen (x ∷ xs) = refl

-- ---- a walk that opens only some folders

levelled_closed : (opens : Facts → Bool) (low depth : ℕ) (b : Bool) (f : Forest Given)
    → IsLevelled low depth f
    → IsLevelled low depth (cond b nothing f)
levelled_closed opens low depth true f h = tt
levelled_closed opens low depth false f h = h

levelled_pruned : (opens : Facts → Bool) (low depth : ℕ) (f : Forest Given) → IsLevelled low depth f
    → IsLevelled low depth (pruned opens f)
levelled_pruned opens low depth nothing h = tt
levelled_pruned opens low depth (lists path after) h = levelled_pruned opens low depth after h
levelled_pruned opens low depth (item (entry m f) below after) h = (
  h.0,
  levelled_closed opens depth (depth + 1) (is_closed opens (entry m f)) (pruned opens below)
      (levelled_pruned opens depth (depth + 1) below h.1),
  levelled_pruned opens low depth after h.2,
)
levelled_pruned opens low depth (item (fault kind path d) below after) h =
    (h.0, h.1, ap (pruned opens) h.2, levelled_pruned opens low depth after h.3)
levelled_pruned opens low depth (item no_memory below after) h = absurd h

pub levelled_opened : (o : Opening) (low depth : ℕ) (f : Forest Given) → IsLevelled low depth f
    → IsLevelled low depth (opened_forest o f)
levelled_opened all_folders low depth f h = h
levelled_opened (these_folders opens) low depth f h = levelled_pruned opens low depth f h

pub opens_list : (o : Opening) (low depth : ℕ) (f : Forest Given) → IsLevelled low depth f
    → preorder (opened_forest o f) ≡ opened_items o (preorder f)
opens_list all_folders low depth f h = refl
opens_list (these_folders opens) low depth f h = leaves_list itself (is_closed opens) low depth f h
