-- All items of a walk that are below an entry, by the names of their candidates, come right after it.
use Rattle.std.proofs.Common.{◌≡◌, ◌<◌, ◌≤◌, ◌⊎◌, ℕ, zero, suc, ◌-◌, ◌&&◌, ◌||◌, Bool, true, false, List, []}
use Rattle.std.proofs.Common.{◌∷◌, ◌++◌, length, refl, sym, ap, ◌∙◌, subst, inl, inr, append_assoc}
use Rattle.std.proofs.Common.{append-nil, arith, get_or, nat_lt, not}
use Rattle.std.proofs.lemmas.Bool.{and_from, false_from_ne_true, lt-ltb, ltb-true}
use Rattle.std.specs.{Prelude.⊤, List.list_all}
use Rattle.wax_directory.specs.Names.{names_in_path}
use Rattle.wax_directory.specs.Shown.{Items, end, leaf, folder, sealed, misnamed, unread, not_text, Shown}
use Rattle.wax_directory.specs.Shown.{IsPlain, a_leaf, a_folder, a_sealed, missing, failing, join, IsNew}
use Rattle.wax_directory.specs.Shown.{AreDistinct, IsDistinct}
use Rattle.wax_walk.specs.declared.error.FaultKind.TheVariants.{Listing}
use Rattle.wax_walk.specs.Given.{Facts, Mark, Given, entry, fault, no_memory, cut_by}
use Rattle.wax_walk.specs.Left.{are_below, is_cancelled, is_deeper}
use Rattle.wax_exclude.proofs.Belows.{IsAt, below_at, item_names, names_of, only_below}
use Rattle.wax_exclude.specs.NamesBelow.{CancelsByNames, IsEntryBelow, IsBelowCut}
use Rattle.wax_exclude.specs.Premises.{ArePlainItems, IsPlainShown, IsWellNamed}
use Rattle.wax_tree.specs.Plain.{Location, start_location, item_location, one_deeper}
use Rattle.wax_tree.specs.Whole.{whole, whole_items}

or_left : (a b : Bool) → a ≡ true → (a || b) ≡ true
or_left a b e = ap (λ v. v || b) e

or_right : (a b : Bool) → b ≡ true → (a || b) ≡ true
or_right true b e = refl
or_right false b e = e

not_less : (a d : ℕ) → d ≤ a → not (nat_lt a d) ≡ true
not_less a d le = ap not (false_from_ne_true (nat_lt a d) (λ e. omega (arith, le, ltb-true a d e)))

-- no entry has names that begin with these
abbrev Avoids : List (List ℕ) → List Given → Type 0
Avoids names [] = ⊤
Avoids names (entry m f ∷ xs) =
    ((more : List (List ℕ)) → names_of f ≡ names ++ more → ⊥) × Avoids names xs
Avoids names (fault kind path depth ∷ xs) = Avoids names xs
Avoids names (no_memory ∷ xs) = Avoids names xs

-- the first items are deeper, and no entry after them has names that begin with these
abbrev Under : ℕ → List (List ℕ) → List Given → Type 0
Under d names [] = ⊤
Under d names (x ∷ xs) = ((is_deeper d x ≡ true) × Under d names xs) ⊎ Avoids names (x ∷ xs)

-- this is so of what comes after each entry
abbrev Splits : List Given → Type 0
Splits [] = ⊤
Splits (entry m f ∷ xs) = Under f.depth (names_of f) xs × Splits xs
Splits (fault kind path depth ∷ xs) = Splits xs
Splits (no_memory ∷ xs) = Splits xs

avoids_under : (d : ℕ) (names : List (List ℕ)) (xs : List Given) → Avoids names xs → Under d names xs
avoids_under d names [] h = tt
avoids_under d names (x ∷ xs) h = inr h

avoids_more : (names : List (List ℕ)) (x : List ℕ) (xs : List Given) → Avoids names xs
    → Avoids (names ++ x ∷ []) xs
avoids_more names x [] h = tt
avoids_more names x (entry m f ∷ xs) h =
    ((λ more e. h.0 (x ∷ more) (e ∙ append_assoc names (x ∷ []) more)), avoids_more names x xs h.1)
avoids_more names x (fault kind path depth ∷ xs) h = avoids_more names x xs h
avoids_more names x (no_memory ∷ xs) h = avoids_more names x xs h

-- no names begin with both
abbrev Clash : List (List ℕ) → List (List ℕ) → Type 0
Clash names others = (a b : List (List ℕ)) → others ++ a ≡ names ++ b → ⊥

clash_more : (names others : List (List ℕ)) (x : List ℕ) → Clash names others → Clash names (others ++ x ∷ [])
clash_more names others x h a b e = h (x ∷ a) b (sym (append_assoc others (x ∷ []) a) ∙ e)

differ : (names : List (List ℕ)) (x y : List ℕ) → ¬ (y ≡ x) → Clash (names ++ x ∷ []) (names ++ y ∷ [])
differ [] x y other a b e = other (cc)
differ (n ∷ names) x y other a b e =
    let rest : (names ++ y ∷ []) ++ a ≡ (names ++ x ∷ []) ++ b = cc in differ names x y other a b rest

entry_avoids : (at : Location) (names others : List (List ℕ)) (x : List ℕ) → IsAt at others → IsPlain x
    → Clash names (others ++ x ∷ []) → (more : List (List ℕ))
    → names_in_path (join at.candidate x) ≡ names ++ more → ⊥
entry_avoids at names others x here plain clash more e =
    clash [] more (append-nil (others ++ x ∷ []) ∙ sym (item_names at others x here plain) ∙ e)

clash_avoids : (at : Location) (l : Items) (names others : List (List ℕ)) (ys : List Given)
    → IsAt at others → ArePlainItems l → Clash names others → Avoids names ys
    → Avoids names (whole_items at l ++ ys)
clash_avoids at end names others ys here plain clash rest = rest
clash_avoids at (leaf x link l) names others ys here plain clash rest = (
  entry_avoids at names others x here plain.0 (clash_more names others x clash),
  clash_avoids at l names others ys here plain.1 clash rest,
)
clash_avoids at (folder x inner l) names others ys here plain clash rest =
    let deep : List Given = whole_items (one_deeper (item_location at x)) inner in
    let more : List Given = whole_items at l in (
      entry_avoids at names others x here plain.0 (clash_more names others x clash),
      subst (Avoids names) (sym (append_assoc deep more ys))
          (clash_avoids (one_deeper (item_location at x)) inner names (others ++ x ∷ []) (more ++ ys)
          (below_at at others x here plain.0) plain.1 (clash_more names others x clash)
          (clash_avoids at l names others ys here plain.2 clash rest)),
    )
clash_avoids at (sealed x l) names others ys here plain clash rest = (
  entry_avoids at names others x here plain.0 (clash_more names others x clash),
  clash_avoids at l names others ys here plain.1 clash rest,
)
clash_avoids at (misnamed x kind l) names others ys here plain clash rest =
    clash_avoids at l names others ys here plain clash rest
clash_avoids at (unread l) names others ys here plain clash rest =
    clash_avoids at l names others ys here plain clash rest
clash_avoids at (not_text l) names others ys here plain clash rest =
    clash_avoids at l names others ys here plain clash rest

-- other names of the same folder, with what is below them
others_avoid : (at : Location) (l : Items) (names : List (List ℕ)) (x : List ℕ) (ys : List Given)
    → IsAt at names → ArePlainItems l → IsNew x l → Avoids (names ++ x ∷ []) ys
    → Avoids (names ++ x ∷ []) (whole_items at l ++ ys)
others_avoid at end names x ys here plain new rest = rest
others_avoid at (leaf y link l) names x ys here plain new rest = (
  entry_avoids at (names ++ x ∷ []) names y here plain.0 (differ names x y new.0),
  others_avoid at l names x ys here plain.1 new.1 rest,
)
others_avoid at (folder y inner l) names x ys here plain new rest =
    let deep : List Given = whole_items (one_deeper (item_location at y)) inner in
    let more : List Given = whole_items at l in (
      entry_avoids at (names ++ x ∷ []) names y here plain.0 (differ names x y new.0),
      subst (Avoids (names ++ x ∷ [])) (sym (append_assoc deep more ys))
          (clash_avoids (one_deeper (item_location at y)) inner (names ++ x ∷ [])
          (names ++ y ∷ []) (more ++ ys)
          (below_at at names y here plain.0) plain.1 (differ names x y new.0)
          (others_avoid at l names x ys here plain.2 new.1 rest)),
    )
others_avoid at (sealed y l) names x ys here plain new rest = (
  entry_avoids at (names ++ x ∷ []) names y here plain.0 (differ names x y new.0),
  others_avoid at l names x ys here plain.1 new.1 rest,
)
others_avoid at (misnamed y kind l) names x ys here plain new rest =
    others_avoid at l names x ys here plain new rest
others_avoid at (unread l) names x ys here plain new rest = others_avoid at l names x ys here plain new rest
others_avoid at (not_text l) names x ys here plain new rest = others_avoid at l names x ys here plain new rest

-- what is in a folder is deeper than the folder
all_under : (at : Location) (l : Items) (d : ℕ) (names : List (List ℕ)) (ys : List Given) → d < at.depth
    → Under d names ys → Under d names (whole_items at l ++ ys)
all_under at end d names ys less rest = rest
all_under at (leaf x link l) d names ys less rest =
    inl (lt-ltb d at.depth less, all_under at l d names ys less rest)
all_under at (folder x inner l) d names ys less rest =
    let deep : List Given = whole_items (one_deeper (item_location at x)) inner in
    let more : List Given = whole_items at l in
    inl (
      lt-ltb d at.depth less,
      subst (Under d names) (sym (append_assoc deep more ys))
          (all_under (one_deeper (item_location at x)) inner d names (more ++ ys) (omega (arith, less))
          (all_under at l d names ys less rest)),
    )
all_under at (sealed x l) d names ys less rest =
    inl (
      lt-ltb d at.depth less,
      inl (
        not_less at.depth d (omega (arith, less)),
        all_under at l d names ys less rest,
      ),
    )
all_under at (misnamed x kind l) d names ys less rest =
    inl (not_less (at.depth - 1) d (omega (arith, less)), all_under at l d names ys less rest)
all_under at (unread l) d names ys less rest =
    inl (not_less (at.depth - 1) d (omega (arith, less)), all_under at l d names ys less rest)
all_under at (not_text l) d names ys less rest =
    inl (not_less (at.depth - 1) d (omega (arith, less)), all_under at l d names ys less rest)

under_item : (at : Location) (names : List (List ℕ)) (x : List ℕ) (xs : List Given) → IsAt at names
    → IsPlain x → Under at.depth (names ++ x ∷ []) xs
    → Under at.depth (names_in_path (join at.candidate x)) xs
under_item at names x xs here plain h =
    subst (λ ns. Under at.depth ns xs) (sym (item_names at names x here plain)) h

items_split : (at : Location) (l : Items) (names : List (List ℕ)) (ys : List Given) → IsAt at names
    → ArePlainItems l → AreDistinct l → Avoids names ys → Splits ys → Splits (whole_items at l ++ ys)
items_split at end names ys here plain distinct avoids rest = rest
items_split at (leaf x link l) names ys here plain distinct avoids rest =
    let more : List Given = whole_items at l ++ ys in (
      under_item at names x more here plain.0 (avoids_under at.depth (names ++ x ∷ []) more
          (others_avoid at l names x ys here plain.1 distinct.0 (avoids_more names x ys avoids))),
      items_split at l names ys here plain.1 distinct.1 avoids rest,
    )
items_split at (folder x inner l) names ys here plain distinct avoids rest =
    let inside : Location = one_deeper (item_location at x) in
    let deep : List Given = whole_items inside inner in
    let more : List Given = whole_items at l in
    let apart : Avoids (names ++ x ∷ []) (more ++ ys) =
    others_avoid at l names x ys here plain.2 distinct.0 (avoids_more names x ys avoids) in
    let same : (deep ++ more) ++ ys ≡ deep ++ (more ++ ys) = append_assoc deep more ys in (
      under_item at names x ((deep ++ more) ++ ys) here plain.0
          (subst (Under at.depth (names ++ x ∷ [])) (sym same)
          (all_under inside inner at.depth (names ++ x ∷ []) (more ++ ys) (omega arith)
          (avoids_under at.depth (names ++ x ∷ []) (more ++ ys) apart))),
      subst Splits (sym same) (items_split inside inner (names ++ x ∷ []) (more ++ ys)
          (below_at at names x here plain.0) plain.1 distinct.1 apart
          (items_split at l names ys here plain.2 distinct.2 avoids rest)),
    )
items_split at (sealed x l) names ys here plain distinct avoids rest =
    let more : List Given = whole_items at l ++ ys in (
      under_item at names x (fault Listing (join at.path x) at.depth ∷ more) here plain.0
          (inl (
            not_less at.depth at.depth (omega arith),
            avoids_under at.depth (names ++ x ∷ []) more
                (others_avoid at l names x ys here plain.1 distinct.0 (avoids_more names x ys avoids)),
          )),
      items_split at l names ys here plain.1 distinct.1 avoids rest,
    )
items_split at (misnamed x kind l) names ys here plain distinct avoids rest =
    items_split at l names ys here plain distinct avoids rest
items_split at (unread l) names ys here plain distinct avoids rest =
    items_split at l names ys here plain distinct avoids rest
items_split at (not_text l) names ys here plain distinct avoids rest =
    items_split at l names ys here plain distinct avoids rest

walk_splits : (start : List ℕ) (s : Shown) → IsPlainShown s → IsDistinct s → Splits (whole start s)
walk_splits start (a_leaf link) plain distinct = (tt, tt)
walk_splits start (a_folder l) plain distinct =
    let at : Location = one_deeper (start_location start) in
    let items : List Given = whole_items at l in (
      subst (Under 0 []) (append-nil items) (all_under at l 0 [] [] (omega arith) tt),
      subst Splits (append-nil items) (items_split at l [] []
          (record { has = refl; depth = refl }) plain distinct tt tt),
    )
walk_splits start a_sealed plain distinct = (inl (refl, tt), tt)
walk_splits start missing plain distinct = tt
walk_splits start failing plain distinct = tt

avoids_at : (names : List (List ℕ)) (between after : List Given) (m : Mark) (f : Facts)
    → Avoids names (between ++ entry m f ∷ after) → (more : List (List ℕ)) → names_of f ≡ names ++ more → ⊥
avoids_at names [] after m f h = h.0
avoids_at names (entry n g ∷ between) after m f h = avoids_at names between after m f h.1
avoids_at names (fault kind path depth ∷ between) after m f h = avoids_at names between after m f h
avoids_at names (no_memory ∷ between) after m f h = avoids_at names between after m f h

all_deeper : (d : ℕ) (names more : List (List ℕ)) (between after : List Given) (m : Mark) (f : Facts)
    → Under d names (between ++ entry m f ∷ after) → names_of f ≡ names ++ more
    → list_all (is_deeper d) (between ++ entry m f ∷ []) ≡ true
all_deeper d names more [] after m f (inl h) e = and_from (is_deeper d (entry m f)) true h.0 refl
all_deeper d names more [] after m f (inr h) e = absurd (h.0 more e)
all_deeper d names more (y ∷ between) after m f (inl h) e =
    and_from (is_deeper d y) (list_all (is_deeper d) (between ++ entry m f ∷ [])) h.0
    (all_deeper d names more between after m f h.1 e)
all_deeper d names more (y ∷ between) after m f (inr h) e =
    absurd (avoids_at names (y ∷ between) after m f h more e)

splits_after : (y : Given) (xs : List Given) → Splits (y ∷ xs) → Splits xs
splits_after (entry m f) xs h = h.1
splits_after (fault kind path depth) xs h = h
splits_after no_memory xs h = h

module _ (rule : Facts → Mark) (m n : Mark) (above f : Facts) (after : List Given)
    (cut : cut_by rule (entry n above) ≡ true) (below : IsEntryBelow above f) where
  cancelled_at : (items : List Given) (k : ℕ) → k < length items
      → get_or items k (entry n above) ≡ entry n above
      → Splits (items ++ entry m f ∷ after) → is_cancelled (cut_by rule) items (entry m f) ≡ true
  cancelled_at [] k less is h = absurd (omega (arith, less))
  cancelled_at (y ∷ between) zero less is h =
      let split : Splits (entry n above ∷ (between ++ entry m f ∷ after)) =
      subst (λ v. Splits (v ∷ (between ++ entry m f ∷ after))) is h in
      let deep : list_all (is_deeper above.depth) (between ++ entry m f ∷ []) ≡ true =
      all_deeper above.depth (names_of above) (below.0 ∷ below.1) between after m f split.0 below.2 in
      subst (λ v. is_cancelled (cut_by rule) (v ∷ between) (entry m f) ≡ true) (sym is)
      (or_left (cut_by rule (entry n above) && are_below (entry n above) (between ++ entry m f ∷ []))
      (is_cancelled (cut_by rule) between (entry m f))
      (and_from (cut_by rule (entry n above))
      (are_below (entry n above) (between ++ entry m f ∷ [])) cut deep))
  cancelled_at (y ∷ between) (suc k) less is h =
      or_right (cut_by rule y && are_below y (between ++ entry m f ∷ []))
      (is_cancelled (cut_by rule) between (entry m f))
      (cancelled_at between k (omega (arith, less)) is (splits_after y (between ++ entry m f ∷ after) h))

all_below : (rule : Facts → Mark) (start : List ℕ) (s : Shown) (before after : List Given) (m : Mark)
    (f : Facts) → IsWellNamed s → whole start s ≡ before ++ entry m f ∷ after → IsBelowCut rule before f
    → is_cancelled (cut_by rule) before (entry m f) ≡ true
all_below rule start s before after m f well split h =
    cancelled_at rule m h.0 h.1 f after h.3 h.4 before h.2.0 h.2.1 h.2.2
    (subst Splits split (walk_splits start s well.plain well.distinct))

pub cancels_below : CancelsByNames
cancels_below rule start s before after m f well split = (
  only_below rule start s before after m f well.plain split,
  all_below rule start s before after m f well split,
)
