-- What a node shows that is made from tails.
use Rattle.std.proofs.Common.{◌≡◌, ℕ, ◌+◌, ◌<◌, ◌≤◌, arith, zero, suc, Bool, true, false, cond, ◌||◌, ◌⊎◌}
use Rattle.std.proofs.Common.{inl, inr, List, [], ◌∷◌, ◌++◌, map, drop, get_or, length, Option, Some, None}
use Rattle.std.proofs.Common.{MatchBool, string_bytes, slice_get, if◌then◌else◌, refl, sym, ◌∙◌, ap, subst}
use Rattle.std.proofs.{Common.{Bor, rules}, lemmas.Bool.{or_parts, or_from, or_left, or_right, false≢true}}
use Rattle.std.proofs.{lemmas.List.{at_drop_more, at_drop_all}, lemmas.List.Folds.list_any-append}
use Rattle.std.proofs.lemmas.Slice.Eq.{bytes_eq-Decides}
use Rattle.std.specs.{List.{list_any, filter_map, cons_option}, Str.bytes_eq}
use Rattle.wax_directory.specs.{declared.tree.Node.Node, declared.tree.Tree.Tree}
use Rattle.wax_directory.specs.{declared.tree.TreeItem.TreeItem, declared.tree.TreeItem.TheVariants.Entry}
use Rattle.wax_directory.specs.declared.tree.Node.TheOpen.{TreeItem-F}
use Rattle.wax_directory.specs.declared.tree.Node.TheViews.{out-Node, out-TreeItem, the_lemmas}
use Rattle.wax_directory.specs.declared.directory.FileType.TheVariants.{File, Folder}
use Rattle.wax_directory.specs.Shown.{Items, Shown, a_leaf, a_folder, missing, misnamed, Listed, named}
use Rattle.wax_directory.specs.{Shown.listing, Names.{is_plain, is_rooted, names_in_path, are_distinct}}
use Rattle.wax_directory.specs.Nodes.{kind_of, with_plain, with_entry, shown_of, items_shown, node_layer}
use Rattle.wax_directory.specs.Nodes.{entry_node, held_layer, name_before, names_of, HasDistinctNames}
use Rattle.wax_directory.specs.Nodes.{Reached, to_node, to_nothing, named_before, named_in, below_layer}
use Rattle.wax_directory.specs.{Nodes.{onward, reached, shown_reached}, Trees.{shown_in, tree_shows}}
use Rattle.wax_directory.specs.inner.Reaching.{layer_shown, shown_layer, item_layer_shown, item_layer}
use Rattle.wax_directory.specs.PathTails.{PathTail, tail, leads_on, first_name, rest_after, below_name, rests}
use Rattle.wax_directory.specs.PathTails.{holds_name, added, with_new, names_by, kind_by, listing_by, HoldsBy}
use Rattle.wax_directory.specs.PathTails.{StandsBy, tails_from, tails_to}
use Rattle.wax_directory.specs.{inner.Places.{layer_has_name, has_name}, inner.Growing.{new_name, Grows}}
use Rattle.wax_directory.proofs.Finding.{out_entry, out_folder, folder_held, folder_distinct, leaf_distinct}
use Rattle.wax_directory.proofs.{Finding.{names_of-append, entry_within}, PathNames.bytes_eq-swap}
use Rattle.wax_directory.specs.declared.tree.Node.TheOpen as O
use Rattle.wax_directory.specs.declared.tree.Node.TheVariants as N
use Rattle.wax_directory.specs.declared.tree.Node.TheViews as V

-- ---- how many names there are in all

abbrev pub names_left : PathTail → ℕ
names_left (tail names is_folder) = length names

abbrev pub total : List PathTail → ℕ
total [] = 0
total (r ∷ tails) = names_left r + total tails

abbrev pub left_of : Option PathTail → ℕ
left_of None = 0
left_of (Some r) = names_left r

total_cons : (o : Option PathTail) (tails : List PathTail)
    → total (cons_option o tails) ≡ left_of o + total tails
total_cons None tails = omega arith
total_cons (Some r) tails = refl

after_fewer : (x : List ℕ) (r : PathTail) → left_of (rest_after x r) ≤ names_left r
after_fewer x (tail [] f) = omega arith
after_fewer x (tail (y ∷ names) f) = elim (bytes_eq y x) as
    (λ b. left_of (cond b (Some (tail names f)) None) ≤ names_left (tail (y ∷ names) f))
    [ true ↦ omega arith | false ↦ omega arith ]

-- what is left of a tail that begins with a name
abbrev pub BeginsWith : List ℕ → PathTail → Type 0
BeginsWith x r = (rest : PathTail) × (rest_after x r ≡ Some rest) × (names_left rest < names_left r)

begins_with : (x : List ℕ) (r : PathTail) → first_name r ≡ Some x → BeginsWith x r
begins_with x (tail [] f) e = absurd (let g : None ≡ Some x = e in cc)
begins_with x (tail (y ∷ names) f) e =
    let g : Some y ≡ Some x = e in
    let same : y ≡ x = cc in (
      tail names f,
      ap (λ b. cond b (Some (tail names f)) None) ((bytes_eq-Decides y x).1 same),
      omega arith,
    )

below_fewer : (x : List ℕ) (tails : List PathTail) → total (below_name x tails) ≤ total tails
below_fewer x [] = omega arith
below_fewer x (r ∷ tails) =
    let h : total (below_name x tails) ≤ total tails = below_fewer x tails in
    let k : total (below_name x (r ∷ tails)) ≡ left_of (rest_after x r) + total (below_name x tails) =
    total_cons (rest_after x r) (below_name x tails) in
    omega (arith, h, k, after_fewer x r)

-- fewer are left below the first name of one of them
pub below_less : (x : List ℕ) (tails : List PathTail) (k : ℕ) (d : PathTail) → k < length tails
    → first_name (get_or tails k d) ≡ Some x → total (below_name x tails) < total tails
below_less x [] k d lt e = absurd (omega (arith, lt))
below_less x (r ∷ tails) zero d lt e =
    let b : BeginsWith x r = begins_with x r e in
    let h : total (below_name x tails) ≤ total tails = below_fewer x tails in
    let s : left_of (rest_after x r) ≡ names_left b.0 = ap left_of b.1 in
    let k : total (below_name x (r ∷ tails)) ≡ left_of (rest_after x r) + total (below_name x tails) =
    total_cons (rest_after x r) (below_name x tails) in
    omega (arith, h, k, s, b.2)
below_less x (r ∷ tails) (suc k) d lt e =
    let h : total (below_name x tails) < total tails = below_less x tails k d (omega (arith, lt)) e in
    let s : total (below_name x (r ∷ tails)) ≡ left_of (rest_after x r) + total (below_name x tails) =
    total_cons (rest_after x r) (below_name x tails) in
    omega (arith, h, s, after_fewer x r)

cons_some : (o : Option PathTail) (r : PathTail) (tails : List PathTail) → o ≡ Some r
    → ¬ (cons_option o tails ≡ [])
cons_some None r tails e h = absurd (let g : None ≡ Some r = e in cc)
cons_some (Some q) r tails e h = absurd (let g : q ∷ tails ≡ [] = h in cc)

cons_later : (o : Option PathTail) (tails : List PathTail) → ¬ (tails ≡ []) → ¬ (cons_option o tails ≡ [])
cons_later None tails some h = some h
cons_later (Some q) tails some h = absurd (let g : q ∷ tails ≡ [] = h in cc)

-- something is left below the first name of one of them
pub below_some : (x : List ℕ) (tails : List PathTail) (k : ℕ) (d : PathTail) → k < length tails
    → first_name (get_or tails k d) ≡ Some x → ¬ (below_name x tails ≡ [])
below_some x [] k d lt e = absurd (omega (arith, lt))
below_some x (r ∷ tails) zero d lt e =
    let b : BeginsWith x r = begins_with x r e in cons_some (rest_after x r) b.0 (below_name x tails) b.1
below_some x (r ∷ tails) (suc k) d lt e =
    cons_later (rest_after x r) (below_name x tails) (below_some x tails k d (omega (arith, lt)) e)

-- ---- the names with which tails begin

added_holds : (names : List (List ℕ)) (x : List ℕ) → holds_name x (added names x) ≡ true
added_holds names x =
    elim (holds_name x names) as
    (λ b. holds_name x names ≡ b → holds_name x (cond b names (names ++ x ∷ [])) ≡ true) [
      | true ↦ λ e. e
      | false ↦ λ e. list_any-append (λ y. bytes_eq y x) names (x ∷ []) ∙ or_right (holds_name x names)
          (holds_name x (x ∷ [])) (or_left (bytes_eq x x) false ((bytes_eq-Decides x x).1 refl))
    ] refl

kept_added : (x : List ℕ) (names : List (List ℕ)) (y : List ℕ) → holds_name x names ≡ true
    → holds_name x (added names y) ≡ true
kept_added x names y h =
    elim (holds_name y names) as (λ b. holds_name x (cond b names (names ++ y ∷ [])) ≡ true) [
      | true ↦ h
      | false ↦ list_any-append (λ z. bytes_eq z x) names (y ∷ []) ∙ or_left (holds_name x names)
          (holds_name x (y ∷ [])) h
    ]

kept : (x : List ℕ) (more names : List (List ℕ)) → holds_name x names ≡ true
    → holds_name x (with_new names more) ≡ true
kept x [] names h = h
kept x (y ∷ more) names h = kept x more (added names y) (kept_added x names y h)

-- no tail begins with a name that isn't among the first names
absent : (x : List ℕ) (tails : List PathTail) (names : List (List ℕ))
    → holds_name x (with_new names (filter_map first_name tails)) ≡ false → below_name x tails ≡ []
absent x [] names h = refl
absent x (tail [] f ∷ tails) names h = absent x tails names h
absent x (tail (y ∷ rest) f ∷ tails) names h =
    let later : below_name x tails ≡ [] = absent x tails (added names y) h in
    elim (bytes_eq y x) as
    (λ b. bytes_eq y x ≡ b → cons_option (cond b (Some (tail rest f)) None) (below_name x tails) ≡ []) [
      | true ↦ λ e. absurd
          (false≢true
          (sym h ∙ kept x (filter_map first_name tails) (added names y)
          (subst (λ z. holds_name z (added names y) ≡ true) ((bytes_eq-Decides y x).0 e)
          (added_holds names y))))
      | false ↦ λ e. later
    ] refl

pub is_new : (x : List ℕ) (names : List (List ℕ)) → holds_name x names ≡ false
    → list_any (bytes_eq x) names ≡ false
is_new x [] h = refl
is_new x (y ∷ names) h =
    let p : (bytes_eq y x ≡ false) × (holds_name x names ≡ false) =
    or_parts (bytes_eq y x) (holds_name x names) h in
    or_from (bytes_eq x y) (list_any (bytes_eq x) names) (bytes_eq-swap y x p.0) (is_new x names p.1)

has_layer : (x : List ℕ) (k : TreeItem-F Node TreeItem) (i : TreeItem) (names : List (List ℕ)) (b : Bool)
    → out-TreeItem i ≡ k → b ≡ holds_name x names
    → (has_name x i || b) ≡ holds_name x (name_before k names)
has_layer x (O.Entry name n) i names b is h =
    ap (λ l. layer_has_name x l || b) is ∙ ap (λ c. bytes_eq (string_bytes name) x || c) h
has_layer x O.Failed i names b is h = ap (λ l. layer_has_name x l || b) is ∙ h
has_layer x O.NotText i names b is h = ap (λ l. layer_has_name x l || b) is ∙ h

-- an item has a name that is among the names of all
pub has_among : (x : List ℕ) (items : List TreeItem)
    → list_any (has_name x) items ≡ holds_name x (names_of items)
has_among x [] = refl
has_among x (i ∷ items) = has_layer x (out-TreeItem i) i (names_of items) (list_any (has_name x) items) refl
    (has_among x items)

-- ---- a step of the loop

abbrev with_option : List (List ℕ) → Option (List ℕ) → List (List ℕ)
with_option names None = names
with_option names (Some x) = added names x

option_step : (names : List (List ℕ)) (o : Option (List ℕ)) (more : List (List ℕ))
    → with_new names (cons_option o more) ≡ with_new (with_option names o) more
option_step names None more = refl
option_step names (Some x) more = refl

names_step : (names : List (List ℕ)) (tails : List PathTail) (k : ℕ) (r : PathTail) → k < length tails
    → r ≡ get_or tails k r → with_new names (filter_map first_name (drop k tails)) ≡ with_new
    (with_option names (first_name r)) (filter_map first_name (drop (k + 1) tails))
names_step names tails k r lt is =
    at_drop_more (λ l. with_new names (filter_map first_name l)) tails k r lt
    ∙ ap (λ q. with_new names (filter_map first_name (q ∷ drop (k + 1) tails))) (sym is)
    ∙ option_step names (first_name r) (filter_map first_name (drop (k + 1) tails))

not_new : (o : Option (List ℕ)) (names : List (List ℕ)) → None ≡ new_name names o
    → with_option names o ≡ names
not_new None names e = refl
not_new (Some x) names e =
    elim (holds_name x names) as
    (λ b. None ≡ cond b None (Some x) → cond b names (names ++ x ∷ []) ≡ names) [
      | true ↦ λ g. refl
      | false ↦ λ g. absurd (let f : None ≡ Some x = g in cc)
    ] e

-- a name that is new is the first of its tail, and not among the others
abbrev pub IsNewOf : List (List ℕ) → Option (List ℕ) → List ℕ → Type 0
IsNewOf names o x = (o ≡ Some x) × (holds_name x names ≡ false)

pub new_of : (o : Option (List ℕ)) (names : List (List ℕ)) (x : List ℕ) → Some x ≡ new_name names o
    → IsNewOf names o x
new_of None names x e = absurd (let g : Some x ≡ None = e in cc)
new_of (Some y) names x e =
    elim (holds_name y names) as
    (λ b. holds_name y names ≡ b → Some x ≡ cond b None (Some y) → IsNewOf names (Some y) x) [
      | true ↦ λ h g. absurd (let f : Some x ≡ None = g in cc)
      | false ↦ λ h g. let f : Some x ≡ Some y = g in let same : x ≡ y = cc in
          (ap Some (sym same), subst (λ z. holds_name z names ≡ false) (sym same) h)
    ] refl e

-- a tail whose first name is not new adds none
pub names_same : (names : List (List ℕ)) (tails : List PathTail) (k : ℕ) (r : PathTail) → k < length tails
    → r ≡ get_or tails k r → None ≡ new_name names (first_name r) → with_new names
    (filter_map first_name (drop k tails)) ≡ with_new names (filter_map first_name (drop (k + 1) tails))
names_same names tails k r lt is e =
    names_step names tails k r lt is ∙ ap
    (λ l. with_new l (filter_map first_name (drop (k + 1) tails))) (not_new (first_name r) names e)

-- a tail whose first name is new adds that
pub names_grown : (names more : List (List ℕ)) (tails : List PathTail) (k : ℕ) (r : PathTail) (x : List ℕ)
    → k < length tails → r ≡ get_or tails k r → IsNewOf names (first_name r) x → more ≡ names ++ x ∷ []
    → with_new names (filter_map first_name (drop k tails)) ≡ with_new more
    (filter_map first_name (drop (k + 1) tails))
names_grown names more tails k r x lt is new e =
    names_step names tails k r lt is
    ∙ ap (λ o. with_new (with_option names o) (filter_map first_name (drop (k + 1) tails))) new.0
    ∙ ap (λ b. with_new (cond b names (names ++ x ∷ [])) (filter_map first_name (drop (k + 1) tails))) new.1
    ∙ ap (λ l. with_new l (filter_map first_name (drop (k + 1) tails))) (sym e)

-- at the end all first names were collected
pub names_all : (names whole : List (List ℕ)) (tails : List PathTail) (k : ℕ) → length tails ≤ k
    → with_new names (filter_map first_name (drop k tails)) ≡ whole → names ≡ whole
names_all names whole tails k le e =
    sym (at_drop_all (λ l. with_new names (filter_map first_name l)) tails k le) ∙ e

pub first_of : (r : PathTail) (names rest : List (Bor (List ℕ))) (x : Bor (List ℕ)) (f : Bool)
    → tail (map (λ y. y.now) names) f ≡ r → names ≡ x ∷ rest → first_name r ≡ Some x.now
first_of r names rest x f e h =
    sym (ap first_name e) ∙ ap (λ (l : List (Bor (List ℕ))). first_name (tail (map (λ y. y.now) l) f)) h

pub name_taken : (names : List (List ℕ)) (o : Option (List ℕ)) (x : List ℕ) → o ≡ Some x
    → holds_name x names ≡ true → None ≡ new_name names o
name_taken names o x e h =
    sym (ap (new_name names) e ∙ ap (λ (b : Bool). cond b None (Some x)) h)

pub name_free : (names : List (List ℕ)) (o : Option (List ℕ)) (x : List ℕ) → o ≡ Some x
    → holds_name x names ≡ false → Some x ≡ new_name names o
name_free names o x e h =
    sym (ap (new_name names) e ∙ ap (λ (b : Bool). cond b None (Some x)) h)

-- ---- what is shown where no tail leads on

rests_none : (names : List (List ℕ)) → rests names [] ≡ []
rests_none [] = refl
rests_none (x ∷ names) = rests_none names

stands_none : (tails : List PathTail) (s : Shown) → tails ≡ [] → s ≡ missing → StandsBy tails s
stands_none tails s e h = subst (λ l. StandsBy l s) (sym e) h

below_ended : (x : List ℕ) (tails : List PathTail) → list_any leads_on tails ≡ false → below_name x tails ≡ []
below_ended x [] h = refl
below_ended x (tail [] f ∷ tails) h = below_ended x tails (or_parts f (list_any leads_on tails) h).1
below_ended x (tail (y ∷ rest) f ∷ tails) h = absurd (false≢true (sym h))

out_file : out-Node N.File ≡ O.File
out_file = search (rules, the_lemmas)

file_stands : (tails : List PathTail) → ¬ (tails ≡ []) → list_any leads_on tails ≡ false → StandsBy tails
    (shown_of N.File)
file_stands [] some h = absurd (some refl)
file_stands (r ∷ tails) some h =
    let P : Bool → Type 0 = λ b. MatchBool b (HoldsBy (r ∷ tails) (shown_of N.File))
    (shown_of N.File ≡ a_leaf false) in
    subst P (sym h) (shown_layer N.File ∙ ap layer_shown out_file)

pub file_grows : (tails : List PathTail) → ¬ (tails ≡ []) → list_any leads_on tails ≡ false
    → Grows tails N.File
file_grows tails some h [] = file_stands tails some h
file_grows tails some h (x ∷ names) =
    stands_none (rests names (below_name x tails)) (shown_reached (reached (x ∷ names) N.File))
    (ap (rests names) (below_ended x tails h) ∙ rests_none names)
    (ap (λ k. shown_reached (onward (reached names) (below_layer x k))) out_file)

pub file_distinct : HasDistinctNames N.File
file_distinct = leaf_distinct N.File (ap held_layer out_file)

-- ---- the items of a folder

abbrev pub GrownLayer : List PathTail → TreeItem-F Node TreeItem → Type 0
GrownLayer tails (O.Entry name n) = ¬ (below_name (string_bytes name) tails ≡ []) × Grows
    (below_name (string_bytes name) tails) n × HasDistinctNames n
GrownLayer tails O.Failed = ⊥
GrownLayer tails O.NotText = ⊥

abbrev pub AreGrown : List PathTail → List TreeItem → Type 0
AreGrown tails [] = Unit {0}
AreGrown tails (i ∷ items) = GrownLayer tails (out-TreeItem i) × AreGrown tails items

grown_push : (tails : List PathTail) (items : List TreeItem) (i : TreeItem) → AreGrown tails items
    → GrownLayer tails (out-TreeItem i) → AreGrown tails (items ++ i ∷ [])
grown_push tails [] i g h = (h, tt)
grown_push tails (j ∷ items) i g h = (g.0, grown_push tails items i g.1 h)

pub entry_grown : (tails : List PathTail) (items more : List TreeItem) (name : _) (n : Node) (x : List ℕ)
    → more ≡ items ++ Entry name n ∷ [] → string_bytes name ≡ x → AreGrown tails items
    → ¬ (below_name x tails ≡ []) → Grows (below_name x tails) n → HasDistinctNames n → AreGrown tails more
entry_grown tails items more name n x is e g some grows distinct =
    let P : List ℕ → Type 0 = λ y. ¬ (below_name y tails ≡ []) × Grows (below_name y tails) n ×
    HasDistinctNames n in
    let layer : GrownLayer tails (O.Entry name n) = subst P (sym e) (some, grows, distinct) in
    subst (AreGrown tails) (sym is)
    (grown_push tails items (Entry name n) g (subst (GrownLayer tails) (sym (out_entry name n)) layer))

pub entry_named : (items more : List TreeItem) (name : _) (n : Node) (x : List ℕ)
    → more ≡ items ++ Entry name n ∷ [] → string_bytes name ≡ x → names_of more ≡ names_of items ++ x ∷ []
entry_named items more name n x is e =
    ap names_of is ∙ names_of-append items (Entry name n ∷ [])
    ∙ ap (λ l. names_of items ++ name_before l []) (out_entry name n)
    ∙ ap (λ y. names_of items ++ y ∷ []) e

listed_folder : (y : List ℕ) (l rest : Items) → listing (with_entry y (a_folder l) rest) ≡ named y Folder ∷
    listing rest
listed_folder y l rest = elim (is_plain y) as
    (λ b. listing (cond b (with_plain y (a_folder l) rest) (misnamed y (kind_of (a_folder l)) rest)) ≡ named y
    Folder ∷ listing rest) [ true ↦ refl | false ↦ refl ]

listed_file : (y : List ℕ) (rest : Items) → listing (with_entry y (a_leaf false) rest) ≡ named y File ∷
    listing rest
listed_file y rest = elim (is_plain y) as
    (λ b. listing (cond b (with_plain y (a_leaf false) rest) (misnamed y (kind_of (a_leaf false)) rest)) ≡
    named y File ∷ listing rest) [ true ↦ refl | false ↦ refl ]

listed_entry : (y : List ℕ) (tails : List PathTail) (s : Shown) (rest : Items) → ¬ (tails ≡ [])
    → StandsBy tails s → listing (with_entry y s rest) ≡ named y (kind_by tails) ∷ listing rest
listed_entry y [] s rest some h = absurd (some refl)
listed_entry y (r ∷ tails) s rest some h =
    elim (list_any leads_on (r ∷ tails)) as
    (λ b. MatchBool b (HoldsBy (r ∷ tails) s) (s ≡ a_leaf false)
    → listing (with_entry y s rest) ≡ named y (cond b Folder File) ∷ listing rest) [
      | true ↦ λ g. subst (λ v. listing (with_entry y v rest) ≡ named y Folder ∷ listing rest) (sym g.1)
          (listed_folder y g.0 rest)
      | false ↦ λ g. subst (λ v. listing (with_entry y v rest) ≡ named y File ∷ listing rest) (sym g)
          (listed_file y rest)
    ] h

abbrev listed_by : List PathTail → List ℕ → Listed
listed_by tails x = named x (kind_by (below_name x tails))

listed_first : (tails : List PathTail) (k : TreeItem-F Node TreeItem) (rest : Items) (names : List (List ℕ))
    → GrownLayer tails k → listing rest ≡ map (listed_by tails) names
    → listing (item_layer_shown k rest) ≡ map (listed_by tails) (name_before k names)
listed_first tails (O.Entry name n) rest names g h =
    listed_entry (string_bytes name) (below_name (string_bytes name) tails) (shown_of n) rest g.0 (g.1 [])
    ∙ ap (λ l. listed_by tails (string_bytes name) ∷ l) h
listed_first tails O.Failed rest names g h = absurd g
listed_first tails O.NotText rest names g h = absurd g

listed_items : (tails : List PathTail) (items : List TreeItem) → AreGrown tails items
    → listing (items_shown items) ≡ map (listed_by tails) (names_of items)
listed_items tails [] g = refl
listed_items tails (i ∷ items) g =
    ap (λ (f : Items → Items). listing (f (items_shown items))) (item_layer i)
    ∙ listed_first tails (out-TreeItem i) (items_shown items) (names_of items) g.0
    (listed_items tails items g.1)

-- a name among the items leads to what was made of what is left, and any other to nothing
abbrev FoundBy : List ℕ → List PathTail → Reached → List (List ℕ) → Type 0
FoundBy x tails r names = ((n : Node) × (r ≡ to_node n) × Grows (below_name x tails) n) ⊎
    ((r ≡ to_nothing) × (holds_name x names ≡ false))

found_layer : (x : List ℕ) (tails : List PathTail) (k : TreeItem-F Node TreeItem) (r : Reached)
    (names : List (List ℕ)) → GrownLayer tails k → FoundBy x tails r names
    → FoundBy x tails (named_before x k r) (name_before k names)
found_layer x tails (O.Entry name n) r names g h =
    elim (bytes_eq (string_bytes name) x) as
    (λ b. bytes_eq (string_bytes name) x ≡ b
    → ((m : Node) × (cond b (to_node n) r ≡ to_node m) × Grows (below_name x tails) m) ⊎
    ((cond b (to_node n) r ≡ to_nothing) × ((b || holds_name x names) ≡ false))) [
      | true ↦ λ e. inl (
        n,
        refl,
        subst (λ y. Grows (below_name y tails) n)
            ((bytes_eq-Decides (string_bytes name) x).0 e) g.1,
      )
      | false ↦ λ e. h
    ] refl
found_layer x tails O.Failed r names g h = absurd g
found_layer x tails O.NotText r names g h = absurd g

found_items : (x : List ℕ) (tails : List PathTail) (items : List TreeItem) → AreGrown tails items
    → FoundBy x tails (named_in x items) (names_of items)
found_items x tails [] g = inr (refl, refl)
found_items x tails (i ∷ items) g = found_layer x tails (out-TreeItem i) (named_in x items) (names_of items)
    g.0 (found_items x tails items g.1)

-- ---- a folder

stands_folder : (tails : List PathTail) (s : Shown) (l : Items) → list_any leads_on tails ≡ true
    → s ≡ a_folder l → listing l ≡ listing_by tails → StandsBy tails s
stands_folder [] s l leads e h = absurd (false≢true leads)
stands_folder (r ∷ tails) s l leads e h =
    let P : Bool → Type 0 = λ b. MatchBool b (HoldsBy (r ∷ tails) s) (s ≡ a_leaf false) in
    subst P (sym leads) (l, e, h)

below_stands : (tails : List PathTail) (x : List ℕ) (more : List (List ℕ))
    (items : List TreeItem) (q : Reached)
    → q ≡ named_in x items → names_of items ≡ names_by tails → AreGrown tails items
    → StandsBy (rests more (below_name x tails)) (shown_reached (onward (reached more) q))
below_stands tails x more items q led names g = elim (found_items x tails items g) [
  | inl f ↦ subst (λ r. StandsBy (rests more (below_name x tails)) (shown_reached (onward (reached more) r)))
      (sym (led ∙ f.1)) (f.2 more)
  | inr f ↦ stands_none (rests more (below_name x tails)) (shown_reached (onward (reached more) q))
      (ap (rests more) (absent x tails [] (ap (holds_name x) (sym names) ∙ f.1)) ∙ rests_none more)
      (ap (λ r. shown_reached (onward (reached more) r)) (led ∙ f.0))
]

pub folder_grows : (tails : List PathTail) (n : Node) (items : _) → n ≡ V.Folder items
    → list_any leads_on tails ≡ true → names_of items.items ≡ names_by tails
    → AreGrown tails items.items → Grows tails n
folder_grows tails n items is leads names g [] =
    stands_folder tails (shown_of n) (items_shown items.items) leads
    (shown_layer n ∙ ap layer_shown (ap out-Node is ∙ out_folder items))
    (listed_items tails items.items g ∙ ap (map (listed_by tails)) names)
folder_grows tails n items is leads names g (x ∷ more) =
    below_stands tails x more items.items (below_layer x (out-Node n))
    (ap (below_layer x) (ap out-Node is ∙ out_folder items)) names g

distinct_layer : (tails : List PathTail) (k : TreeItem-F Node TreeItem) (m : Node) → GrownLayer tails k
    → node_layer k ≡ Some m → HasDistinctNames m
distinct_layer tails (O.Entry name n) m g e =
    let f : Some n ≡ Some m = e in let same : n ≡ m = cc in subst HasDistinctNames same g.2
distinct_layer tails O.Failed m g e = absurd g
distinct_layer tails O.NotText m g e = absurd g

distinct_items : (tails : List PathTail) (items : List TreeItem) (place : ℕ) (m : Node) → AreGrown tails items
    → entry_node (slice_get items place) ≡ Some m → HasDistinctNames m
distinct_items tails [] place m g e =
    let lt = entry_within [] place m e in absurd (omega (arith, lt))
distinct_items tails (i ∷ items) zero m g e = distinct_layer tails (out-TreeItem i) m g.0 e
distinct_items tails (i ∷ items) (suc place) m g e = distinct_items tails items place m g.1 e

pub grown_distinct : (tails : List PathTail) (n : Node) (items : _) → n ≡ V.Folder items
    → are_distinct (names_of items.items) ≡ true → AreGrown tails items.items → HasDistinctNames n
grown_distinct tails n items is distinct g = folder_distinct n items.items (folder_held n items is) distinct
    (λ place m e. distinct_items tails items.items place m g e)

-- ---- a tree

pub planted_stands : (working root : Node) (path : List ℕ) (texts : List (List ℕ))
    → Grows (tails_from false texts) working → Grows (tails_from true texts) root
    → StandsBy (tails_to path texts) (shown_in working root path)
planted_stands working root path texts lower upper =
    elim (is_rooted path) as
    (λ b. StandsBy (rests (names_in_path path) (tails_from b texts))
    (shown_reached (reached (names_in_path path) (if b then root else working)))) [
      | true ↦ upper (names_in_path path)
      | false ↦ lower (names_in_path path)
    ]

pub tree_stands : (t : Tree) (working root : Node) (texts : List (List ℕ)) (path : List ℕ)
    → t.working ≡ working → t.root ≡ root → Grows (tails_from false texts) working
    → Grows (tails_from true texts) root → HasDistinctNames working → HasDistinctNames root
    → (s : Shown) × tree_shows t path s × StandsBy (tails_to path texts) s
tree_stands t working root texts path w r lower upper one two = (
  shown_in t.working t.root path,
  (subst HasDistinctNames (sym w) one, subst HasDistinctNames (sym r) two, refl),
  planted_stands t.working t.root path texts (subst (Grows (tails_from false texts)) (sym w) lower)
      (subst (Grows (tails_from true texts)) (sym r) upper),
)
