-- A tree shows each entry of a folder at its path, and its names are distinct.
use Rattle.std.proofs.Common.{◌≡◌, ◌<◌, ◌+◌, arith, ℕ, zero, suc, Bool, true, false, not, cond, List, [], ◌∷◌}
use Rattle.std.proofs.Common.{Some, string_bytes, slice_get, if◌then◌else◌, refl, sym, ◌∙◌, ap, subst}
use Rattle.std.proofs.lemmas.Str.{IsUtf8-string_bytes}
use Rattle.std.proofs.lemmas.Bool.{and_parts, or_parts, not-true, cond-true, cond-false, false≢true}
use Rattle.std.proofs.lemmas.Slice.Eq.{bytes_eq-Decides}
use Rattle.std.specs.{List.list_any, Str.bytes_eq}
use Rattle.wax_directory.specs.{declared.tree.Tree.Tree, declared.tree.Node.Node}
use Rattle.wax_directory.specs.declared.tree.TreeItem.{TreeItem}
use Rattle.wax_directory.specs.declared.tree.Node.TheOpen.{Node-F, TreeItem-F}
use Rattle.wax_directory.specs.declared.tree.Node.TheViews.{out-Node, out-TreeItem}
use Rattle.wax_directory.specs.Shown.{Items, end, leaf, folder, sealed, misnamed, unread, not_text, Shown}
use Rattle.wax_directory.specs.Shown.{a_leaf, a_folder, a_sealed, missing, failing, IsPlain, join, ShowsIn}
use Rattle.wax_directory.specs.Shown.{child_in, child_shown, IsNew, AreDistinct, IsDistinct}
use Rattle.wax_directory.specs.Names.{is_plain, names_in_path, is_rooted, are_distinct}
use Rattle.wax_directory.specs.Nodes.{kind_of, with_plain, shown_of, items_shown, node_layer, entry_node}
use Rattle.wax_directory.specs.Nodes.{held_layer, held, child_of, name_before, names_of, HasDistinctNames}
use Rattle.wax_directory.specs.Nodes.{Reached, to_node, to_nothing, to_sealed, named_before, named_in}
use Rattle.wax_directory.specs.Nodes.{below_layer, onward, reached, shown_reached}
use Rattle.wax_directory.specs.Trees.{tree_shows, reached_in}
use Rattle.wax_directory.specs.inner.Reaching.{distinct_child, distinct_reached, folder_layer, item_layer}
use Rattle.wax_directory.specs.inner.Reaching.{item_layer_shown, items_or, layer_shown, reached-append}
use Rattle.wax_directory.specs.inner.Reaching.{shown_layer}
use Rattle.wax_directory.specs.PlainNames.{Plainly, names_join, not_plain, plain_of, plainly, rooted_join}
use Rattle.wax_directory.specs.declared.tree.Node.TheOpen as O

-- ---- each item of a folder whose names are distinct is found

abbrev pub FoundLayer : List TreeItem → TreeItem-F Node TreeItem → Type 0
FoundLayer all (O.Entry name n) = named_in (string_bytes name) all ≡ to_node n
FoundLayer all k = Unit {0}

abbrev pub AreFound : List TreeItem → List TreeItem → Type 0
AreFound all [] = Unit {0}
AreFound all (i ∷ items) = FoundLayer all (out-TreeItem i) × AreFound all items

-- no later name is that of this item
abbrev pub ApartLayer : TreeItem-F Node TreeItem → List (List ℕ) → Type 0
ApartLayer (O.Entry name n) names = list_any (bytes_eq (string_bytes name)) names ≡ false
ApartLayer k names = Unit {0}

apart_rest : (a k : TreeItem-F Node TreeItem) (names : List (List ℕ)) → ApartLayer a (name_before k names)
    → ApartLayer a names
apart_rest (O.Entry name n) (O.Entry other m) names h =
    (or_parts (bytes_eq (string_bytes name) (string_bytes other))
    (list_any (bytes_eq (string_bytes name)) names) h).1
apart_rest (O.Entry name n) O.Failed names h = h
apart_rest (O.Entry name n) O.NotText names h = h
apart_rest O.Failed k names h = tt
apart_rest O.NotText k names h = tt

found_step : (i : TreeItem) (items : List TreeItem) (a k : TreeItem-F Node TreeItem) (names : List (List ℕ))
    → out-TreeItem i ≡ a → ApartLayer a (name_before k names) → FoundLayer items k → FoundLayer (i ∷ items) k
found_step i items (O.Entry name n) (O.Entry other m) names is h f =
    ap (λ l. named_before (string_bytes other) l (named_in (string_bytes other) items)) is
    ∙ cond-false (bytes_eq (string_bytes name) (string_bytes other)) (to_node n)
    (named_in (string_bytes other) items)
    (or_parts (bytes_eq (string_bytes name) (string_bytes other))
    (list_any (bytes_eq (string_bytes name)) names) h).0
    ∙ f
found_step i items O.Failed (O.Entry other m) names is h f =
    ap (λ l. named_before (string_bytes other) l (named_in (string_bytes other) items)) is ∙ f
found_step i items O.NotText (O.Entry other m) names is h f =
    ap (λ l. named_before (string_bytes other) l (named_in (string_bytes other) items)) is ∙ f
found_step i items a O.Failed names is h f = tt
found_step i items a O.NotText names is h f = tt

found_later : (i : TreeItem) (items suffix : List TreeItem) (a : TreeItem-F Node TreeItem)
    → out-TreeItem i ≡ a → ApartLayer a (names_of suffix) → AreFound items suffix
    → AreFound (i ∷ items) suffix
found_later i items [] a is h f = tt
found_later i items (j ∷ suffix) a is h f = (
  found_step i items a (out-TreeItem j) (names_of suffix) is h f.0,
  found_later i items suffix a is
      (apart_rest a (out-TreeItem j) (names_of suffix) h) f.1,
)

found_head : (i : TreeItem) (items : List TreeItem) (a : TreeItem-F Node TreeItem) → out-TreeItem i ≡ a
    → FoundLayer (i ∷ items) a
found_head i items (O.Entry name n) is =
    ap (λ l. named_before (string_bytes name) l (named_in (string_bytes name) items)) is
    ∙ cond-true (bytes_eq (string_bytes name) (string_bytes name)) (to_node n)
    (named_in (string_bytes name) items)
    ((bytes_eq-Decides (string_bytes name) (string_bytes name)).1 refl)
found_head i items O.Failed is = tt
found_head i items O.NotText is = tt

distinct_parts : (a : TreeItem-F Node TreeItem) (names : List (List ℕ))
    → are_distinct (name_before a names) ≡ true → ApartLayer a names × (are_distinct names ≡ true)
distinct_parts (O.Entry name n) names h =
    let p : (not (list_any (bytes_eq (string_bytes name)) names) ≡ true) × (are_distinct names ≡ true) =
    and_parts (not (list_any (bytes_eq (string_bytes name)) names)) (are_distinct names) h in
    (not-true (list_any (bytes_eq (string_bytes name)) names) p.0, p.1)
distinct_parts O.Failed names h = (tt, h)
distinct_parts O.NotText names h = (tt, h)

found_all : (items : List TreeItem) → are_distinct (names_of items) ≡ true → AreFound items items
found_all [] h = tt
found_all (i ∷ items) h =
    let d : ApartLayer (out-TreeItem i) (names_of items) × (are_distinct (names_of items) ≡ true) =
    distinct_parts (out-TreeItem i) (names_of items) h in (
      found_head i items (out-TreeItem i) refl,
      found_later i items items (out-TreeItem i) refl d.0
          (found_all items d.1),
    )

-- ---- what a folder holds is shown at its path

module _ (shows : List ℕ → Shown → Type 0) (path : List ℕ) (all : List TreeItem)
    (below : (x : List ℕ) (n : Node) → named_in x all ≡ to_node n → IsPlain x
    → shows (join path x) (shown_of n)) where
  shows_plain : (x : List ℕ) (s : Shown) (rest : Items) → IsPlain x → shows (join path x) s
      → ShowsIn shows path rest → ShowsIn shows path (with_plain x s rest)
  shows_plain x (a_leaf link) rest p h later = (p, h, later)
  shows_plain x (a_folder l) rest p h later = (p, h, later)
  shows_plain x a_sealed rest p h later = (p, h, later)
  shows_plain x missing rest p h later = later
  shows_plain x failing rest p h later = later

  shows_layer : (k : TreeItem-F Node TreeItem) (rest : Items) → FoundLayer all k → ShowsIn shows path rest
      → ShowsIn shows path (item_layer_shown k rest)
  shows_layer (O.Entry name n) rest f later =
      let x : List ℕ = string_bytes name in
      elim (is_plain x) as (λ b. is_plain x ≡ b
      → ShowsIn shows path (cond b (with_plain x (shown_of n) rest)
      (misnamed x (kind_of (shown_of n)) rest))) [
        | true ↦ λ e. shows_plain x (shown_of n) rest (plain_of x (IsUtf8-string_bytes name) e)
            (below x n f (plain_of x (IsUtf8-string_bytes name) e)) later
        | false ↦ λ e. (not_plain x e, later)
      ] refl
  shows_layer O.Failed rest f later = later
  shows_layer O.NotText rest f later = later

  shows_items : (items : List TreeItem) → AreFound all items → ShowsIn shows path (items_shown items)
  shows_items [] f = tt
  shows_items (i ∷ items) f =
      let P : (Items → Items) → Type 0 = λ g. ShowsIn shows path (g (items_shown items)) in
      subst P (sym (item_layer i))
      (shows_layer (out-TreeItem i) (items_shown items) f.0 (shows_items items f.1))

same_start : (a b : Bool) (root working : Node) → a ≡ b → (if a then root else working) ≡
    (if b then root else working)
same_start a b root working e = ap (λ c. if c then root else working) e

-- a name in the folder that a path leads to
reached_join : (working root : Node) (path x : List ℕ) (m n : Node) (items : List TreeItem)
    → reached_in working root path ≡ to_node m
    → ((y : List ℕ) → below_layer y (out-Node m) ≡ named_in y items) → named_in x items ≡ to_node n
    → IsPlain x → reached_in working root (join path x) ≡ to_node n
reached_join working root path x m n items is below found p =
    let start : Node = if is_rooted path then root else working in
    let h : Plainly x = plainly x p in
    ap (reached (names_in_path (join path x)))
    (same_start (is_rooted (join path x)) (is_rooted path) root working (rooted_join path x h))
    ∙ ap (λ names. reached names start) (names_join path x h)
    ∙ reached-append (names_in_path path) (x ∷ []) start
    ∙ ap (onward (reached (x ∷ []))) is
    ∙ ap (onward (reached [])) (below x ∙ found)

inner_at : (d : Tree) (path : List ℕ) (l : Items) (r : Reached) → HasDistinctNames d.working
    → HasDistinctNames d.root → reached_in d.working d.root path ≡ r → shown_reached r ≡ a_folder l
    → ShowsIn (tree_shows d) path l
inner_at d path l to_nothing w o is e = absurd (cc)
inner_at d path l to_sealed w o is e = absurd (cc)
inner_at d path l (to_node m) w o is e =
    let f : (items : List TreeItem) × (held m ≡ Some items) ×
    ((x : List ℕ) → below_layer x (out-Node m) ≡ named_in x items) × (items_shown items ≡ l) =
    folder_layer m l (out-Node m) refl (sym (shown_layer m) ∙ e) in
    let start : HasDistinctNames (if is_rooted path then d.root else d.working) =
    elim (is_rooted path) as (λ b. HasDistinctNames (if b then d.root else d.working))
    [ true ↦ o | false ↦ w ] in
    let distinct : are_distinct (names_of f.0) ≡ true = distinct_reached (names_in_path path)
    (if is_rooted path then d.root else d.working) m is start [] f.0 f.1 in
    let below : (x : List ℕ) (n : Node) → named_in x f.0 ≡ to_node n → IsPlain x
    → tree_shows d (join path x) (shown_of n) =
    λ x n found p. (w, o, ap shown_reached (reached_join d.working d.root path x m n f.0 is f.2 found p))
    in
    let P : Items → Type 0 = λ k. ShowsIn (tree_shows d) path k in
    subst P f.3 (shows_items (tree_shows d) path f.0 below f.0 (found_all f.0 distinct))

pub tree_inner : (d : Tree) (path : List ℕ) (l : Items) → tree_shows d path (a_folder l)
    → ShowsIn (tree_shows d) path l
tree_inner d path l h = inner_at d path l (reached_in d.working d.root path) h.0 h.1 refl h.2

-- ---- what is under a name

-- something is there
abbrev pub IsThere : Shown → Type 0
IsThere missing = ⊥
IsThere failing = ⊥
IsThere s = Unit {0}

there_layer : (k : Node-F Node TreeItem) → IsThere (layer_shown k)
there_layer O.File = tt
there_layer O.Link = tt
there_layer (O.Folder items) = tt
there_layer O.Sealed = tt

there : (n : Node) → IsThere (shown_of n)
there n = subst IsThere (sym (shown_layer n)) (there_layer (out-Node n))

child_first : (x y : List ℕ) (s : Shown) (rest : Items) → IsThere s → child_in x (with_plain y s rest) ≡ cond
    (bytes_eq y x) s (child_in x rest)
child_first x y (a_leaf link) rest h = refl
child_first x y (a_folder l) rest h = refl
child_first x y a_sealed rest h = refl
child_first x y missing rest h = absurd h
child_first x y failing rest h = absurd h

pick : (x y : List ℕ) (n : Node) (later : Reached) (b : Bool) (rest : Items)
    → shown_reached later ≡ child_in x rest → shown_reached (cond b (to_node n) later) ≡ cond b (shown_of n)
    (child_in x rest)
pick x y n later true rest h = refl
pick x y n later false rest h = h

child_layer : (x : List ℕ) (k : TreeItem-F Node TreeItem) (later : Reached) (rest : Items) → IsPlain x
    → shown_reached later ≡ child_in x rest → shown_reached (named_before x k later) ≡ child_in x
    (item_layer_shown k rest)
child_layer x (O.Entry name n) later rest p h =
    let y : List ℕ = string_bytes name in
    elim (is_plain y) as (λ b. is_plain y ≡ b → shown_reached (cond (bytes_eq y x) (to_node n) later) ≡
    child_in x (cond b (with_plain y (shown_of n) rest) (misnamed y (kind_of (shown_of n)) rest))) [
      | true ↦ λ e. pick x y n later (bytes_eq y x) rest h ∙ sym (child_first x y (shown_of n) rest (there n))
      | false ↦ λ e. elim (bytes_eq y x) as
          (λ b. bytes_eq y x ≡ b → shown_reached (cond b (to_node n) later) ≡ child_in x rest) [
            | true ↦ λ f. absurd (not_plain y e (subst IsPlain (sym ((bytes_eq-Decides y x).0 f)) p))
            | false ↦ λ f. h
          ] refl
    ] refl
child_layer x O.Failed later rest p h = h
child_layer x O.NotText later rest p h = h

child_named : (x : List ℕ) (items : List TreeItem) → IsPlain x → shown_reached (named_in x items) ≡ child_in x
    (items_shown items)
child_named x [] p = refl
child_named x (i ∷ items) p =
    child_layer x (out-TreeItem i) (named_in x items) (items_shown items) p (child_named x items p) ∙ ap
    (λ g. child_in x (g (items_shown items))) (sym (item_layer i))

child_below : (x : List ℕ) (k : Node-F Node TreeItem) → IsPlain x
    → shown_reached (below_layer x k) ≡ child_shown x (layer_shown k)
child_below x O.File p = refl
child_below x O.Link p = refl
child_below x (O.Folder items) p = child_named x items.items p
child_below x O.Sealed p = refl

onward_none : (r : Reached) → onward (reached []) r ≡ r
onward_none (to_node n) = refl
onward_none to_nothing = refl
onward_none to_sealed = refl

child_reached : (x : List ℕ) (r : Reached) → IsPlain x
    → shown_reached (onward (reached (x ∷ [])) r) ≡ child_shown x (shown_reached r)
child_reached x (to_node n) p =
    (ap shown_reached (onward_none (below_layer x (out-Node n))) ∙ child_below x (out-Node n) p) ∙ ap
    (child_shown x) (sym (shown_layer n))
child_reached x to_nothing p = refl
child_reached x to_sealed p = refl

reached_on : (working root : Node) (path x : List ℕ) → IsPlain x
    → reached_in working root (join path x) ≡ onward (reached (x ∷ [])) (reached_in working root path)
reached_on working root path x p =
    let start : Node = if is_rooted path then root else working in
    let h : Plainly x = plainly x p in
    ap (reached (names_in_path (join path x)))
    (same_start (is_rooted (join path x)) (is_rooted path) root working (rooted_join path x h))
    ∙ ap (λ names. reached names start) (names_join path x h)
    ∙ reached-append (names_in_path path) (x ∷ []) start

pub tree_child : (d : Tree) (path x : List ℕ) (s : Shown) → tree_shows d path s → IsPlain x
    → tree_shows d (join path x) (child_shown x s)
tree_child d path x s h p = (
  h.0,
  h.1,
  (ap shown_reached (reached_on d.working d.root path x p) ∙ child_reached x
      (reached_in d.working d.root path) p) ∙ ap (child_shown x) h.2,
)

-- ---- the names in what is shown are distinct

new_first : (x y : List ℕ) (s : Shown) (rest : Items) → ¬ (y ≡ x) → IsNew x rest
    → IsNew x (with_plain y s rest)
new_first x y (a_leaf link) rest n h = (n, h)
new_first x y (a_folder l) rest n h = (n, h)
new_first x y a_sealed rest n h = (n, h)
new_first x y missing rest n h = h
new_first x y failing rest n h = h

new_layer : (x : List ℕ) (k : TreeItem-F Node TreeItem) (names : List (List ℕ)) (rest : Items)
    → list_any (bytes_eq x) (name_before k names) ≡ false → IsNew x rest → IsNew x (item_layer_shown k rest)
new_layer x (O.Entry name n) names rest h later =
    let y : List ℕ = string_bytes name in
    let differ : ¬ (y ≡ x) =
    λ e. false≢true (sym ((or_parts (bytes_eq x y) (list_any (bytes_eq x) names) h).0) ∙
    (bytes_eq-Decides x y).1 (sym e)) in
    elim (is_plain y) as (λ b. IsNew x
    (cond b (with_plain y (shown_of n) rest) (misnamed y (kind_of (shown_of n)) rest))) [
      | true ↦ new_first x y (shown_of n) rest differ later
      | false ↦ later
    ]
new_layer x O.Failed names rest h later = later
new_layer x O.NotText names rest h later = later

none_after : (x : List ℕ) (k : TreeItem-F Node TreeItem) (names : List (List ℕ))
    → list_any (bytes_eq x) (name_before k names) ≡ false → list_any (bytes_eq x) names ≡ false
none_after x (O.Entry name n) names h =
    (or_parts (bytes_eq x (string_bytes name)) (list_any (bytes_eq x) names) h).1
none_after x O.Failed names h = h
none_after x O.NotText names h = h

new_items : (x : List ℕ) (items : List TreeItem) → list_any (bytes_eq x) (names_of items) ≡ false
    → IsNew x (items_shown items)
new_items x [] h = tt
new_items x (i ∷ items) h =
    let P : (Items → Items) → Type 0 = λ g. IsNew x (g (items_shown items)) in
    subst P (sym (item_layer i))
    (new_layer x (out-TreeItem i) (names_of items) (items_shown items) h
    (new_items x items (none_after x (out-TreeItem i) (names_of items) h)))

-- the names below an entry are distinct
abbrev pub BelowItem : TreeItem-F Node TreeItem → Type 0
BelowItem (O.Entry name n) = HasDistinctNames n
BelowItem k = Unit {0}

abbrev pub AllBelow : List TreeItem → Type 0
AllBelow [] = Unit {0}
AllBelow (i ∷ items) = BelowItem (out-TreeItem i) × AllBelow items

first_below : (i : TreeItem) (k : TreeItem-F Node TreeItem) → out-TreeItem i ≡ k
    → ((m : Node) → node_layer (out-TreeItem i) ≡ Some m → HasDistinctNames m) → BelowItem k
first_below i (O.Entry name n) is f = f n (ap node_layer is)
first_below i O.Failed is f = tt
first_below i O.NotText is f = tt

all_below : (items : List TreeItem)
    → ((place : ℕ) (m : Node) → entry_node (slice_get items place) ≡ Some m → HasDistinctNames m)
    → AllBelow items
all_below [] f = tt
all_below (i ∷ items) f =
    (first_below i (out-TreeItem i) refl (λ m e. f 0 m e), all_below items (λ place m e. f (suc place) m e))

-- how many items there are in all
abbrev pub size : Items → ℕ
size end = 0
size (leaf x link rest) = 1 + size rest
size (folder x inner rest) = 1 + (size inner + size rest)
size (sealed x rest) = 1 + size rest
size (misnamed x kind rest) = 1 + size rest
size (unread rest) = 1 + size rest
size (not_text rest) = 1 + size rest

-- for folders of fewer than `most` items in all: if the names of a folder and below it are distinct, so are
-- those in what it shows
abbrev pub DistinctTo : ℕ → Type 0
DistinctTo most = (items : List TreeItem) → size (items_shown items) < most
    → are_distinct (names_of items) ≡ true → AllBelow items → AreDistinct (items_shown items)

folder_distinct : (most : ℕ) (n : Node) (k : Node-F Node TreeItem) → out-Node n ≡ k → DistinctTo most
    → HasDistinctNames n → ((l : Items) → layer_shown k ≡ a_folder l → size l < most)
    → IsDistinct (layer_shown k)
folder_distinct most n (O.Folder items) is go d few =
    go items.items (few (items_shown items.items) refl) (d [] items.items (ap held_layer is))
    (all_below items.items
    (λ place m e. distinct_child place n m (ap (λ k. child_of (held_layer k) place) is ∙ e) d))
folder_distinct most n O.File is go d few = tt
folder_distinct most n O.Link is go d few = tt
folder_distinct most n O.Sealed is go d few = tt

node_distinct : (most : ℕ) (n : Node) → DistinctTo most → HasDistinctNames n
    → ((l : Items) → shown_of n ≡ a_folder l → size l < most) → IsDistinct (shown_of n)
node_distinct most n go d few =
    subst IsDistinct (sym (shown_layer n))
    (folder_distinct most n (out-Node n) refl go d (λ l e. few l (shown_layer n ∙ e)))

first_distinct : (y : List ℕ) (s : Shown) (rest : Items) → IsNew y rest → IsDistinct s → AreDistinct rest
    → AreDistinct (with_plain y s rest)
first_distinct y (a_leaf link) rest n s d = (n, d)
first_distinct y (a_folder l) rest n s d = (n, s, d)
first_distinct y a_sealed rest n s d = (n, d)
first_distinct y missing rest n s d = d
first_distinct y failing rest n s d = d

size_first : (y : List ℕ) (s : Shown) (rest l : Items) (most : ℕ) → s ≡ a_folder l
    → size (with_plain y s rest) < suc most → size l < most
size_first y s rest l most e h =
    let P : Shown → Type 0 = λ v. size (with_plain y v rest) < suc most in
    let f : 1 + (size l + size rest) < suc most = subst P e h in omega (arith, f)

size_rest : (y : List ℕ) (s : Shown) (rest : Items) (most : ℕ) → IsThere s
    → size (with_plain y s rest) < suc most → size rest < most
size_rest y (a_leaf link) rest most t h = omega (arith, h)
size_rest y (a_folder l) rest most t h = omega (arith, h)
size_rest y a_sealed rest most t h = omega (arith, h)
size_rest y missing rest most t h = absurd t
size_rest y failing rest most t h = absurd t

layer_distinct : (most : ℕ) (k : TreeItem-F Node TreeItem) (items : List TreeItem) → DistinctTo most
    → ApartLayer k (names_of items) → BelowItem k → are_distinct (names_of items) ≡ true → AllBelow items
    → size (item_layer_shown k (items_shown items)) < suc most
    → AreDistinct (item_layer_shown k (items_shown items))
layer_distinct most (O.Entry name n) items go apart below d all h =
    let y : List ℕ = string_bytes name in
    let rest : Items = items_shown items in
    elim (is_plain y) as (λ b. size
    (cond b (with_plain y (shown_of n) rest) (misnamed y (kind_of (shown_of n)) rest)) < suc most
    → AreDistinct (cond b (with_plain y (shown_of n) rest) (misnamed y (kind_of (shown_of n)) rest))) [
      | true ↦ λ f. first_distinct y (shown_of n) rest (new_items y items apart)
          (node_distinct most n go below (λ l e. size_first y (shown_of n) rest l most e f))
          (go items (size_rest y (shown_of n) rest most (there n) f) d all)
      | false ↦ λ f. go items (omega (arith, f)) d all
    ] h
layer_distinct most O.Failed items go apart below d all h = go items (omega (arith, h)) d all
layer_distinct most O.NotText items go apart below d all h = go items (omega (arith, h)) d all

distinct_to : (most : ℕ) → DistinctTo most
distinct_to zero items h d all = absurd (omega (arith, h))
distinct_to (suc most) [] h d all = tt
distinct_to (suc most) (i ∷ items) h d all =
    let p : ApartLayer (out-TreeItem i) (names_of items) × (are_distinct (names_of items) ≡ true) =
    distinct_parts (out-TreeItem i) (names_of items) d in
    let P : (Items → Items) → Type 0 = λ g. size (g (items_shown items)) < suc most
    → AreDistinct (g (items_shown items)) in
    subst P (sym (item_layer i))
    (λ f. layer_distinct most (out-TreeItem i) items (distinct_to most) p.0 all.0 p.1 all.1 f) h

distinct_shown : (start : Node) (names : List (List ℕ)) (r : Reached) → reached names start ≡ r
    → HasDistinctNames start → IsDistinct (shown_reached r)
distinct_shown start names (to_node m) is d =
    node_distinct (suc (size (items_or end (shown_of m)))) m
    (distinct_to (suc (size (items_or end (shown_of m))))) (distinct_reached names start m is d)
    (λ l e. let f : size (items_or end (shown_of m)) ≡ size l = ap (λ v. size (items_or end v)) e in omega
    (arith, f))
distinct_shown start names to_nothing is d = tt
distinct_shown start names to_sealed is d = tt

pub tree_distinct : (d : Tree) (path : List ℕ) (s : Shown) → tree_shows d path s → IsDistinct s
tree_distinct d path s h =
    let start : HasDistinctNames (if is_rooted path then d.root else d.working) =
    elim (is_rooted path) as (λ b. HasDistinctNames (if b then d.root else d.working))
    [ true ↦ h.1 | false ↦ h.0 ] in
    subst IsDistinct h.2 (distinct_shown (if is_rooted path then d.root else d.working) (names_in_path path)
    (reached_in d.working d.root path) refl start)
