-- What is copied item by item is a copy.
use Rattle.std.proofs.Common.{◌≡◌, ℕ, ◌+◌, ◌<◌, ◌≤◌, zero, suc, true, false, cond, List, [], ◌∷◌, ◌++◌, take}
use Rattle.std.proofs.Common.{get_or, length, Option, Some, string_bytes, slice_get, refl, sym, ◌∙◌, ap}
use Rattle.std.proofs.{Common.{subst, rules}, lemmas.List.{take_more, take_all}}
use Rattle.std.specs.{Option.option_map, Str.bytes_eq}
use Rattle.wax_directory.specs.{declared.tree.Node.Node, declared.tree.TreeItem.TreeItem}
use Rattle.wax_directory.specs.declared.tree.Node.TheOpen.{TreeItem-F}
use Rattle.wax_directory.specs.declared.tree.Node.TheViews.{out-Node, out-TreeItem, the_lemmas}
use Rattle.wax_directory.specs.Shown.{Items, Shown, a_folder}
use Rattle.wax_directory.specs.Nodes.{with_entry, shown_of, items_shown, node_layer, entry_node, held_of}
use Rattle.wax_directory.specs.Nodes.{child_of, and_below, node_at, name_before, names_of, Reached, to_node}
use Rattle.wax_directory.specs.Nodes.{named_before, named_in, below_layer, onward, reached, shown_reached}
use Rattle.wax_directory.specs.inner.Reaching.{layer_shown, shown_layer, item_layer_shown, item_layer}
use Rattle.wax_directory.specs.Copies.{names_at, IsCopy}
use Rattle.wax_directory.proofs.Finding.{out_entry, out_folder, folder_held}
use Rattle.wax_directory.specs.declared.tree.TreeItem.TheVariants as T
use Rattle.wax_directory.specs.declared.tree.Node.TheOpen as O
use Rattle.wax_directory.specs.declared.tree.Node.TheViews as V

-- ---- item by item

abbrev pub SameLayer : TreeItem-F Node TreeItem → TreeItem-F Node TreeItem → Type 0
SameLayer (O.Entry name n) (O.Entry other m) = (string_bytes other ≡ string_bytes name) × IsCopy n m
SameLayer O.Failed O.Failed = Unit {0}
SameLayer O.NotText O.NotText = Unit {0}
SameLayer k l = ⊥

abbrev pub SameItems : List TreeItem → List TreeItem → Type 0
SameItems [] [] = Unit {0}
SameItems (i ∷ items) (j ∷ copies) = SameLayer (out-TreeItem i) (out-TreeItem j) × SameItems items copies
SameItems items copies = ⊥

same_push : (items copies : List TreeItem) (i j : TreeItem) → SameItems items copies
    → SameLayer (out-TreeItem i) (out-TreeItem j) → SameItems (items ++ i ∷ []) (copies ++ j ∷ [])
same_push [] [] i j s l = (l, tt)
same_push [] (d ∷ copies) i j s l = absurd s
same_push (c ∷ items) [] i j s l = absurd s
same_push (c ∷ items) (d ∷ copies) i j s l = (s.0, same_push items copies i j s.1 l)

pub same_step : (items copies more : List TreeItem) (k : ℕ) (i j : TreeItem) → k < length items
    → i ≡ get_or items k i → SameItems (take k items) copies → SameLayer (out-TreeItem i) (out-TreeItem j)
    → more ≡ copies ++ j ∷ [] → SameItems (take (k + 1) items) more
same_step items copies more k i j lt is s l e =
    let whole : take (k + 1) items ≡ take k items ++ i ∷ [] = take_more items k i lt ∙ ap
    (λ h. take k items ++ h ∷ []) (sym is) in
    subst (λ p. SameItems p more) (sym whole)
    (subst (SameItems (take k items ++ i ∷ [])) (sym e) (same_push (take k items) copies i j s l))

pub same_all : (items copies : List TreeItem) (k : ℕ) → length items ≤ k → SameItems (take k items) copies
    → SameItems items copies
same_all items copies k le s = subst (λ p. SameItems p copies) (take_all k items le) s

out_failed : out-TreeItem T.Failed ≡ O.Failed
out_failed = search (rules, the_lemmas)

out_not_text : out-TreeItem T.NotText ≡ O.NotText
out_not_text = search (rules, the_lemmas)

same_layers : (i j : TreeItem) (k l : TreeItem-F Node TreeItem) → out-TreeItem i ≡ k → out-TreeItem j ≡ l
    → SameLayer k l → SameLayer (out-TreeItem i) (out-TreeItem j)
same_layers i j k l e f s =
    subst (λ p. SameLayer p (out-TreeItem j)) (sym e) (subst (SameLayer k) (sym f) s)

pub same_entry : (i j : TreeItem) (name other : _) (n m : Node) → i ≡ T.Entry name n → j ≡ T.Entry other m
    → string_bytes other ≡ string_bytes name → IsCopy n m → SameLayer (out-TreeItem i) (out-TreeItem j)
same_entry i j name other n m e f s copy =
    same_layers i j (O.Entry name n) (O.Entry other m) (ap out-TreeItem e ∙ out_entry name n)
    (ap out-TreeItem f ∙ out_entry other m) (s, copy)

pub same_failed : (i j : TreeItem) → i ≡ T.Failed → j ≡ T.Failed
    → SameLayer (out-TreeItem i) (out-TreeItem j)
same_failed i j e f =
    same_layers i j O.Failed O.Failed (ap out-TreeItem e ∙ out_failed) (ap out-TreeItem f ∙ out_failed) tt

pub same_not_text : (i j : TreeItem) → i ≡ T.NotText → j ≡ T.NotText
    → SameLayer (out-TreeItem i) (out-TreeItem j)
same_not_text i j e f =
    same_layers i j O.NotText O.NotText (ap out-TreeItem e ∙ out_not_text) (ap out-TreeItem f ∙ out_not_text)
    tt

-- ---- what a folder of them shows

layer_names : (k l : TreeItem-F Node TreeItem) (names more : List (List ℕ)) → SameLayer k l → more ≡ names
    → name_before l more ≡ name_before k names
layer_names (O.Entry name n) (O.Entry other m) names more s e =
    ap (λ y. y ∷ more) s.0 ∙ ap (λ r. string_bytes name ∷ r) e
layer_names O.Failed O.Failed names more s e = e
layer_names O.NotText O.NotText names more s e = e
layer_names k l names more s e = absurd s

same_names : (items copies : List TreeItem) → SameItems items copies → names_of copies ≡ names_of items
same_names [] [] s = refl
same_names [] (j ∷ copies) s = absurd s
same_names (i ∷ items) [] s = absurd s
same_names (i ∷ items) (j ∷ copies) s = layer_names (out-TreeItem i) (out-TreeItem j) (names_of items)
    (names_of copies) s.0 (same_names items copies s.1)

layer_copied : (k l : TreeItem-F Node TreeItem) (rest more : Items) → SameLayer k l → more ≡ rest
    → item_layer_shown l more ≡ item_layer_shown k rest
layer_copied (O.Entry name n) (O.Entry other m) rest more s e =
    ap (λ y. with_entry y (shown_of m) more) s.0
    ∙ ap (λ v. with_entry (string_bytes name) v more) (s.1.shows [])
    ∙ ap (λ r. with_entry (string_bytes name) (shown_of n) r) e
layer_copied O.Failed O.Failed rest more s e = ap (item_layer_shown O.Failed) e
layer_copied O.NotText O.NotText rest more s e = ap (item_layer_shown O.NotText) e
layer_copied k l rest more s e = absurd s

same_shown : (items copies : List TreeItem) → SameItems items copies
    → items_shown copies ≡ items_shown items
same_shown [] [] s = refl
same_shown [] (j ∷ copies) s = absurd s
same_shown (i ∷ items) [] s = absurd s
same_shown (i ∷ items) (j ∷ copies) s =
    ap (λ (f : Items → Items). f (items_shown copies)) (item_layer j)
    ∙ layer_copied (out-TreeItem i) (out-TreeItem j) (items_shown items) (items_shown copies) s.0
    (same_shown items copies s.1)
    ∙ sym (ap (λ (f : Items → Items). f (items_shown items)) (item_layer i))

-- what is shown along more names
abbrev shown_on : List (List ℕ) → Reached → Shown
shown_on names r = shown_reached (onward (reached names) r)

layer_found : (x : List ℕ) (names : List (List ℕ)) (k l : TreeItem-F Node TreeItem) (r q : Reached)
    → SameLayer k l → shown_on names q ≡ shown_on names r
    → shown_on names (named_before x l q) ≡ shown_on names (named_before x k r)
layer_found x names (O.Entry name n) (O.Entry other m) r q s e =
    ap (λ y. shown_on names (cond (bytes_eq y x) (to_node m) q)) s.0
    ∙ elim (bytes_eq (string_bytes name) x) as
    (λ b. shown_on names (cond b (to_node m) q) ≡ shown_on names (cond b (to_node n) r))
    [ true ↦ s.1.shows names | false ↦ e ]
layer_found x names O.Failed O.Failed r q s e = e
layer_found x names O.NotText O.NotText r q s e = e
layer_found x names k l r q s e = absurd s

same_found : (x : List ℕ) (names : List (List ℕ)) (items copies : List TreeItem) → SameItems items copies
    → shown_on names (named_in x copies) ≡ shown_on names (named_in x items)
same_found x names [] [] s = refl
same_found x names [] (j ∷ copies) s = absurd s
same_found x names (i ∷ items) [] s = absurd s
same_found x names (i ∷ items) (j ∷ copies) s = layer_found x names (out-TreeItem i) (out-TreeItem j)
    (named_in x items) (named_in x copies) s.0 (same_found x names items copies s.1)

-- the names in the folder at more places
abbrev names_on : List ℕ → Option Node → Option (List (List ℕ))
names_on places o = option_map names_of (held_of (and_below (node_at places) o))

layer_placed : (places : List ℕ) (k l : TreeItem-F Node TreeItem) → SameLayer k l
    → names_on places (node_layer l) ≡ names_on places (node_layer k)
layer_placed places (O.Entry name n) (O.Entry other m) s = s.1.names places
layer_placed places O.Failed O.Failed s = refl
layer_placed places O.NotText O.NotText s = refl
layer_placed places k l s = absurd s

same_placed : (places : List ℕ) (place : ℕ) (items copies : List TreeItem) → SameItems items copies
    → names_on places (entry_node (slice_get copies place)) ≡ names_on places
    (entry_node (slice_get items place))
same_placed places place [] [] s = refl
same_placed places place [] (j ∷ copies) s = absurd s
same_placed places place (i ∷ items) [] s = absurd s
same_placed places zero (i ∷ items) (j ∷ copies) s =
    layer_placed places (out-TreeItem i) (out-TreeItem j) s.0
same_placed places (suc place) (i ∷ items) (j ∷ copies) s = same_placed places place items copies s.1

out_of : (n : Node) (items : _) → n ≡ V.Folder items → out-Node n ≡ O.Folder items
out_of n items e = ap out-Node e ∙ out_folder items

folder_shows : (n copy : Node) (items copies : _) → n ≡ V.Folder items → copy ≡ V.Folder copies
    → SameItems items.items copies.items → (names : List (List ℕ))
    → shown_reached (reached names copy) ≡ shown_reached (reached names n)
folder_shows n copy items copies e f s [] =
    shown_layer copy ∙ ap layer_shown (out_of copy copies f)
    ∙ ap a_folder (same_shown items.items copies.items s)
    ∙ sym (shown_layer n ∙ ap layer_shown (out_of n items e))
folder_shows n copy items copies e f s (x ∷ names) =
    ap (λ k. shown_on names (below_layer x k)) (out_of copy copies f)
    ∙ same_found x names items.items copies.items s
    ∙ sym (ap (λ k. shown_on names (below_layer x k)) (out_of n items e))

folder_names : (n copy : Node) (items copies : _) → n ≡ V.Folder items → copy ≡ V.Folder copies
    → SameItems items.items copies.items → (places : List ℕ) → names_at places copy ≡ names_at places n
folder_names n copy items copies e f s [] =
    ap (option_map names_of) (folder_held copy copies f)
    ∙ ap Some (same_names items.items copies.items s)
    ∙ sym (ap (option_map names_of) (folder_held n items e))
folder_names n copy items copies e f s (place ∷ places) =
    ap (λ h. names_on places (child_of h place)) (folder_held copy copies f)
    ∙ same_placed places place items.items copies.items s
    ∙ sym (ap (λ h. names_on places (child_of h place)) (folder_held n items e))

pub folder_copy : (n copy : Node) (items copies : _) → n ≡ V.Folder items → copy ≡ V.Folder copies
    → SameItems items.items copies.items → IsCopy n copy
folder_copy n copy items copies e f s = record {
  shows = folder_shows n copy items copies e f s;
  names = folder_names n copy items copies e f s;
}
