-- Where names lead in a tree, and what its nodes show.
use Rattle.std.proofs.Common.{◌≡◌, ◌+◌, ℕ, suc, true, false, cond, List, [], ◌∷◌, ◌++◌, Option, Some, None}
use Rattle.std.proofs.Common.{string_bytes, slice_get, refl, sym, ◌∙◌, ap, subst}
use Rattle.std.specs.Str.{bytes_eq}
use Rattle.wax_directory.specs.{declared.tree.Node.Node, declared.tree.TreeItem.TreeItem}
use Rattle.wax_directory.specs.declared.tree.Node.TheOpen.{Node-F, TreeItem-F}
use Rattle.wax_directory.specs.declared.tree.Node.TheViews.{out-Node, out-TreeItem, roll-Node, roll-TreeItem}
use Rattle.wax_directory.specs.declared.tree.Node.TheViews.{roll-out-Node, roll-out-TreeItem}
use Rattle.wax_directory.specs.declared.tree.Node.TheFolds.{fold-roll-Node, fold-roll-TreeItem}
use Rattle.wax_directory.specs.Shown.{Items, end, folder, unread, not_text, Shown, a_leaf, a_folder, a_sealed}
use Rattle.wax_directory.specs.Nodes.{with_entry, item_step, node_step, shown_of, item_shown, items_shown}
use Rattle.wax_directory.specs.Nodes.{node_layer, entry_node, held_layer, held, held_of, child_of, child_at}
use Rattle.wax_directory.specs.Nodes.{and_below, node_at, HasDistinctNames, Reached, to_node, to_nothing}
use Rattle.wax_directory.specs.Nodes.{to_sealed, named_before, named_in, below_layer, onward, reached}
use Rattle.wax_directory.specs.declared.tree.Node.TheOpen as O

-- ---- places

and_below_same : (f g h : Node → Option Node) → ((m : Node) → f m ≡ and_below g (h m)) → (o : Option Node)
    → and_below f o ≡ and_below g (and_below h o)
and_below_same f g h e None = refl
and_below_same f g h e (Some m) = e m

pub node_at-append : (places more : List ℕ) (n : Node) → node_at (places ++ more) n ≡ and_below (node_at more)
    (node_at places n)
node_at-append [] more n = refl
node_at-append (p ∷ places) more n = and_below_same (node_at (places ++ more)) (node_at more) (node_at places)
    (node_at-append places more) (child_at p n)

pub distinct_at : (places : List ℕ) (n m : Node) → node_at places n ≡ Some m → HasDistinctNames n
    → HasDistinctNames m
distinct_at places n m e d = λ more items h. d (places ++ more) items
    (ap held_of (node_at-append places more n ∙ ap (and_below (node_at more)) e) ∙ h)

pub distinct_child : (place : ℕ) (n m : Node) → child_at place n ≡ Some m → HasDistinctNames n
    → HasDistinctNames m
distinct_child place n m e = distinct_at (place ∷ []) n m (ap (and_below (node_at [])) e)

-- ---- where names lead

abbrev pub node_or : Node → Reached → Node
node_or d (to_node m) = m
node_or d to_nothing = d
node_or d to_sealed = d

to_node_same : (a b : Node) → to_node a ≡ to_node b → a ≡ b
to_node_same a b e = ap (node_or a) e

-- the node is that of an entry at some place
abbrev pub IsPlaced : List TreeItem → Node → Type 0
IsPlaced items m = (place : ℕ) × (entry_node (slice_get items place) ≡ Some m)

one_later : (i : TreeItem) (items : List TreeItem) (m : Node) → IsPlaced items m → IsPlaced (i ∷ items) m
one_later i items m p = (suc p.0, p.1)

placed_layer : (x : List ℕ) (i : TreeItem) (items : List TreeItem) (m : Node) (k : TreeItem-F Node TreeItem)
    → out-TreeItem i ≡ k → (named_in x items ≡ to_node m → IsPlaced items m)
    → named_before x k (named_in x items) ≡ to_node m → IsPlaced (i ∷ items) m
placed_layer x i items m (O.Entry name node) is later e = elim (bytes_eq (string_bytes name) x) as
    (λ b. cond b (to_node node) (named_in x items) ≡ to_node m → IsPlaced (i ∷ items) m) [
      | true ↦ λ h. (0, ap node_layer is ∙ ap Some (to_node_same node m h))
      | false ↦ λ h. one_later i items m (later h)
    ] e
placed_layer x i items m O.Failed is later e = one_later i items m (later e)
placed_layer x i items m O.NotText is later e = one_later i items m (later e)

named_placed : (x : List ℕ) (items : List TreeItem) (m : Node) → named_in x items ≡ to_node m
    → IsPlaced items m
named_placed x [] m e = absurd (cc)
named_placed x (i ∷ items) m e = placed_layer x i items m (out-TreeItem i) refl (named_placed x items m) e

below_child_layer : (x : List ℕ) (n m : Node) (k : Node-F Node TreeItem) → out-Node n ≡ k
    → below_layer x k ≡ to_node m → (place : ℕ) × (child_at place n ≡ Some m)
below_child_layer x n m (O.Folder items) is e =
    let p : IsPlaced items.items m = named_placed x items.items m e in
    (p.0, ap (λ k. child_of (held_layer k) p.0) is ∙ p.1)
below_child_layer x n m O.File is e = absurd (cc)
below_child_layer x n m O.Link is e = absurd (cc)
below_child_layer x n m O.Sealed is e = absurd (cc)

-- if names are distinct in a tree, they are distinct in each node below
distinct_onward : (x : List ℕ) (names : List (List ℕ)) (n m : Node) (r : Reached)
    → below_layer x (out-Node n) ≡ r → onward (reached names) r ≡ to_node m → HasDistinctNames n
    → ((k : Node) → reached names k ≡ to_node m → HasDistinctNames k → HasDistinctNames m)
    → HasDistinctNames m
distinct_onward x names n m (to_node k) is e d later =
    let c : (place : ℕ) × (child_at place n ≡ Some k) = below_child_layer x n k (out-Node n) refl is in
    later k e (distinct_child c.0 n k c.1 d)
distinct_onward x names n m to_nothing is e d later = absurd (cc)
distinct_onward x names n m to_sealed is e d later = absurd (cc)

pub distinct_reached : (names : List (List ℕ)) (n m : Node) → reached names n ≡ to_node m → HasDistinctNames n
    → HasDistinctNames m
distinct_reached [] n m e d = subst HasDistinctNames (to_node_same n m e) d
distinct_reached (x ∷ names) n m e d = distinct_onward x names n m (below_layer x (out-Node n)) refl e d
    (λ k h g. distinct_reached names k m h g)

onward_same : (f g h : Node → Reached) → ((n : Node) → f n ≡ onward g (h n)) → (r : Reached)
    → onward f r ≡ onward g (onward h r)
onward_same f g h e (to_node n) = e n
onward_same f g h e to_nothing = refl
onward_same f g h e to_sealed = refl

pub reached-append : (names more : List (List ℕ)) (n : Node)
    → reached (names ++ more) n ≡ onward (reached more) (reached names n)
reached-append [] more n = refl
reached-append (x ∷ names) more n = onward_same (reached (names ++ more)) (reached more) (reached names)
    (reached-append names more) (below_layer x (out-Node n))

-- ---- what a node shows

abbrev pub layer_shown : Node-F Node TreeItem → Shown
layer_shown O.File = a_leaf false
layer_shown O.Link = a_leaf true
layer_shown (O.Folder items) = a_folder (items_shown items.items)
layer_shown O.Sealed = a_sealed

roll_shown : (k : Node-F Node TreeItem) → shown_of (roll-Node k) ≡ layer_shown k
roll_shown O.File = fold-roll-Node Shown (Items → Items) node_step item_step O.File
roll_shown O.Link = fold-roll-Node Shown (Items → Items) node_step item_step O.Link
roll_shown (O.Folder items) = fold-roll-Node Shown (Items → Items) node_step item_step (O.Folder items)
roll_shown O.Sealed = fold-roll-Node Shown (Items → Items) node_step item_step O.Sealed

pub shown_layer : (n : Node) → shown_of n ≡ layer_shown (out-Node n)
shown_layer n = ap shown_of (sym (roll-out-Node n)) ∙ roll_shown (out-Node n)

abbrev pub item_layer_shown : TreeItem-F Node TreeItem → Items → Items
item_layer_shown (O.Entry name n) = with_entry (string_bytes name) (shown_of n)
item_layer_shown O.Failed = unread
item_layer_shown O.NotText = not_text

roll_item_shown : (k : TreeItem-F Node TreeItem) → item_shown (roll-TreeItem k) ≡ item_layer_shown k
roll_item_shown (O.Entry name n) = fold-roll-TreeItem Shown (Items → Items) node_step item_step
    (O.Entry name n)
roll_item_shown O.Failed = fold-roll-TreeItem Shown (Items → Items) node_step item_step O.Failed
roll_item_shown O.NotText = fold-roll-TreeItem Shown (Items → Items) node_step item_step O.NotText

pub item_layer : (i : TreeItem) → item_shown i ≡ item_layer_shown (out-TreeItem i)
item_layer i = ap item_shown (sym (roll-out-TreeItem i)) ∙ roll_item_shown (out-TreeItem i)

abbrev pub items_or : Items → Shown → Items
items_or d (a_folder l) = l
items_or d s = d

-- a node that shows a folder is a folder
pub folder_layer : (n : Node) (l : Items) (k : Node-F Node TreeItem) → out-Node n ≡ k
    → layer_shown k ≡ a_folder l → (items : List TreeItem) × (held n ≡ Some items) ×
    ((x : List ℕ) → below_layer x (out-Node n) ≡ named_in x items) × (items_shown items ≡ l)
folder_layer n l (O.Folder items) is e =
    (items.items, ap held_layer is, (λ x. ap (below_layer x) is), ap (items_or end) e)
folder_layer n l O.File is e = absurd (cc)
folder_layer n l O.Link is e = absurd (cc)
folder_layer n l O.Sealed is e = absurd (cc)
