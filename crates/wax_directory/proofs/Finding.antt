-- What a look-up finds among the items of a folder, and what a visit of all folders shows.
use Rattle.std.proofs.Common.{◌≡◌, ℕ, ◌+◌, ◌<◌, Bool, true, false, cond, List, [], ◌∷◌, ◌++◌, map, take, drop}
use Rattle.std.proofs.Common.{get_or, length, Option, Some, None, Bor, string_bytes, slice_get, ◌||◌}
use Rattle.std.proofs.Common.{below_more, refl, sym, ◌∙◌, ap, subst, append-nil, rules}
use Rattle.std.proofs.lemmas.Bool.{cond-true, false≢true, or_right, or_left}
use Rattle.std.proofs.lemmas.List.{drop_more, take_more, take-append-drop}
use Rattle.std.proofs.{lemmas.Option.{slice_get-get_or, slice_get_within}, lemmas.List.Folds.list_any-append}
use Rattle.std.proofs.lemmas.Slice.Eq.{bytes_eq-Decides}
use Rattle.std.specs.{List.list_any, Str.bytes_eq}
use Rattle.wax_directory.specs.{declared.tree.Node.Node, declared.tree.TreeItem.TreeItem}
use Rattle.wax_directory.specs.declared.tree.TreeItem.TheVariants.{Entry}
use Rattle.wax_directory.specs.declared.tree.Node.TheOpen.{Node-F, TreeItem-F}
use Rattle.wax_directory.specs.declared.tree.Node.TheViews.{out-Node, out-TreeItem, roll-Node, roll-TreeItem}
use Rattle.wax_directory.specs.declared.tree.Node.TheViews.{roll-out-Node, roll-out-TreeItem, the_lemmas}
use Rattle.wax_directory.specs.Names.{are_distinct}
use Rattle.wax_directory.specs.Nodes.{node_layer, entry_node, held_layer, held, held_of, child_of, child_at}
use Rattle.wax_directory.specs.Nodes.{and_below, node_at, name_before, names_of, HasDistinctNames}
use Rattle.wax_directory.specs.Nodes.{HasDuplicateName, Reached, to_node, named_before, named_in, below_layer}
use Rattle.wax_directory.specs.{Nodes.{onward, reached}, inner.Places.{layer_has_name, has_name, to_reached}}
use Rattle.wax_directory.specs.inner.Reaching.{node_at-append}
use Rattle.wax_directory.proofs.PathNames.{bytes_eq-swap, distinct_twice}
use Rattle.wax_directory.specs.declared.tree.Node.TheOpen as O
use Rattle.wax_directory.specs.declared.tree.Node.TheViews as V

pub out_entry : (name : _) (n : Node) → out-TreeItem (Entry name n) ≡ O.Entry name n
out_entry name n = search (rules, the_lemmas)

pub out_folder : (items : _) → out-Node (V.Folder items) ≡ O.Folder items
out_folder items = search (rules, the_lemmas)

-- ---- a name among items

here_layer : (x : List ℕ) (later : Reached) (k : TreeItem-F Node TreeItem) → layer_has_name x k ≡ true
    → named_before x k later ≡ to_reached (node_layer k)
here_layer x later (O.Entry name n) h = cond-true (bytes_eq (string_bytes name) x) (to_node n) later h
here_layer x later O.Failed h = absurd (false≢true h)
here_layer x later O.NotText h = absurd (false≢true h)

pub named_here : (x : List ℕ) (items : List TreeItem) (k : ℕ) (i : TreeItem) → k < length items
    → i ≡ get_or items k i → named_in x (drop k items) ≡ named_in x items → has_name x i ≡ true
    → named_in x items ≡ to_reached (entry_node (slice_get items k))
named_here x items k i lt is same h =
    let found : slice_get items k ≡ Some i = slice_get-get_or items k i lt ∙ ap Some (sym is) in
    let begins : drop k items ≡ i ∷ drop (k + 1) items = drop_more items k i lt ∙ ap
    (λ j. j ∷ drop (k + 1) items) (sym is) in
    sym same ∙ ap (named_in x) begins ∙ here_layer x (named_in x (drop (k + 1) items)) (out-TreeItem i) h ∙ ap
    (λ o. to_reached (entry_node o)) (sym found)

-- ---- a step of a look-up

pub step_reached : (names : List (Bor (List ℕ))) (k : ℕ) (d : Bor (List ℕ)) (n m : Node) (place : ℕ)
    (r : Reached) → k < length names → reached (map (λ x. x.now) (drop k names)) n ≡ r
    → below_layer (get_or names k d).now (out-Node n) ≡ to_reached (child_at place n)
    → Some m ≡ child_at place n → reached (map (λ x. x.now) (drop (k + 1) names)) m ≡ r
step_reached names k d n m place r lt is step child =
    let P : List (Bor (List ℕ)) → Type 0 = λ l. reached (map (λ x. x.now) l) n ≡ r in
    let whole : reached (map (λ x. x.now) (get_or names k d ∷ drop (k + 1) names)) n ≡ r =
    subst P (drop_more names k d lt) is in
    sym (ap (onward (reached (map (λ x. x.now) (drop (k + 1) names)))) (step ∙ ap to_reached (sym child))) ∙
    whole

pub step_placed : (places more : List ℕ) (n k m : Node) (place : ℕ) → more ≡ places ++ place ∷ []
    → node_at places n ≡ Some k → Some m ≡ child_at place k → node_at more n ≡ Some m
step_placed places more n k m place is e child =
    ap (λ l. node_at l n) is ∙ node_at-append places (place ∷ []) n ∙ ap (and_below (node_at (place ∷ []))) e
    ∙ ap (and_below (node_at [])) (sym child)

-- ---- the names of items

before_append : (k : TreeItem-F Node TreeItem) (one two : List (List ℕ))
    → name_before k (one ++ two) ≡ name_before k one ++ two
before_append (O.Entry name n) one two = refl
before_append O.Failed one two = refl
before_append O.NotText one two = refl

pub names_of-append : (one two : List TreeItem) → names_of (one ++ two) ≡ names_of one ++ names_of two
names_of-append [] two = refl
names_of-append (i ∷ one) two = ap (name_before (out-TreeItem i)) (names_of-append one two) ∙ before_append
    (out-TreeItem i) (names_of one) (names_of two)

names_more : (items : List TreeItem) (k : ℕ) (i : TreeItem) → k < length items → i ≡ get_or items k i
    → names_of (take (k + 1) items) ≡ names_of (take k items) ++ name_before (out-TreeItem i) []
names_more items k i lt is =
    ap names_of (take_more items k i lt ∙ ap (λ j. take k items ++ j ∷ []) (sym is)) ∙ names_of-append
    (take k items) (i ∷ [])

pub names_entry : (items : List TreeItem) (k : ℕ) (i : TreeItem) (name : _) (n : Node) → k < length items
    → i ≡ get_or items k i → i ≡ Entry name n → names_of (take (k + 1) items) ≡ names_of (take k items) ++
    string_bytes name ∷ []
names_entry items k i name n lt is e = names_more items k i lt is ∙ ap
    (λ l. names_of (take k items) ++ name_before l []) (ap out-TreeItem e ∙ out_entry name n)

-- a name that was seen before occurs twice, so the names aren't distinct
pub seen_twice : (items : List TreeItem) (k : ℕ) (i : TreeItem) (name : _) (n : Node) → k < length items
    → i ≡ get_or items k i → i ≡ Entry name n → list_any (bytes_eq (string_bytes name))
    (names_of (take k items)) ≡ true → are_distinct (names_of items) ≡ false
seen_twice items k i name n lt is e h =
    let begins : drop k items ≡ i ∷ drop (k + 1) items = drop_more items k i lt ∙ ap
    (λ j. j ∷ drop (k + 1) items) (sym is) in
    let whole : names_of items ≡ names_of (take k items) ++ string_bytes name ∷ names_of
    (drop (k + 1) items) =
    ap names_of (sym (take-append-drop k items)) ∙ names_of-append (take k items) (drop k items)
    ∙ ap (λ l. names_of (take k items) ++ names_of l) begins
    ∙ ap (λ l. names_of (take k items) ++ name_before l (names_of (drop (k + 1) items)))
    (ap out-TreeItem e ∙ out_entry name n) in
    ap are_distinct whole ∙ distinct_twice (names_of (take k items)) (string_bytes name)
    (names_of (drop (k + 1) items)) h

-- ---- every folder

pub leaf_distinct : (n : Node) → held n ≡ None → HasDistinctNames n
leaf_distinct n e [] items h = absurd (let f : Some items ≡ None = sym h ∙ e in cc)
leaf_distinct n e (place ∷ places) items h =
    let none : held_of (and_below (node_at places) (child_of (held n) place)) ≡ None =
    ap (λ o. held_of (and_below (node_at places) (child_of o place))) e in
    absurd (let f : Some items ≡ None = sym h ∙ none in cc)

abbrev pub some_items : List TreeItem → Option (List TreeItem) → List TreeItem
some_items d (Some l) = l
some_items d None = d

below_distinct : (items all : List TreeItem) (places : List ℕ) (o : Option Node)
    → ((n : Node) → o ≡ Some n → HasDistinctNames n) → held_of (and_below (node_at places) o) ≡ Some items
    → are_distinct (names_of items) ≡ true
below_distinct items all places None d h = absurd (cc)
below_distinct items all places (Some n) d h = d n refl places items h

pub folder_distinct : (n : Node) (all : List TreeItem) → held n ≡ Some all
    → are_distinct (names_of all) ≡ true
    → ((place : ℕ) (m : Node) → entry_node (slice_get all place) ≡ Some m → HasDistinctNames m)
    → HasDistinctNames n
folder_distinct n all e own d [] items h = let same : all ≡ items = ap (some_items all) (sym e ∙ h) in subst
    (λ l. are_distinct (names_of l) ≡ true) same own
folder_distinct n all e own d (place ∷ places) items h =
    let child : child_at place n ≡ entry_node (slice_get all place) = ap (λ o. child_of o place) e in
    below_distinct items all places (entry_node (slice_get all place)) (d place)
    (ap (λ o. held_of (and_below (node_at places) o)) (sym child) ∙ h)

pub own_duplicate : (n : Node) (all : List TreeItem) → held n ≡ Some all → are_distinct (names_of all) ≡ false
    → HasDuplicateName n
own_duplicate n all e h = ([], all, e, h)

pub below_duplicate : (n m : Node) (all : List TreeItem) (place : ℕ) → held n ≡ Some all
    → entry_node (slice_get all place) ≡ Some m → HasDuplicateName m → HasDuplicateName n
below_duplicate n m all place e is d =
    let child : child_at place n ≡ Some m = ap (λ o. child_of o place) e ∙ is in
    (place ∷ d.0, d.1, ap (λ o. held_of (and_below (node_at d.0) o)) child ∙ d.2, d.3)

pub entry_at : (items : List TreeItem) (k : ℕ) (i : TreeItem) (name : _) (n : Node) → k < length items
    → i ≡ get_or items k i → i ≡ Entry name n → entry_node (slice_get items k) ≡ Some n
entry_at items k i name n lt is e = ap entry_node (slice_get-get_or items k i lt ∙ ap Some (sym is)) ∙ ap
    node_layer (ap out-TreeItem e ∙ out_entry name n)

pub folder_held : (n : Node) (items : _) → n ≡ V.Folder items → held n ≡ Some items.items
folder_held n items e = ap held_layer (ap out-Node e ∙ out_folder items)

-- ---- what isn't an entry, and what isn't a folder

entry_again : (i : TreeItem) (name : _) (n : Node) → out-TreeItem i ≡ O.Entry name n → i ≡ Entry name n
entry_again i name n is = sym (roll-out-TreeItem i) ∙ ap roll-TreeItem (is ∙ sym (out_entry name n)) ∙
    roll-out-TreeItem (Entry name n)

folder_again : (n : Node) (items : _) → out-Node n ≡ O.Folder items → n ≡ V.Folder items
folder_again n items is = sym (roll-out-Node n) ∙ ap roll-Node (is ∙ sym (out_folder items)) ∙ roll-out-Node
    (V.Folder items)

no_name_layer : (i : TreeItem) (k : TreeItem-F Node TreeItem) → out-TreeItem i ≡ k
    → ((name : _) (n : Node) → i ≡ Entry name n → ⊥) → (names : List (List ℕ)) → name_before k names ≡ names
no_name_layer i (O.Entry name n) is h names = absurd (h name n (entry_again i name n is))
no_name_layer i O.Failed is h names = refl
no_name_layer i O.NotText is h names = refl

no_entry_layer : (i : TreeItem) (k : TreeItem-F Node TreeItem) → out-TreeItem i ≡ k
    → ((name : _) (n : Node) → i ≡ Entry name n → ⊥) → node_layer k ≡ None
no_entry_layer i (O.Entry name n) is h = absurd (h name n (entry_again i name n is))
no_entry_layer i O.Failed is h = refl
no_entry_layer i O.NotText is h = refl

no_items_layer : (n : Node) (k : Node-F Node TreeItem) → out-Node n ≡ k
    → ((items : _) → n ≡ V.Folder items → ⊥) → held_layer k ≡ None
no_items_layer n (O.Folder items) is h = absurd (h items (folder_again n items is))
no_items_layer n O.File is h = refl
no_items_layer n O.Link is h = refl
no_items_layer n O.Sealed is h = refl

pub other_distinct : (n : Node) → ((items : _) → n ≡ V.Folder items → ⊥) → HasDistinctNames n
other_distinct n h = leaf_distinct n (no_items_layer n (out-Node n) refl h)

pub names_other : (items : List TreeItem) (k : ℕ) (i : TreeItem) → k < length items → i ≡ get_or items k i
    → ((name : _) (n : Node) → i ≡ Entry name n → ⊥) → names_of (take (k + 1) items) ≡ names_of (take k items)
names_other items k i lt is h = names_more items k i lt is ∙ ap (λ l. names_of (take k items) ++ l)
    (no_name_layer i (out-TreeItem i) refl h []) ∙ append-nil (names_of (take k items))

pub no_entry_at : (items : List TreeItem) (k : ℕ) (i : TreeItem) → k < length items → i ≡ get_or items k i
    → ((name : _) (n : Node) → i ≡ Entry name n → ⊥) → entry_node (slice_get items k) ≡ None
no_entry_at items k i lt is h = ap entry_node (slice_get-get_or items k i lt ∙ ap Some (sym is)) ∙
    no_entry_layer i (out-TreeItem i) refl h

within_at : (items : List TreeItem) (k : ℕ) (m : Node) (o : Option TreeItem) → slice_get items k ≡ o
    → entry_node o ≡ Some m → k < length items
within_at items k m None e h = absurd (cc)
within_at items k m (Some i) e h = slice_get_within items k i e

pub entry_within : (items : List TreeItem) (k : ℕ) (m : Node) → entry_node (slice_get items k) ≡ Some m
    → k < length items
entry_within items k m h = within_at items k m (slice_get items k) refl h

pub one_more : (P : ℕ → Type 0) (k : ℕ) → ((p : ℕ) → p < k → P p) → P k → (p : ℕ) → p < k + 1 → P p
one_more P k before here = below_more _ _ before here

pub same_entry : (o : Option Node) (a b : Node) → o ≡ Some a → o ≡ Some b → a ≡ b
same_entry o a b e h = let f : Some a ≡ Some b = sym e ∙ h in cc

pub not_both : (o : Option Node) (a : Node) → o ≡ None → o ≡ Some a → ⊥
not_both o a e h = absurd (let f : None ≡ Some a = sym e ∙ h in cc)

-- ---- the names that were seen

or_no : (a b : Bool) → b ≡ false → (a || (b || false)) ≡ a
or_no true b h = refl
or_no false b h = ap (λ c. c || false) h

pub seen_more : (names more : List (List ℕ)) (x q : List ℕ) (had has : Bool) → more ≡ names ++ x ∷ []
    → had ≡ list_any (bytes_eq q) names → has ≡ cond (bytes_eq x q) true had
    → has ≡ list_any (bytes_eq q) more
seen_more names more x q had has is before step =
    let whole : list_any (bytes_eq q) more ≡ (list_any (bytes_eq q) names || (bytes_eq q x || false)) =
    ap (list_any (bytes_eq q)) is ∙ list_any-append (bytes_eq q) names (x ∷ []) in
    elim (bytes_eq x q)
    as (λ b. bytes_eq x q ≡ b → has ≡ cond b true had → has ≡ list_any (bytes_eq q) more) [
      | true ↦ λ e s. s ∙ sym
          (whole ∙ or_right (list_any (bytes_eq q) names) (bytes_eq q x || false)
          (or_left (bytes_eq q x) false ((bytes_eq-Decides q x).1 (sym ((bytes_eq-Decides x q).0 e)))))
      | false ↦ λ e s. s ∙ before ∙ sym
          (whole ∙ or_no (list_any (bytes_eq q) names) (bytes_eq q x) (bytes_eq-swap x q e))
    ] refl step
