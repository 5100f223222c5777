-- The items that a cursor has, one by one.
use Rattle.std.proofs.Common.{◌≡◌, ℕ, ◌+◌, true, false, cond, List, [], ◌∷◌, zero, suc, drop, Option, Some}
use Rattle.std.proofs.Common.{None, string_bytes, slice_get, refl, sym, ◌∙◌, ap, subst}
use Rattle.std.proofs.{lemmas.List.drop_more, Math.Seq.drop-nil}
use Rattle.std.proofs.lemmas.Option.{slice_get_within, get_or_from_slice_get}
use Rattle.std.specs.Option.{option_map}
use Rattle.wax_directory.specs.{declared.tree.Node.Node, declared.tree.TreeItem.TreeItem}
use Rattle.wax_directory.specs.declared.tree.Node.TheOpen.{Node-F, TreeItem-F}
use Rattle.wax_directory.specs.declared.tree.Node.TheViews.{out-Node, out-TreeItem}
use Rattle.wax_directory.specs.Shown.{Items, end, misnamed, Shown, Listed, named, first_item, rest_of}
use Rattle.wax_directory.specs.Names.{is_plain}
use Rattle.wax_directory.specs.Nodes.{kind_of, with_plain, with_entry, shown_of, item_shown, items_shown}
use Rattle.wax_directory.specs.Nodes.{listed_layer, listed_item}
use Rattle.wax_directory.specs.inner.Reaching.{layer_shown, shown_layer, item_layer_shown, item_layer}
use Rattle.wax_directory.specs.declared.tree.Node.TheOpen as O

-- the first of some items, and those after it
abbrev pub Begins : Items → Listed → Items → Type 0
Begins l x rest = (first_item l ≡ Some x) × (rest_of l ≡ rest)

begins_plain : (name : List ℕ) (k : Node-F Node TreeItem) (rest : Items)
    → Begins (with_plain name (layer_shown k) rest) (named name (kind_of (layer_shown k))) rest
begins_plain name O.File rest = (refl, refl)
begins_plain name O.Link rest = (refl, refl)
begins_plain name (O.Folder items) rest = (refl, refl)
begins_plain name O.Sealed rest = (refl, refl)

begins_entry : (name : List ℕ) (n : Node) (rest : Items) → Begins (with_entry name (shown_of n) rest)
    (named name (kind_of (shown_of n))) rest
begins_entry name n rest =
    elim (is_plain name) as
    (λ b. Begins (cond b (with_plain name (shown_of n) rest) (misnamed name (kind_of (shown_of n)) rest))
    (named name (kind_of (shown_of n))) rest) [
      | true ↦ let P : Shown → Type 0 = λ s. Begins (with_plain name s rest) (named name (kind_of s)) rest
          in subst P (sym (shown_layer n)) (begins_plain name (out-Node n) rest)
      | false ↦ (refl, refl)
    ]

begins_layer : (k : TreeItem-F Node TreeItem) (rest : Items) → Begins (item_layer_shown k rest)
    (listed_layer k) rest
begins_layer (O.Entry name n) rest = begins_entry (string_bytes name) n rest
begins_layer O.Failed rest = (refl, refl)
begins_layer O.NotText rest = (refl, refl)

begins_item : (i : TreeItem) (rest : Items) → Begins (item_shown i rest) (listed_item i) rest
begins_item i rest = let P : (Items → Items) → Type 0 = λ f. Begins (f rest) (listed_item i) rest in subst P
    (sym (item_layer i)) (begins_layer (out-TreeItem i) rest)

begins_at : (items : List TreeItem) (k : ℕ) (i : TreeItem) → slice_get items k ≡ Some i
    → Begins (items_shown (drop k items)) (listed_item i) (items_shown (drop (k + 1) items))
begins_at items k i e =
    let s : drop k items ≡ i ∷ drop (k + 1) items = drop_more items k i (slice_get_within items k i e) ∙ ap
    (λ j. j ∷ drop (k + 1) items) (get_or_from_slice_get items k i i e) in
    let P : List TreeItem → Type 0 = λ l. Begins (items_shown l) (listed_item i)
    (items_shown (drop (k + 1) items)) in
    subst P (sym s) (begins_item i (items_shown (drop (k + 1) items)))

abbrev pub some_of : Listed → Option Listed → Listed
some_of d (Some x) = x
some_of d None = d

given_at : (items : List TreeItem) (k : ℕ) (x : Listed) (o : Option TreeItem) → slice_get items k ≡ o
    → Some x ≡ option_map listed_item o → Begins (items_shown (drop k items)) x
    (items_shown (drop (k + 1) items))
given_at items k x None e h = absurd (cc)
given_at items k x (Some i) e h = let P : Listed → Type 0 = λ y. Begins (items_shown (drop k items)) y
    (items_shown (drop (k + 1) items)) in subst P (sym (ap (some_of x) h)) (begins_at items k i e)

-- where an item is given, it is the first, and the others are left
pub given : (items : List TreeItem) (k : ℕ) (x : Listed) (l : Items) → l ≡ items_shown (drop k items)
    → Some x ≡ option_map listed_item (slice_get items k)
    → (Some x ≡ first_item l) × (rest_of l ≡ items_shown (drop (k + 1) items))
given items k x l is h =
    let b : Begins (items_shown (drop k items)) x (items_shown (drop (k + 1) items)) =
    given_at items k x (slice_get items k) refl h in
    (sym (ap first_item is ∙ b.0), ap rest_of is ∙ b.1)

ended_at : (items : List TreeItem) (k : ℕ) (o : Option TreeItem) → slice_get items k ≡ o
    → None ≡ option_map listed_item o → items_shown (drop k items) ≡ end
ended_at items k (Some i) e h = absurd (cc)
ended_at [] k None e h = ap items_shown (drop-nil k)
ended_at (i ∷ items) zero None e h = absurd (cc)
ended_at (i ∷ items) (suc k) None e h = ended_at items k None e h

-- where nothing is given, nothing is left
pub ended : (items : List TreeItem) (k : ℕ) (l : Items) → l ≡ items_shown (drop k items)
    → None ≡ option_map listed_item (slice_get items k)
    → (None ≡ first_item l) × (rest_of l ≡ items_shown (drop k items))
ended items k l is h =
    let e : items_shown (drop k items) ≡ end = ended_at items k (slice_get items k) refl h in
    (sym (ap first_item (is ∙ e)), ap rest_of (is ∙ e) ∙ sym e)

pub none_of : {A : Type 0} (o : Option A) → ((x : A) → o ≡ Some x → ⊥) → o ≡ None
none_of None h = refl
none_of (Some x) h = absurd (h x refl)
