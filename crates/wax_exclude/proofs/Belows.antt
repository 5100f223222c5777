-- The items of a walk, by the names of their candidates.
use Rattle.std.proofs.Common.{◌≡◌, ◌<◌, ◌≤◌, ℕ, zero, suc, ◌&&◌, Bool, true, List, [], ◌∷◌, ◌++◌, length}
use Rattle.std.proofs.Common.{take, drop, refl, sym, ap, ◌∙◌, subst, inl, inr, append_assoc, append-nil}
use Rattle.std.proofs.{Common.arith, lemmas.Bool.{and_parts, or_cases, false≢true, ltb-true}}
use Rattle.std.proofs.lemmas.List.{length-append, take-append-le, take-append-drop}
use Rattle.std.proofs.lemmas.List.Elements.{Contains-append_right}
use Rattle.std.specs.{Prelude.⊤, List.list_all}
use Rattle.wax_directory.specs.{Names.names_in_path, PlainNames.{names_join, plainly}}
use Rattle.wax_directory.specs.declared.directory.FileType.{FileType}
use Rattle.wax_directory.specs.declared.directory.FileType.TheVariants.{Folder}
use Rattle.wax_directory.specs.Shown.{Items, end, leaf, folder, sealed, misnamed, unread, not_text, Shown}
use Rattle.wax_directory.specs.Shown.{IsPlain, a_leaf, a_folder, a_sealed, missing, failing, join, leaf_kind}
use Rattle.wax_walk.specs.Given.{Facts, Mark, Given, entry, fault, no_memory, cut_by}
use Rattle.wax_walk.specs.declared.error.FaultKind.TheVariants.{Listing}
use Rattle.wax_walk.specs.Left.{are_below, is_cancelled, is_deeper}
use Rattle.wax_exclude.specs.{NamesBelow.IsBelowCut, Premises.{ArePlainItems, IsPlainShown}}
use Rattle.wax_tree.specs.Plain.{Location, start_location, item_location, one_deeper, plain_entry}
use Rattle.wax_tree.specs.Whole.{whole, whole_items}

abbrev pub names_of : Facts → List (List ℕ)
names_of f = names_in_path f.candidate

-- all but the last of the names are the first ones of others
abbrev Continues : List (List ℕ) → List (List ℕ) → Type 0
Continues last names = (k : ℕ) → k < length names → take k names ≡ take k last

-- each entry continues the names of the one before it; the first one, these names
abbrev Follows : List (List ℕ) → List Given → Type 0
Follows last [] = ⊤
Follows last (entry m f ∷ xs) =
    Continues last (names_of f) × (length (names_of f) ≡ f.depth) × Follows (names_of f) xs
Follows last (fault kind path depth ∷ xs) = Follows last xs
Follows last (no_memory ∷ xs) = Follows last xs

-- the names begin with these
abbrev Extends : List (List ℕ) → List (List ℕ) → Type 0
Extends last names = (k : ℕ) → k ≤ length names → take k names ≡ take k last

-- the location of the items in a folder with these names
pub record IsAt (at : Location) (names : List (List ℕ)) : Type 0 where
  pub has : names_in_path at.candidate ≡ names
  pub depth : at.depth ≡ suc (length names)

one_longer : (names : List (List ℕ)) (x : List ℕ) → length (names ++ x ∷ []) ≡ suc (length names)
one_longer names x = omega (arith, length-append names (x ∷ []))

pub item_names : (at : Location) (names : List (List ℕ)) (x : List ℕ) → IsAt at names → IsPlain x
    → names_in_path (join at.candidate x) ≡ names ++ x ∷ []
item_names at names x here plain =
    names_join at.candidate x (plainly x plain) ∙ ap (λ ns. ns ++ x ∷ []) here.has

pub below_at : (at : Location) (names : List (List ℕ)) (x : List ℕ) → IsAt at names → IsPlain x
    → IsAt (one_deeper (item_location at x)) (names ++ x ∷ [])
below_at at names x here plain = record {
  has = item_names at names x here plain;
  depth = omega (arith, here.depth, one_longer names x);
}

extends_itself : (names : List (List ℕ)) (x : List ℕ) → Extends (names ++ x ∷ []) names
extends_itself names x k within = sym (take-append-le k names (x ∷ []) within)

extends_above : (last names : List (List ℕ)) (x : List ℕ) → Extends last (names ++ x ∷ [])
    → Extends last names
extends_above last names x e k within =
    sym (take-append-le k names (x ∷ []) within) ∙ e k (omega (arith, within, one_longer names x))

entry_follows : (at : Location) (names : List (List ℕ)) (x : List ℕ) (kind : FileType)
    (last : List (List ℕ)) (xs : List Given) → IsAt at names → IsPlain x → Extends last names
    → Follows (names ++ x ∷ []) xs → Follows last (plain_entry (item_location at x) kind ∷ xs)
entry_follows at names x kind last xs here plain extends rest =
    let is : names_in_path (join at.candidate x) ≡ names ++ x ∷ [] = item_names at names x here plain in
    let continues : Continues last (names ++ x ∷ []) = λ k within. (
    let few : k ≤ length names = omega (arith, within, one_longer names x) in
    take-append-le k names (x ∷ []) few ∙ extends k few) in (
      subst (Continues last) (sym is) continues,
      ap length is ∙ one_longer names x ∙ sym here.depth,
      subst (λ ns. Follows ns xs) (sym is) rest,
    )

items_follow : (at : Location) (l : Items) (names last : List (List ℕ)) (ys : List Given) → IsAt at names
    → Extends last names → ArePlainItems l
    → ((later : List (List ℕ)) → Extends later names → Follows later ys)
    → Follows last (whole_items at l ++ ys)
items_follow at end names last ys here extends plain rest = rest last extends
items_follow at (leaf x link l) names last ys here extends plain rest =
    entry_follows at names x (leaf_kind link) last (whole_items at l ++ ys) here plain.0 extends
    (items_follow at l names (names ++ x ∷ []) ys here (extends_itself names x) plain.1 rest)
items_follow at (folder x inner l) names last ys here extends plain rest =
    let deep : List Given = whole_items (one_deeper (item_location at x)) inner in
    let more : List Given = whole_items at l in
    entry_follows at names x Folder last ((deep ++ more) ++ ys) here plain.0 extends
    (subst (Follows (names ++ x ∷ [])) (sym (append_assoc deep more ys))
    (items_follow (one_deeper (item_location at x)) inner (names ++ x ∷ []) (names ++ x ∷ []) (more ++ ys)
    (below_at at names x here plain.0) (λ k within. refl) plain.1
    (λ later e. items_follow at l names later ys here (extends_above later names x e) plain.2 rest)))
items_follow at (sealed x l) names last ys here extends plain rest =
    entry_follows at names x Folder last
    (fault Listing (join at.path x) at.depth ∷ (whole_items at l ++ ys)) here plain.0 extends
    (items_follow at l names (names ++ x ∷ []) ys here (extends_itself names x) plain.1 rest)
items_follow at (misnamed x kind l) names last ys here extends plain rest =
    items_follow at l names last ys here extends plain rest
items_follow at (unread l) names last ys here extends plain rest =
    items_follow at l names last ys here extends plain rest
items_follow at (not_text l) names last ys here extends plain rest =
    items_follow at l names last ys here extends plain rest

no_names : Continues [] []
no_names k within = absurd (omega (arith, within))

walk_follows : (start : List ℕ) (s : Shown) → IsPlainShown s → Follows [] (whole start s)
walk_follows start (a_leaf link) plain = (no_names, refl, tt)
walk_follows start (a_folder l) plain = (
  no_names,
  refl,
  subst (Follows []) (append-nil (whole_items (one_deeper (start_location start)) l))
      (items_follow (one_deeper (start_location start)) l [] [] []
      (record { has = refl; depth = refl }) (λ k within. refl) plain (λ later e. tt)),
)
walk_follows start a_sealed plain = (no_names, refl, tt)
walk_follows start missing plain = tt
walk_follows start failing plain = tt

-- what is deeper than a folder, with all between, has its names
deeper_names : (d : ℕ) (names last : List (List ℕ)) (between after : List Given) (m : Mark) (f : Facts)
    → take d last ≡ names → Follows last (between ++ entry m f ∷ after)
    → list_all (is_deeper d) (between ++ entry m f ∷ []) ≡ true
    → (take d (names_of f) ≡ names) × (d < length (names_of f))
deeper_names d names last [] after m f is h e =
    let deep : d < length (names_of f) =
    omega (arith, ltb-true d f.depth (and_parts (is_deeper d (entry m f)) true e).0, h.1) in
    (h.0 d deep ∙ is, deep)
deeper_names d names last (entry n g ∷ between) after m f is h e =
    let parts = and_parts (is_deeper d (entry n g)) (list_all (is_deeper d) (between ++ entry m f ∷ [])) e in
    let deep : d < length (names_of g) = omega (arith, ltb-true d g.depth parts.0, h.1) in
    deeper_names d names (names_of g) between after m f (h.0 d deep ∙ is) h.2 parts.1
deeper_names d names last (fault kind path depth ∷ between) after m f is h e =
    deeper_names d names last between after m f is h
    (and_parts (is_deeper d (fault kind path depth)) (list_all (is_deeper d) (between ++ entry m f ∷ [])) e).1
deeper_names d names last (no_memory ∷ between) after m f is h e = absurd (false≢true e)

take_whole : (names : List (List ℕ)) → take (length names) names ≡ names
take_whole [] = refl
take_whole (x ∷ names) = ap (λ ns. x ∷ ns) (take_whole names)

take_all : (names : List (List ℕ)) (d : ℕ) → length names ≡ d → take d names ≡ names
take_all names d e = subst (λ k. take k names ≡ names) e (take_whole names)

dropped : (d : ℕ) (names : List (List ℕ)) → d < length names
    → (x : List ℕ) × (rest : List (List ℕ)) × (drop d names ≡ x ∷ rest)
dropped d [] less = absurd (omega (arith, less))
dropped zero (x ∷ names) less = (x, names, refl)
dropped (suc d) (x ∷ names) less = dropped d names (omega (arith, less))

some_more : (names more : List (List ℕ)) (d : ℕ) → take d more ≡ names → d < length more
    → (x : List ℕ) × (rest : List (List ℕ)) × (more ≡ names ++ x ∷ rest)
some_more names more d is less =
    let parts = dropped d more less in (
      parts.0,
      parts.1,
      sym (take-append-drop d more) ∙ ap (λ ns. ns ++ drop d more) is
          ∙ ap (λ ns. names ++ ns) parts.2,
    )

module _ (rule : Facts → Mark) (m : Mark) (f : Facts) (after : List Given) where
  earlier : (y : Given) (items : List Given) → IsBelowCut rule items f → IsBelowCut rule (y ∷ items) f
  earlier y items h = (h.0, h.1, Contains-append_right (y ∷ []) items (entry h.0 h.1) h.2, h.3, h.4)

  canceller : (last : List (List ℕ)) (items : List Given) → Follows last (items ++ entry m f ∷ after)
      → is_cancelled (cut_by rule) items (entry m f) ≡ true → IsBelowCut rule items f
  canceller last [] h e = absurd (false≢true e)
  canceller last (entry n g ∷ between) h e =
      let deep : Bool = are_below (entry n g) (between ++ entry m f ∷ []) in
      elim (or_cases (cut_by rule (entry n g) && deep) (is_cancelled (cut_by rule) between (entry m f)) e) [
        | inl i ↦ (let parts = and_parts (cut_by rule (entry n g)) deep i in
            let names = deeper_names g.depth (names_of g) (names_of g) between after m f
            (take_all (names_of g) g.depth h.1) h.2 parts.1 in (
              n,
              g,
              (0, omega arith, refl),
              parts.0,
              some_more (names_of g) (names_of f) g.depth names.0 names.1,
            ))
        | inr i ↦ earlier (entry n g) between (canceller (names_of g) between h.2 i)
      ]
  canceller last (fault kind path depth ∷ between) h e =
      earlier (fault kind path depth) between (canceller last between h e)
  canceller last (no_memory ∷ between) h e = earlier no_memory between (canceller last between h e)

pub only_below : (rule : Facts → Mark) (start : List ℕ) (s : Shown) (before after : List Given) (m : Mark)
    (f : Facts) → IsPlainShown s → whole start s ≡ before ++ entry m f ∷ after
    → is_cancelled (cut_by rule) before (entry m f) ≡ true → IsBelowCut rule before f
only_below rule start s before after m f plain split cancelled = canceller rule m f after [] before
    (subst (Follows []) split (walk_follows start s plain)) cancelled
