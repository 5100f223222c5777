-- The components of tokens once more, put together from the right.
use Rattle.std.proofs.Common.{◌≡◌, ℕ, suc, ◌+◌, Bool, true, false, ◌||◌, not, cond, List, [], ◌∷◌, ◌++◌, take}
use Rattle.std.proofs.Common.{map, refl, sym, ap, subst, ◌∙◌, arith}
use Rattle.std.specs.{Prelude.⊤, List.{before_first, list_any, position_or_len}}
use Rattle.wax_components.specs.Parts.{components_in}
use Rattle.wax_token.specs.Kinds.{is_separator, is_tree_wildcard, is_boundary, has_boundary}
use Rattle.wax_token.specs.{Kinds.some_has_boundary, Meaning.MeansEach}
use Rattle.wax_token.specs.Syntax.{literal, class, separator, one, zero_or_more, tree, Tree, leaf}
use Rattle.wax_token.specs.Syntax.{alternation, concatenation, repetition, Trees, none, more}
use Rattle.wax_token.specs.Words.{trees, listed}
use Rattle.wax_exclude.specs.Leading.{Lead}

-- a token is a separator, a `**`, or neither
pub data Sort {A : Type 0} (t : Tree A) : Type 0 where
  separates : (a : A) → t ≡ leaf a separator → Sort t
  wild : (a : A) (rooted : Bool) → t ≡ leaf a (tree rooted) → Sort t
  plain : is_separator t ≡ false → is_tree_wildcard t ≡ false → Sort t

pub sort : {A : Type 0} (t : Tree A) → Sort t
sort (leaf a (literal i s)) = plain refl refl
sort (leaf a (class negated xs)) = plain refl refl
sort (leaf a separator) = separates a refl
sort (leaf a one) = plain refl refl
sort (leaf a (zero_or_more e)) = plain refl refl
sort (leaf a (tree rooted)) = wild a rooted refl
sort (alternation a ts) = plain refl refl
sort (concatenation a ts) = plain refl refl
sort (repetition a t low high) = plain refl refl

-- a token before these components, the first of which it joins
abbrev pub onto : {A : Type 0} → Tree A → List (Trees A) → List (Trees A)
onto t [] = more t none ∷ []
onto t (c ∷ cs) = more t c ∷ cs

-- the longest runs of tokens that are no boundary, and each `**` alone
abbrev pub rows : {A : Type 0} → Trees A → List (Trees A)
rows none = []
rows (more t none) = cond (is_separator t) [] (more t none ∷ [])
rows (more t (more u us)) =
    cond (is_separator t) (rows (more u us))
    (cond (is_tree_wildcard t || (is_separator u || is_tree_wildcard u)) (more t none ∷ rows (more u us))
    (onto t (rows (more u us))))

-- those before the first that holds a boundary
abbrev pub until_boundary : {A : Type 0} → List (Trees A) → List (Trees A)
until_boundary [] = []
until_boundary (c ∷ cs) = cond (some_has_boundary c) [] (c ∷ until_boundary cs)

abbrev pub leading_rows : {A : Type 0} → Trees A → List (Trees A)
leading_rows ts = until_boundary (rows ts)

-- each name is meant by the component at its place
abbrev pub RowsLead : {A : Type 0} → List (Trees A) → List (List ℕ) → Type 0
RowsLead [] names = ⊤
RowsLead (c ∷ cs) [] = ⊤
RowsLead (c ∷ cs) (n ∷ names) = MeansEach c false false n × RowsLead cs names

-- ---- how they are put together

pub none_either : (b c : Bool) → b ≡ false → c ≡ false → (b || c) ≡ false
none_either true c e f = e
none_either false c e f = f

-- a token that is neither begins the first component
pub rows_onto : {A : Type 0} (t u : Tree A) (us : Trees A) → is_separator t ≡ false
    → is_tree_wildcard t ≡ false → is_separator u ≡ false → is_tree_wildcard u ≡ false
    → rows (more t (more u us)) ≡ onto t (rows (more u us))
rows_onto t u us a b c d =
    ap (λ v. cond v (rows (more u us)) (cond (is_tree_wildcard t || (is_separator u || is_tree_wildcard u))
    (more t none ∷ rows (more u us)) (onto t (rows (more u us))))) a
    ∙ ap (λ v. cond v (more t none ∷ rows (more u us)) (onto t (rows (more u us))))
    (none_either (is_tree_wildcard t) (is_separator u || is_tree_wildcard u) b
    (none_either (is_separator u) (is_tree_wildcard u) c d))

pub either_right : (a b : Bool) → b ≡ true → (a || b) ≡ true
either_right true b e = refl
either_right false b e = e

-- before a boundary it is a component
pub rows_alone : {A : Type 0} (t u : Tree A) (us : Trees A) → is_separator t ≡ false
    → (is_separator u || is_tree_wildcard u) ≡ true
    → rows (more t (more u us)) ≡ more t none ∷ rows (more u us)
rows_alone t u us a b =
    ap (λ v. cond v (rows (more u us)) (cond (is_tree_wildcard t || (is_separator u || is_tree_wildcard u))
    (more t none ∷ rows (more u us)) (onto t (rows (more u us))))) a
    ∙ ap (λ v. cond v (more t none ∷ rows (more u us)) (onto t (rows (more u us))))
    (either_right (is_tree_wildcard t) (is_separator u || is_tree_wildcard u) b)

-- ---- they are the components

run_ends : {X : Type 0} (p : X → Bool) (x : X) (xs : List X) → p x ≡ true → before_first p (x ∷ xs) ≡ []
run_ends p x xs e = ap (λ b. take (cond (not b) (1 + position_or_len p xs) 0) (x ∷ xs)) e

run_goes_on : {X : Type 0} (p : X → Bool) (x : X) (xs : List X) → p x ≡ false
    → before_first p (x ∷ xs) ≡ x ∷ before_first p xs
run_goes_on p x xs e =
    let f : 1 + position_or_len p xs ≡ suc (position_or_len p xs) = omega arith in
    ap (λ b. take (cond (not b) (1 + position_or_len p xs) 0) (x ∷ xs)) e ∙ ap (λ k. take k (x ∷ xs)) f

module _ {A : Type 0} where
  abbrev run : List (Tree A) → List (Tree A)
  run ts = before_first is_boundary ts

  -- at a boundary it doesn't matter what comes before
  edge_again : (u : Tree A) (us : List (Tree A)) → is_boundary u ≡ true → Sort u
      → components_in false (u ∷ us) ≡ components_in true (u ∷ us)
  edge_again u us e (separates a s) =
      subst (λ v. components_in false (v ∷ us) ≡ components_in true (v ∷ us)) (sym s) refl
  edge_again u us e (wild a r s) =
      subst (λ v. components_in false (v ∷ us) ≡ components_in true (v ∷ us)) (sym s) refl
  edge_again u us e (plain s w) = absurd (
      let f : is_boundary u ≡ false = none_either (is_separator u) (is_tree_wildcard u) s w in
      let g : true ≡ false = sym e ∙ f in
      cc
      )

  run_begins : (t : Tree A) (ts : List (Tree A)) → is_separator t ≡ false → is_tree_wildcard t ≡ false
      → components_in true (t ∷ ts) ≡ (t ∷ run ts) ∷ components_in false ts
  run_begins t ts s w =
      ap (λ b. cond b [] (cond (is_tree_wildcard t) ((t ∷ []) ∷ []) ((t ∷ run ts) ∷ []))
      ++ components_in (b || is_tree_wildcard t) ts) s
      ∙ ap (λ b. cond b ((t ∷ []) ∷ []) ((t ∷ run ts) ∷ []) ++ components_in b ts) w

  run_inside : (t : Tree A) (ts : List (Tree A)) → is_separator t ≡ false → is_tree_wildcard t ≡ false
      → components_in false (t ∷ ts) ≡ components_in false ts
  run_inside t ts s w =
      ap (λ b. cond b [] (cond (is_tree_wildcard t) ((t ∷ []) ∷ []) [])
      ++ components_in (b || is_tree_wildcard t) ts) s
      ∙ ap (λ b. cond b ((t ∷ []) ∷ []) [] ++ components_in b ts) w

  abbrev parts : Trees A → List (Trees A)
  parts ts = map trees (components_in true (listed ts))

  -- before a boundary
  parts_edge : (t u : Tree A) (us : Trees A) → is_separator t ≡ false → is_tree_wildcard t ≡ false
      → is_boundary u ≡ true → parts (more u us) ≡ rows (more u us)
      → parts (more t (more u us)) ≡ rows (more t (more u us))
  parts_edge t u us s w e h =
      ap (λ z. map trees z) (run_begins t (u ∷ listed us) s w)
      ∙ ap (λ z. more t (trees z) ∷ map trees (components_in false (u ∷ listed us)))
      (run_ends is_boundary u (listed us) e)
      ∙ ap (λ z. more t none ∷ map trees z) (edge_again u (listed us) e (sort u))
      ∙ ap (λ z. more t none ∷ z) h ∙ sym (rows_alone t u us s e)

  parts_more : (t u : Tree A) (us : Trees A) → Sort t → Sort u → parts (more u us) ≡ rows (more u us)
      → parts (more t (more u us)) ≡ rows (more t (more u us))
  parts_more t u us (separates a s) x h =
      subst (λ v. parts (more v (more u us)) ≡ rows (more v (more u us))) (sym s) h
  parts_more t u us (wild a r s) x h =
      subst (λ v. parts (more v (more u us)) ≡ rows (more v (more u us))) (sym s)
      (ap (λ z. more (leaf a (tree r)) none ∷ z) h)
  parts_more t u us (plain s w) (separates a e) h = parts_edge t u us s w (ap is_boundary e) h
  parts_more t u us (plain s w) (wild a r e) h = parts_edge t u us s w (ap is_boundary e) h
  parts_more t u us (plain s w) (plain e f) h =
      let g : is_boundary u ≡ false = none_either (is_separator u) (is_tree_wildcard u) e f in
      ap (λ z. map trees z) (run_begins t (u ∷ listed us) s w)
      ∙ ap (λ z. more t (trees z) ∷ map trees (components_in false (u ∷ listed us)))
      (run_goes_on is_boundary u (listed us) g)
      ∙ ap (λ z. more t (trees (u ∷ run (listed us))) ∷ map trees z) (run_inside u (listed us) e f)
      ∙ ap (λ z. onto t (map trees z)) (sym (run_begins u (listed us) e f))
      ∙ ap (onto t) h ∙ sym (rows_onto t u us s w e f)

  parts_last : (t : Tree A) → Sort t → parts (more t none) ≡ rows (more t none)
  parts_last t (separates a s) = subst (λ v. parts (more v none) ≡ rows (more v none)) (sym s) refl
  parts_last t (wild a r s) = subst (λ v. parts (more v none) ≡ rows (more v none)) (sym s) refl
  parts_last t (plain s w) =
      ap (λ z. map trees z) (run_begins t [] s w) ∙ sym (ap (λ b. cond b [] (more t none ∷ [])) s)

  -- the components are those of the tokens
  pub parts_are : (ts : Trees A) → parts ts ≡ rows ts
  parts_are none = refl
  parts_are (more t none) = parts_last t (sort t)
  parts_are (more t (more u us)) = parts_more t u us (sort t) (sort u) (parts_are (more u us))

  -- ---- they lead

  holds_some : (ts : List (Tree A)) → some_has_boundary (trees ts) ≡ list_any has_boundary ts
  holds_some [] = refl
  holds_some (t ∷ ts) = ap (λ b. has_boundary t || b) (holds_some ts)

  abbrev until : List (List (Tree A)) → List (List (Tree A))
  until cs = before_first (list_any has_boundary) cs

  abbrev LeadsToo : List (List (Tree A)) → Type 0
  LeadsToo cs = (names : List (List ℕ)) → RowsLead (until_boundary (map trees cs)) names
      → Lead (until cs) names

  leads_more : (c : List (Tree A)) (cs : List (List (Tree A))) (names : List (List ℕ)) → LeadsToo cs
      → (b : Bool) → list_any has_boundary c ≡ b
      → RowsLead (until_boundary (trees c ∷ map trees cs)) names → Lead (until (c ∷ cs)) names
  leads_more c cs names ih true e h =
      subst (λ v. Lead v names) (sym (run_ends (list_any has_boundary) c cs e)) tt
  leads_more c cs [] ih false e h =
      subst (λ v. Lead v []) (sym (run_goes_on (list_any has_boundary) c cs e)) tt
  leads_more c cs (n ∷ names) ih false e h =
      let f : some_has_boundary (trees c) ≡ false = holds_some c ∙ e in
      let k : RowsLead (trees c ∷ until_boundary (map trees cs)) (n ∷ names) =
      subst (λ v. RowsLead v (n ∷ names)) (ap (λ b. cond b [] (trees c ∷ until_boundary (map trees cs))) f) h
      in
      subst (λ v. Lead v (n ∷ names)) (sym (run_goes_on (list_any has_boundary) c cs e)) (k.0, ih names k.1)

  leads_too : (cs : List (List (Tree A))) → LeadsToo cs
  leads_too [] names h = tt
  leads_too (c ∷ cs) names h = leads_more c cs names (leads_too cs) (list_any has_boundary c) refl h

  -- where the rows of a glob's tokens lead, its components do
  pub rows_lead : (ts : Trees A) (names : List (List ℕ)) → RowsLead (leading_rows ts) names
      → Lead (until (components_in true (listed ts))) names
  rows_lead ts names h = leads_too (components_in true (listed ts)) names
      (subst (λ v. RowsLead (until_boundary v) names) (sym (parts_are ts)) h)
