-- The profile of a tree wildcard.
use Rattle.std.proofs.Common.{if◌then◌else◌, ◌&&◌, ◌++◌, ◌==◌, ◌∙◌, ◌∷◌, ◌≡◌, ◌≤◌, ◌⊎◌, Bool, List, ℕ, [], ap}
use Rattle.std.proofs.Common.{arith, false, inl, inr, refl, suc, sym, true, zero}
use Rattle.wax_query.specs.Components.{slash, slashes, BeginsWithSlash, EndsWithSlash}
use Rattle.wax_token.specs.Meaning.{TreeMeans}
use Rattle.wax_components.specs.{inner.Intervals.kept, inner.Profiles.profile}
use Rattle.wax_components.specs.inner.Shapes.{Shape, empty, ended, joined_shape, shape}
use Rattle.wax_components.specs.inner.TreeProfiles.{every_text, tree_allows}
use Rattle.wax_components.proofs.{Basics.{both_true, is_slash, not_true}, Exact.{Exact, Has, by_shape}}
use Rattle.wax_components.proofs.Hulls.{IsHull, hull_same}
use Rattle.wax_components.proofs.Shapes.{same_first, same_last, shape_append, shape_empty, shape_of_some}
use Rattle.wax_components.proofs.Shapes.{slashes_append}

slashed : ℕ → List ℕ
slashed zero = []
slashed (suc n) = 47 ∷ slashed n

many_slashes : (n : ℕ) → slashes (slashed n) ≡ n
unfolding slashed
many_slashes zero = refl
many_slashes (suc n) = omega (arith, many_slashes n)

between_is : (c d : ℕ) (m : List ℕ) → shape (c ∷ (m ++ d ∷ [])) ≡ ended (c == 47) (d == 47)
between_is c d m = shape_append (c ∷ m) (d ∷ []) ∙ ends c m
  where
    ends : (c : ℕ) (m : List ℕ) → joined_shape (shape (c ∷ m)) (ended (d == 47) (d == 47))
        ≡ ended (c == 47) (d == 47)
    ends c m = let r : (x : Bool) × (y : Bool) × (shape (c ∷ m) ≡ ended x y) = shape_of_some c m in
        ap (λ z. joined_shape z (ended (d == 47) (d == 47))) r.2
        ∙ ap (λ z. ended z (d == 47)) (first c m r.0 r.1 r.2)
      where
        first : (c : ℕ) (m : List ℕ) (x y : Bool) → shape (c ∷ m) ≡ ended x y → x ≡ (c == 47)
        first c [] x y e = cc
        first c (b ∷ m) x y e = let r : (x : Bool) × (y : Bool)
            × (shape (b ∷ m) ≡ ended x y) = shape_of_some b m in
            same_first x y (c == 47) r.1 (sym e ∙ ap (λ z. joined_shape (ended (c == 47) (c == 47)) z) r.2)

abbrev pub Anything : List ℕ → Type 0
Anything s = Unit {0}

-- a text that begins and ends so, with at least so many `/`
pub long : (x y : Bool) (n : ℕ) → (k : ℕ) × Has Anything (ended x y) k × (n ≤ k)
long true true n = (
  slashes (47 ∷ (slashed n ++ 47 ∷ [])),
  (47 ∷ (slashed n ++ 47 ∷ []), tt, between_is 47 47 (slashed n), refl),
  omega (arith, many_slashes n, slashes_append (slashed n) (47 ∷ [])),
)
long true false n = (
  slashes (47 ∷ (slashed n ++ 120 ∷ [])),
  (47 ∷ (slashed n ++ 120 ∷ []), tt, between_is 47 120 (slashed n), refl),
  omega (arith, many_slashes n, slashes_append (slashed n) (120 ∷ [])),
)
long false true n = (
  slashes (120 ∷ (slashed n ++ 47 ∷ [])),
  (120 ∷ (slashed n ++ 47 ∷ []), tt, between_is 120 47 (slashed n), refl),
  omega (arith, many_slashes n, slashes_append (slashed n) (47 ∷ [])),
)
long false false n = (
  slashes (120 ∷ (slashed n ++ 120 ∷ [])),
  (120 ∷ (slashed n ++ 120 ∷ []), tt, between_is 120 120 (slashed n), refl),
  omega (arith, many_slashes n, slashes_append (slashed n) (120 ∷ [])),
)

slash_one : (c : ℕ) → (c == 47) ≡ true → slash c ≡ 1
slash_one c e = ap (λ b. if b then 1 else 0) e

-- a text that begins or ends with `/` has one
one_at_least : (s : List ℕ) (x y : Bool) → shape s ≡ ended x y → (x ≡ true) ⊎ (y ≡ true) → 1 ≤ slashes s
one_at_least [] x y e h = absurd (let f : ⊥ = cc in f)
one_at_least (c ∷ []) x y e h = let f : slash c ≡ 1 = slash_one c (elim h [
  | inl g ↦ (let k : (c == 47) ≡ true = cc in k)
  | inr g ↦ (let k : (c == 47) ≡ true = cc in k)
]) in omega (arith, f)
one_at_least (c ∷ d ∷ s) x y e h =
    let r : (x : Bool) × (y : Bool) × (shape (d ∷ s) ≡ ended x y) = shape_of_some d s in
    let f : ended (c == 47) r.1 ≡ ended x y =
    sym (ap (λ z. joined_shape (ended (c == 47) (c == 47)) z) r.2) ∙ e in
    elim h [
      | inl g ↦ (let k : slash c ≡ 1 = slash_one c (same_first (c == 47) r.1 x y f ∙ g) in omega (arith, k))
      | inr g ↦ (let k : 1 ≤ slashes (d ∷ s) =
          one_at_least (d ∷ s) r.0 r.1 r.2 (inr (same_last (c == 47) r.1 x y f ∙ g)) in omega (arith, k))
    ]

every_text_hull : (a : Shape) → IsHull (every_text a) (Has Anything a)
every_text_hull empty = (
  (([], tt, refl, refl), λ n h. omega arith),
  (
    ([], tt, refl, refl),
    λ n h. let e : slashes h.0 ≡ 0 = ap slashes (shape_empty h.0 h.2) in omega (arith, e, h.3),
  ),
)
every_text_hull (ended false false) =
    (((120 ∷ [], tt, refl, refl), λ n h. omega arith), λ m. long false false m)
every_text_hull (ended false true) = (
  ((120 ∷ 47 ∷ [], tt, refl, refl), λ n h. omega (arith, one_at_least h.0 false true h.2 (inr refl), h.3)),
  λ m. long false true m,
)
every_text_hull (ended true false) = (
  ((47 ∷ 120 ∷ [], tt, refl, refl), λ n h. omega (arith, one_at_least h.0 true false h.2 (inl refl), h.3)),
  λ m. long true false m,
)
every_text_hull (ended true true) = (
  ((47 ∷ [], tt, refl, refl), λ n h. omega (arith, one_at_least h.0 true true h.2 (inl refl), h.3)),
  λ m. long true true m,
)

-- of all texts, those whose shape is taken
pub exact_kept : (allows : Shape → Bool) (P : List ℕ → Type 0)
    → ((s : List ℕ) → P s → allows (shape s) ≡ true) → ((s : List ℕ) → allows (shape s) ≡ true → P s)
    → Exact (profile (λ a. kept (allows a) (every_text a))) P
exact_kept allows P to from = by_shape (λ a. kept (allows a) (every_text a)) P each
  where
    each : (a : Shape) → IsHull (kept (allows a) (every_text a)) (Has P a)
    each a = elim (allows a) as (λ k. allows a ≡ k → IsHull (kept k (every_text a)) (Has P a)) [
      | true ↦
          λ e. hull_same (Has Anything a) (Has P a) (λ n h. (h.0, from h.0 (ap allows h.2 ∙ e), h.2, h.3))
          (λ n h. (h.0, tt, h.2, h.3)) (every_text a) (every_text_hull a)
      | false ↦ λ e n h. not_true (sym e ∙ ap allows (sym h.2) ∙ to h.0 h.1)
    ] refl

-- ---- the ends of a text
begins_to : (s : List ℕ) (x y : Bool) → BeginsWithSlash s → shape s ≡ ended x y → x ≡ true
begins_to [] x y b e = absurd (let f : ⊥ = cc in f)
begins_to (c ∷ []) x y b e = let k : c ≡ 47 = cc in let j : (c == 47) ≡ true = ap (λ d. d == 47) k in cc
begins_to (c ∷ d ∷ s) x y b e =
    let r : (x : Bool) × (y : Bool) × (shape (d ∷ s) ≡ ended x y) = shape_of_some d s in
    let k : c ≡ 47 = cc in
    let j : (c == 47) ≡ true = ap (λ d. d == 47) k in
    let f : ended (c == 47) r.1 ≡ ended x y =
    sym (ap (λ z. joined_shape (ended (c == 47) (c == 47)) z) r.2) ∙ e in
    let g : (c == 47) ≡ x = cc in sym g ∙ j

begins_from : (s : List ℕ) (y : Bool) → shape s ≡ ended true y → BeginsWithSlash s
begins_from [] y e = absurd (let f : ⊥ = cc in f)
begins_from (c ∷ []) y e = let k : (c == 47) ≡ true = cc in ([], ap (λ d. d ∷ []) (is_slash c k))
begins_from (c ∷ d ∷ s) y e =
    let r : (x : Bool) × (y : Bool) × (shape (d ∷ s) ≡ ended x y) = shape_of_some d s in
    let f : ended (c == 47) r.1 ≡ ended true y =
    sym (ap (λ z. joined_shape (ended (c == 47) (c == 47)) z) r.2) ∙ e in
    let k : (c == 47) ≡ true = cc in
    (d ∷ s, ap (λ b. b ∷ d ∷ s) (is_slash c k))

ends_to : (s : List ℕ) (x y : Bool) → EndsWithSlash s → shape s ≡ ended x y → y ≡ true
ends_to s x y b e = last (shape b.0) (sym (ap shape b.1 ∙ shape_append b.0 (47 ∷ [])) ∙ e)
  where
    last : (a : Shape) → joined_shape a (ended true true) ≡ ended x y → y ≡ true
    last empty e = cc
    last (ended z w) e = cc

ends_from : (s : List ℕ) (x : Bool) → shape s ≡ ended x true → EndsWithSlash s
ends_from [] x e = absurd (let f : ⊥ = cc in f)
ends_from (c ∷ []) x e = let k : (c == 47) ≡ true = cc in ([], ap (λ d. d ∷ []) (is_slash c k))
ends_from (c ∷ d ∷ s) x e =
    let r : (x : Bool) × (y : Bool) × (shape (d ∷ s) ≡ ended x y) = shape_of_some d s in
    let f : ended (c == 47) r.1 ≡ ended x true =
    sym (ap (λ z. joined_shape (ended (c == 47) (c == 47)) z) r.2) ∙ e in
    let k : r.1 ≡ true = cc in
    let g : EndsWithSlash (d ∷ s) = ends_from (d ∷ s) r.0 (r.2 ∙ ap (λ z. ended r.0 z) k) in
    (c ∷ g.0, ap (λ z. c ∷ z) g.1)

nothing_begins : {C : Type 0} → BeginsWithSlash [] → C
nothing_begins h = absurd (nil h.0 h.1)
  where
    nil : (t : List ℕ) → [] ≡ 47 ∷ t → ⊥
    nil t e = cc

some_text : {C : Type 0} (c : ℕ) (s : List ℕ) → (c ∷ s) ≡ [] → C
some_text c s e = absurd (let f : ⊥ = cc in f)

module _ (c : ℕ) (s : List ℕ) where
  k : (x : Bool) × (y : Bool) × (shape (c ∷ s) ≡ ended x y)
  k = shape_of_some c s

  abbrev Taken : (Shape → Bool) → Type 0
  Taken allows = allows (shape (c ∷ s)) ≡ true

  -- said of the ends
  ended_to : (allows : Shape → Bool) → allows (ended k.0 k.1) ≡ true → Taken allows
  ended_to allows e = ap allows k.2 ∙ e

  ended_from : (allows : Shape → Bool) → Taken allows → allows (ended k.0 k.1) ≡ true
  ended_from allows e = sym (ap allows k.2) ∙ e

  begins_is : BeginsWithSlash (c ∷ s) → k.0 ≡ true
  begins_is b = begins_to (c ∷ s) k.0 k.1 b k.2

  is_begun : k.0 ≡ true → BeginsWithSlash (c ∷ s)
  is_begun e = begins_from (c ∷ s) k.1 (k.2 ∙ ap (λ z. ended z k.1) e)

  ends_is : EndsWithSlash (c ∷ s) → k.1 ≡ true
  ends_is b = ends_to (c ∷ s) k.0 k.1 b k.2

  is_ended : k.1 ≡ true → EndsWithSlash (c ∷ s)
  is_ended e = ends_from (c ∷ s) k.0 (k.2 ∙ ap (λ z. ended k.0 z) e)

  conjunction : BeginsWithSlash (c ∷ s) × EndsWithSlash (c ∷ s) → (k.0 && k.1) ≡ true
  conjunction h = ap (λ z. z && k.1) (begins_is h.0) ∙ ends_is h.1

  parts : (k.0 && k.1) ≡ true → BeginsWithSlash (c ∷ s) × EndsWithSlash (c ∷ s)
  parts e = let p : (k.0 ≡ true) × (k.1 ≡ true) = both_true k.0 k.1 e in (is_begun p.0, is_ended p.1)

pub tree_to : (before after rooted : Bool) (s : List ℕ) → TreeMeans before after rooted s
    → tree_allows before after rooted (shape s) ≡ true
tree_to false false false s h = refl
tree_to false false true [] h = nothing_begins h
tree_to false false true (c ∷ s) h = ended_to c s (tree_allows false false true) (begins_is c s h)
tree_to false true false [] h = refl
tree_to false true false (c ∷ s) (inl e) = some_text c s e
tree_to false true false (c ∷ s) (inr h) = ended_to c s (tree_allows false true false) (ends_is c s h)
tree_to false true true [] h = nothing_begins h.0
tree_to false true true (c ∷ s) h = ended_to c s (tree_allows false true true) (conjunction c s h)
tree_to true true rooted [] h = nothing_begins h.0
tree_to true true rooted (c ∷ s) h = ended_to c s (tree_allows true true rooted) (conjunction c s h)
tree_to true false rooted [] h = refl
tree_to true false rooted (c ∷ s) (inl e) = some_text c s e
tree_to true false rooted (c ∷ s) (inr h) = ended_to c s (tree_allows true false rooted) (begins_is c s h)

pub tree_from : (before after rooted : Bool) (s : List ℕ) → tree_allows before after rooted (shape s) ≡ true
    → TreeMeans before after rooted s
tree_from false false false s e = tt
tree_from false false true [] e = not_true e
tree_from false false true (c ∷ s) e = is_begun c s (ended_from c s (tree_allows false false true) e)
tree_from false true false [] e = inl refl
tree_from false true false (c ∷ s) e = inr (is_ended c s (ended_from c s (tree_allows false true false) e))
tree_from false true true [] e = not_true e
tree_from false true true (c ∷ s) e = parts c s (ended_from c s (tree_allows false true true) e)
tree_from true true rooted [] e = not_true e
tree_from true true rooted (c ∷ s) e = parts c s (ended_from c s (tree_allows true true rooted) e)
tree_from true false rooted [] e = inl refl
tree_from true false rooted (c ∷ s) e = inr (is_begun c s (ended_from c s (tree_allows true false rooted) e))

pub exact_tree : (before after rooted : Bool) → Exact
    (profile (λ a. kept (tree_allows before after rooted a) (every_text a))) (TreeMeans before after rooted)
exact_tree before after rooted = exact_kept (tree_allows before after rooted) (TreeMeans before after rooted)
    (tree_to before after rooted) (tree_from before after rooted)
