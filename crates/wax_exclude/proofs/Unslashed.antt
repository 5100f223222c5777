-- Without a boundary what stands around a token doesn't matter, and no text that it means holds a `/`.
use Rattle.std.proofs.Common.{◌≡◌, ◌≢◌, ℕ, zero, suc, Bool, true, false, ◌||◌, List, [], ◌∷◌, ◌++◌, refl, sym}
use Rattle.std.proofs.Common.{subst, inl, inr}
use Rattle.wax_token.proofs.Slash.{slash_alone}
use Rattle.wax_token.specs.Kinds.{is_boundary_leaf, has_boundary, some_has_boundary}
use Rattle.wax_token.specs.Meaning.{HasNoSlash, SameFold, SameText, LeafMeans, in_class, Copies, Means}
use Rattle.wax_token.specs.Meaning.{MeansSome, MeansEach}
use Rattle.wax_token.specs.Spelled.{LeafHasNoSlash, LiteralsHaveNoSlash, AllHaveNoSlash}
use Rattle.wax_token.specs.Syntax.{Leaf, literal, class, separator, one, zero_or_more, tree, Tree, leaf}
use Rattle.wax_token.specs.Syntax.{alternation, concatenation, repetition, Trees, none, more}
use Rattle.wax_token.specs.declared.token.Archetype.{Archetype}

-- ---- texts without `/`

pub no_slash_append : (x y : List ℕ) → HasNoSlash x → HasNoSlash y → HasNoSlash (x ++ y)
no_slash_append [] y h k = k
no_slash_append (c ∷ x) y h k = (h.0, no_slash_append x y h.1 k)

pub no_slash_back : (x y : List ℕ) → HasNoSlash (x ++ y) → HasNoSlash y
no_slash_back [] y h = h
no_slash_back (c ∷ x) y h = no_slash_back x y h.1

or_left : (a b : Bool) → (a || b) ≡ false → a ≡ false
or_left true b e = e
or_left false b e = refl

or_right : (a b : Bool) → (a || b) ≡ false → b ≡ false
or_right true b e = cc
or_right false b e = e

class_char : (negated : Bool) (xs : List Archetype) (c : ℕ) → in_class negated xs c ≡ true → c ≢ 47
class_char negated xs c h e = let k : in_class negated xs 47 ≡ true =
    subst (λ v. in_class negated xs v ≡ true) e h in cc

copies_unslashed : (k : ℕ) (Body : Bool → Bool → List ℕ → Type 0) (b a : Bool) (s : List ℕ)
    → ((c d : Bool) (x : List ℕ) → Body c d x → HasNoSlash x) → Copies k Body b a s → HasNoSlash s
copies_unslashed zero Body b a s f h = subst HasNoSlash (sym h) tt
copies_unslashed (suc zero) Body b a s f h = f b a s h
copies_unslashed (suc (suc k)) Body b a s f h =
    subst HasNoSlash (sym h.2) (no_slash_append h.0 h.1 (f b true h.0 h.3)
    (copies_unslashed (suc k) Body true a h.1 f h.4))

copies_freed : (k : ℕ) (Body : Bool → Bool → List ℕ → Type 0) (b a b' a' : Bool) (s : List ℕ)
    → ((c d c' d' : Bool) (x : List ℕ) → Body c d x → Body c' d' x) → Copies k Body b a s
    → Copies k Body b' a' s
copies_freed zero Body b a b' a' s f h = h
copies_freed (suc zero) Body b a b' a' s f h = f b a b' a' s h
copies_freed (suc (suc k)) Body b a b' a' s f h =
    (h.0, h.1, h.2, f b true b' true h.0 h.3, copies_freed (suc k) Body true a true a' h.1 f h.4)

-- ---- without a boundary, what stands around doesn't matter

leaf_freed : (l : Leaf) (b a b' a' : Bool) (s : List ℕ) → is_boundary_leaf l ≡ false → LeafMeans l b a s
    → LeafMeans l b' a' s
leaf_freed (literal i t) b a b' a' s e h = h
leaf_freed (class negated xs) b a b' a' s e h = h
leaf_freed separator b a b' a' s e h = h
leaf_freed one b a b' a' s e h = h
leaf_freed (zero_or_more z) b a b' a' s e h = h
leaf_freed (tree rooted) b a b' a' s e h = cc

mutual
  pub freed : {A : Type 0} (t : Tree A) (b a b' a' : Bool) (s : List ℕ) → has_boundary t ≡ false
      → Means t b a s → Means t b' a' s
  freed (leaf x l) b a b' a' s e h = leaf_freed l b a b' a' s e h
  freed (alternation x ts) b a b' a' s e h = freed_some ts b a b' a' s e h
  freed (concatenation x ts) b a b' a' s e h = freed_each ts b a b' a' s e h
  freed (repetition x t low high) b a b' a' s e h =
      (h.0, h.1, h.2, copies_freed h.0 (Means t) b a b' a' s (λ c d c' d' y m. freed t c d c' d' y e m) h.3)

  freed_some : {A : Type 0} (ts : Trees A) (b a b' a' : Bool) (s : List ℕ) → some_has_boundary ts ≡ false
      → MeansSome ts b a s → MeansSome ts b' a' s
  freed_some none b a b' a' s e h = h
  freed_some (more t ts) b a b' a' s e h = elim h [
    | inl m ↦ inl (freed t b a b' a' s (or_left (has_boundary t) (some_has_boundary ts) e) m)
    | inr m ↦ inr (freed_some ts b a b' a' s (or_right (has_boundary t) (some_has_boundary ts) e) m)
  ]

  pub freed_each : {A : Type 0} (ts : Trees A) (b a b' a' : Bool) (s : List ℕ) → some_has_boundary ts ≡ false
      → MeansEach ts b a s → MeansEach ts b' a' s
  freed_each none b a b' a' s e h = h
  freed_each (more t none) b a b' a' s e h = freed t b a b' a' s (or_left (has_boundary t) false e) h
  freed_each (more t (more u us)) b a b' a' s e h = (
    h.0,
    h.1,
    h.2,
    freed t b true b' true h.0 (or_left (has_boundary t) (some_has_boundary (more u us)) e) h.3,
    freed_each (more u us) true a true a' h.1 (or_right (has_boundary t) (some_has_boundary (more u us)) e)
        h.4,
  )

-- ---- and no meant text holds a `/`

same_unslashed : (i : Bool) (t s : List ℕ) → HasNoSlash t → SameText i t s → HasNoSlash s
same_unslashed i [] [] n h = tt
same_unslashed i [] (d ∷ s) n h = absurd h
same_unslashed i (c ∷ t) [] n h = absurd h
same_unslashed false (c ∷ t) (d ∷ s) n h = (subst (λ v. v ≢ 47) h.0 n.0, same_unslashed false t s n.1 h.1)
same_unslashed true (c ∷ t) (d ∷ s) n h = (
  (λ e. n.0 (slash_alone c (subst (λ v. SameFold c v) e h.0))),
  same_unslashed true t s n.1 h.1,
)

leaf_unslashed : (l : Leaf) (b a : Bool) (s : List ℕ) → is_boundary_leaf l ≡ false → LeafHasNoSlash l
    → LeafMeans l b a s → HasNoSlash s
leaf_unslashed (literal i t) b a s e n h = same_unslashed i t s n h
leaf_unslashed (class negated xs) b a s e n h = subst HasNoSlash (sym h.1) (class_char negated xs h.0 h.2, tt)
leaf_unslashed separator b a s e n h = cc
leaf_unslashed one b a s e n h = subst HasNoSlash (sym h.1) (h.2, tt)
leaf_unslashed (zero_or_more z) b a s e n h = h
leaf_unslashed (tree rooted) b a s e n h = cc

mutual
  pub unslashed : {A : Type 0} (t : Tree A) (b a : Bool) (s : List ℕ) → has_boundary t ≡ false
      → LiteralsHaveNoSlash t → Means t b a s → HasNoSlash s
  unslashed (leaf x l) b a s e n h = leaf_unslashed l b a s e n h
  unslashed (alternation x ts) b a s e n h = unslashed_some ts b a s e n h
  unslashed (concatenation x ts) b a s e n h = unslashed_each ts b a s e n h
  unslashed (repetition x t low high) b a s e n h =
      copies_unslashed h.0 (Means t) b a s (λ c d y m. unslashed t c d y e n m) h.3

  unslashed_some : {A : Type 0} (ts : Trees A) (b a : Bool) (s : List ℕ) → some_has_boundary ts ≡ false
      → AllHaveNoSlash ts → MeansSome ts b a s → HasNoSlash s
  unslashed_some none b a s e n h = absurd h
  unslashed_some (more t ts) b a s e n h = elim h [
    | inl m ↦ unslashed t b a s (or_left (has_boundary t) (some_has_boundary ts) e) n.0 m
    | inr m ↦ unslashed_some ts b a s (or_right (has_boundary t) (some_has_boundary ts) e) n.1 m
  ]

  unslashed_each : {A : Type 0} (ts : Trees A) (b a : Bool) (s : List ℕ) → some_has_boundary ts ≡ false
      → AllHaveNoSlash ts → MeansEach ts b a s → HasNoSlash s
  unslashed_each none b a s e n h = subst HasNoSlash (sym h) tt
  unslashed_each (more t none) b a s e n h = unslashed t b a s (or_left (has_boundary t) false e) n.0 h
  unslashed_each (more t (more u us)) b a s e n h =
      subst HasNoSlash (sym h.2) (no_slash_append h.0 h.1
      (unslashed t b true h.0 (or_left (has_boundary t) (some_has_boundary (more u us)) e) n.0 h.3)
      (unslashed_each (more u us) true a h.1 (or_right (has_boundary t) (some_has_boundary (more u us)) e) n.1
      h.4))
