-- Without a tree wildcard, what stands around a tree doesn't matter.
use Rattle.std.proofs.{Common.{◌≡◌, Bool, List, ℕ, false, inl, inr, true}, lemmas.Bool.or_parts}
use Rattle.wax_token.specs.Cost.{holds_tree, is_tree, some_holds_tree}
use Rattle.wax_token.specs.Meaning.{LeafMeans, Means, MeansEach, MeansSome}
use Rattle.wax_token.specs.Syntax.{Leaf, Tree, Trees, alternation, class, concatenation, leaf, literal, more}
use Rattle.wax_token.specs.Syntax.{none, one, repetition, separator, tree, zero_or_more}
use Rattle.wax_token.proofs.Copies.{copies_moved}

leaf_moved : (l : Leaf) → is_tree l ≡ false → (b f b' f' : Bool) (s : List ℕ) → LeafMeans l b f s
    → LeafMeans l b' f' s
leaf_moved (literal insensitive t) e b f b' f' s h = h
leaf_moved (class negated xs) e b f b' f' s h = h
leaf_moved separator e b f b' f' s h = h
leaf_moved one e b f b' f' s h = h
leaf_moved (zero_or_more evaluation) e b f b' f' s h = h
leaf_moved (tree rooted) e b f b' f' s h = absurd (let g : ⊥ = cc in g)

mutual
  pub means_moved : {A : Type 0} (t : Tree A) → holds_tree t ≡ false → (b f b' f' : Bool) (s : List ℕ)
      → Means t b f s → Means t b' f' s
  means_moved (leaf a l) e b f b' f' s h = leaf_moved l e b f b' f' s h
  means_moved (alternation a ts) e b f b' f' s h = some_moved ts e b f b' f' s h
  means_moved (concatenation a ts) e b f b' f' s h = each_moved ts e b f b' f' s h
  means_moved (repetition a t low high) e b f b' f' s h =
      (h.0, h.1, h.2, copies_moved (Means t) (means_moved t e) h.0 b f b' f' s h.3)

  some_moved : {A : Type 0} (ts : Trees A) → some_holds_tree ts ≡ false → (b f b' f' : Bool) (s : List ℕ)
      → MeansSome ts b f s → MeansSome ts b' f' s
  some_moved none e b f b' f' s h = h
  some_moved (more t ts) e b f b' f' s (inl h) =
      inl (means_moved t (or_parts (holds_tree t) (some_holds_tree ts) e).0 b f b' f' s h)
  some_moved (more t ts) e b f b' f' s (inr h) =
      inr (some_moved ts (or_parts (holds_tree t) (some_holds_tree ts) e).1 b f b' f' s h)

  each_moved : {A : Type 0} (ts : Trees A) → some_holds_tree ts ≡ false → (b f b' f' : Bool) (s : List ℕ)
      → MeansEach ts b f s → MeansEach ts b' f' s
  each_moved none e b f b' f' s h = h
  each_moved (more t none) e b f b' f' s h = means_moved t (or_parts (holds_tree t) false e).0 b f b' f' s h
  each_moved (more t (more u us)) e b f b' f' s h = (
    h.0,
    h.1,
    h.2,
    means_moved t (or_parts (holds_tree t) (some_holds_tree (more u us)) e).0 b true b' true h.0 h.3,
    each_moved (more u us) (or_parts (holds_tree t) (some_holds_tree (more u us)) e).1 true f true f' h.1 h.4,
  )
