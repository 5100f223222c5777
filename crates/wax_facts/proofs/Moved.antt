-- Without a `**` at its beginning a token means the same after something.
use Rattle.std.proofs.Common.{Bool, List, false, inl, inr, suc, true, zero, ℕ, ◌≡◌}
use Rattle.wax_token.specs.Meaning.{Copies, LeafMeans, Means, MeansEach, MeansSome}
use Rattle.wax_token.specs.Syntax.{Leaf, Tree, Trees, alternation, class, concatenation, leaf, literal, more}
use Rattle.wax_token.specs.Syntax.{none, one, repetition, separator, tree, zero_or_more}
use Rattle.wax_token.specs.Kinds.{is_tree_wildcard}
use Rattle.wax_facts.specs.inner.Cuts.{first_starts_with_tree, some_starts_with_tree, starts_with_tree}
use Rattle.wax_facts.proofs.Truths.{or_false}

leaf_moved : {A : Type 0} (a : A) (l : Leaf) → is_tree_wildcard (leaf a l) ≡ false
    → (b c f : Bool) (s : List ℕ) → LeafMeans l b f s → LeafMeans l c f s
leaf_moved a (literal i t) e b c f s m = m
leaf_moved a (class n xs) e b c f s m = m
leaf_moved a separator e b c f s m = m
leaf_moved a one e b c f s m = m
leaf_moved a (zero_or_more v) e b c f s m = m
leaf_moved a (tree rooted) e b c f s m = absurd (let g : ⊥ = cc in g)

copies_moved : (Body : Bool → Bool → List ℕ → Type 0)
    → ((b c f : Bool) (s : List ℕ) → Body b f s → Body c f s) → (k : ℕ) (b c f : Bool) (s : List ℕ)
    → Copies k Body b f s → Copies k Body c f s
copies_moved Body h zero b c f s m = m
copies_moved Body h (suc zero) b c f s m = h b c f s m
copies_moved Body h (suc (suc k)) b c f s m = (m.0, m.1, m.2, h b c true m.0 m.3, m.4)

mutual
  pub moved : {A : Type 0} (t : Tree A) → starts_with_tree t ≡ false → (b c f : Bool) (s : List ℕ)
      → Means t b f s → Means t c f s
  moved (leaf a l) e b c f s m = leaf_moved a l e b c f s m
  moved (alternation a ts) e b c f s m = some_moved ts e b c f s m
  moved (concatenation a ts) e b c f s m = each_moved ts e b c f s m
  moved (repetition a t low high) e b c f s m =
      (m.0, m.1, m.2, copies_moved (Means t) (λ b c f s n. moved t e b c f s n) m.0 b c f s m.3)

  some_moved : {A : Type 0} (ts : Trees A) → some_starts_with_tree ts ≡ false → (b c f : Bool) (s : List ℕ)
      → MeansSome ts b f s → MeansSome ts c f s
  some_moved none e b c f s m = m
  some_moved (more t ts) e b c f s (inl m) =
      inl (moved t (or_false (starts_with_tree t) (some_starts_with_tree ts) e).0 b c f s m)
  some_moved (more t ts) e b c f s (inr m) =
      inr (some_moved ts (or_false (starts_with_tree t) (some_starts_with_tree ts) e).1 b c f s m)

  pub each_moved : {A : Type 0} (ts : Trees A) → first_starts_with_tree ts ≡ false
      → (b c f : Bool) (s : List ℕ) → MeansEach ts b f s → MeansEach ts c f s
  each_moved none e b c f s m = m
  each_moved (more t none) e b c f s m = moved t e b c f s m
  each_moved (more t (more u us)) e b c f s m = (m.0, m.1, m.2, moved t e b c true m.0 m.3, m.4)
