-- Where the root is sure, each text that is meant begins with `/`.
use Rattle.std.proofs.Common.{Bool, List, [], ap, arith, false, inl, inr, suc, true, zero, ℕ, ◌++◌, ◌∙◌, ◌≡◌}
use Rattle.std.proofs.Common.{◌≤◌}
use Rattle.wax_query.specs.{Components.BeginsWithSlash, declared.query.when.When.TheVariants.Always}
use Rattle.wax_token.specs.Meaning.{Copies, LeafMeans, Means, MeansEach, MeansSome}
use Rattle.wax_token.specs.Syntax.{Leaf, Tree, Trees, alternation, class, concatenation, leaf, literal, more}
use Rattle.wax_token.specs.Syntax.{none, one, repetition, separator, tree, zero_or_more}
use Rattle.wax_facts.specs.Root.{leaf_root, root, root_first, root_some}
use Rattle.wax_facts.proofs.Whens.{certain, never_always, optional_never}

pub begins_append : (s x y : List ℕ) → s ≡ x ++ y → BeginsWithSlash x → BeginsWithSlash s
begins_append s x y e b = (b.0 ++ y, e ∙ ap (λ z. z ++ y) b.1)

root_copies : (Body : Bool → Bool → List ℕ → Type 0)
    → ((after : Bool) (s : List ℕ) → Body false after s → BeginsWithSlash s)
    → (k : ℕ) (after : Bool) (s : List ℕ) → 1 ≤ k → Copies k Body false after s → BeginsWithSlash s
root_copies Body f zero after s le h = absurd (omega (arith, le))
root_copies Body f (suc zero) after s le h = f after s h
root_copies Body f (suc (suc k)) after s le h = begins_append s h.0 h.1 h.2 (f true h.0 h.3)

root_leaf : (l : Leaf) (after : Bool) (s : List ℕ) → leaf_root l ≡ Always
    → LeafMeans l false after s → BeginsWithSlash s
root_leaf (literal insensitive t) after s e h = never_always e
root_leaf (class negated xs) after s e h = never_always e
root_leaf separator after s e h = ([], h)
root_leaf one after s e h = never_always e
root_leaf (zero_or_more evaluation) after s e h = never_always e
root_leaf (tree true) false s e h = h
root_leaf (tree true) true s e h = h.0
root_leaf (tree false) after s e h = never_always e

mutual
  pub root_sound : {A : Type 0} (t : Tree A) → root t ≡ Always → (after : Bool) (s : List ℕ)
      → Means t false after s → BeginsWithSlash s
  root_sound (leaf a l) e after s h = root_leaf l after s e h
  root_sound (alternation a ts) e after s h = root_some_sound ts e after s h
  root_sound (concatenation a ts) e after s h = root_first_sound ts e after s h
  root_sound (repetition a t zero high) e after s h = optional_never (root t) e
  root_sound (repetition a t (suc low) high) e after s h =
      root_copies (Means t) (λ f u m. root_sound t e f u m) h.0 after s (omega (arith, h.1)) h.3

  root_some_sound : {A : Type 0} (ts : Trees A) → root_some ts ≡ Always → (after : Bool) (s : List ℕ)
      → MeansSome ts false after s → BeginsWithSlash s
  root_some_sound none e after s h = absurd h
  root_some_sound (more t none) e after s h = elim h [ inl m ↦ root_sound t e after s m | inr m ↦ absurd m ]
  root_some_sound (more t (more u us)) e after s h =
      let p : (root t ≡ Always) × (root_some (more u us) ≡ Always) =
      certain (root t) (root_some (more u us)) e in
      elim h [ inl m ↦ root_sound t p.0 after s m | inr m ↦ root_some_sound (more u us) p.1 after s m ]

  root_first_sound : {A : Type 0} (ts : Trees A) → root_first ts ≡ Always → (after : Bool) (s : List ℕ)
      → MeansEach ts false after s → BeginsWithSlash s
  root_first_sound none e after s h = never_always e
  root_first_sound (more t none) e after s h = root_sound t e after s h
  root_first_sound (more t (more u us)) e after s h =
      begins_append s h.0 h.1 h.2 (root_sound t e true h.0 h.3)
