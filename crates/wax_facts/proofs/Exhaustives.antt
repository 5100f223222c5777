-- Where it is sure, what lies below each meant text is meant too.
use Rattle.std.proofs.Common.{Bool, List, ap, append_assoc, arith, false, inl, inr, refl, suc, true, zero, ℕ}
use Rattle.std.proofs.Common.{◌++◌, ◌∙◌, ◌∷◌, ◌≡◌, ◌≤◌}
use Rattle.wax_token.specs.Meaning.{Copies, LeafMeans, Means, MeansEach, MeansSome}
use Rattle.wax_token.specs.Syntax.{Leaf, Tree, Trees, alternation, class, concatenation, leaf, literal, more}
use Rattle.wax_token.specs.Syntax.{none, one, repetition, separator, tree, zero_or_more}
use Rattle.wax_query.specs.declared.query.when.When.TheVariants.{Always}
use Rattle.wax_facts.specs.Exhaustive.{exhaustive, exhaustive_last, exhaustive_some, leaf_exhaustive}
use Rattle.wax_facts.proofs.{Roots.begins_append, Whens.{certain, never_always, optional_never}}

module _ (r : List ℕ) where
  abbrev Below : (List ℕ → Type 0) → List ℕ → Type 0
  Below P s = P (s ++ 47 ∷ r)

  exhaustive_leaf : (l : Leaf) (before : Bool) (s : List ℕ) → leaf_exhaustive l ≡ Always
      → LeafMeans l before false s → LeafMeans l before false (s ++ 47 ∷ r)
  exhaustive_leaf (literal insensitive t) before s e h = never_always e
  exhaustive_leaf (class negated xs) before s e h = never_always e
  exhaustive_leaf separator before s e h = never_always e
  exhaustive_leaf one before s e h = never_always e
  exhaustive_leaf (zero_or_more evaluation) before s e h = never_always e
  exhaustive_leaf (tree false) false s e h = tt
  exhaustive_leaf (tree true) false s e h = begins_append (s ++ 47 ∷ r) s (47 ∷ r) refl h
  exhaustive_leaf (tree rooted) true s e (inl h) = inr (r, ap (λ z. z ++ 47 ∷ r) h)
  exhaustive_leaf (tree rooted) true s e (inr h) = inr (begins_append (s ++ 47 ∷ r) s (47 ∷ r) refl h)

  exhaustive_copies : (Body : Bool → Bool → List ℕ → Type 0)
      → ((before : Bool) (s : List ℕ) → Body before false s → Body before false (s ++ 47 ∷ r)) →
      (k : ℕ) (before : Bool) (s : List ℕ) → 1 ≤ k → Copies k Body before false s
      → Copies k Body before false (s ++ 47 ∷ r)
  exhaustive_copies Body f zero before s le h = absurd (omega (arith, le))
  exhaustive_copies Body f (suc zero) before s le h = f before s h
  exhaustive_copies Body f (suc (suc k)) before s le h = (
    h.0,
    h.1 ++ 47 ∷ r,
    ap (λ z. z ++ 47 ∷ r) h.2 ∙ append_assoc h.0 h.1 (47 ∷ r),
    h.3,
    exhaustive_copies Body f (suc k) true h.1 (omega arith) h.4,
  )

  mutual
    pub exhaustive_sound : {A : Type 0} (t : Tree A) → exhaustive t ≡ Always → (before : Bool) (s : List ℕ)
        → Means t before false s → Means t before false (s ++ 47 ∷ r)
    exhaustive_sound (leaf a l) e before s h = exhaustive_leaf l before s e h
    exhaustive_sound (alternation a ts) e before s h = exhaustive_some_sound ts e before s h
    exhaustive_sound (concatenation a ts) e before s h = exhaustive_last_sound ts e before s h
    exhaustive_sound (repetition a t zero high) e before s h = optional_never (exhaustive t) e
    exhaustive_sound (repetition a t (suc low) high) e before s h = (
      h.0,
      h.1,
      h.2,
      exhaustive_copies (Means t) (λ b u m. exhaustive_sound t e b u m) h.0 before s (omega (arith, h.1)) h.3,
    )

    exhaustive_some_sound : {A : Type 0} (ts : Trees A) → exhaustive_some ts ≡ Always
        → (before : Bool) (s : List ℕ) → MeansSome ts before false s → MeansSome ts before false (s ++ 47 ∷ r)
    exhaustive_some_sound none e before s h = absurd h
    exhaustive_some_sound (more t none) e before s h =
        elim h [ inl m ↦ inl (exhaustive_sound t e before s m) | inr m ↦ absurd m ]
    exhaustive_some_sound (more t (more u us)) e before s h =
        let p : (exhaustive t ≡ Always) × (exhaustive_some (more u us) ≡ Always) =
        certain (exhaustive t) (exhaustive_some (more u us)) e in
        elim h [
          | inl m ↦ inl (exhaustive_sound t p.0 before s m)
          | inr m ↦ inr (exhaustive_some_sound (more u us) p.1 before s m)
        ]

    exhaustive_last_sound : {A : Type 0} (ts : Trees A) → exhaustive_last ts ≡ Always
        → (before : Bool) (s : List ℕ) → MeansEach ts before false s → MeansEach ts before false (s ++ 47 ∷ r)
    exhaustive_last_sound none e before s h = never_always e
    exhaustive_last_sound (more t none) e before s h = exhaustive_sound t e before s h
    exhaustive_last_sound (more t (more u us)) e before s h = (
      h.0,
      h.1 ++ 47 ∷ r,
      ap (λ z. z ++ 47 ∷ r) h.2 ∙ append_assoc h.0 h.1 (47 ∷ r),
      h.3,
      exhaustive_last_sound (more u us) e true h.1 h.4,
    )
