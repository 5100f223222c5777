-- Without their annotations, tokens mean what they meant.
use Rattle.std.proofs.Common.{◌≡◌, ◌↔◌, ◌≤◌, ◌⊎◌, ◌∙◌, ℕ, Bool, true, List, [], ◌∷◌, ◌++◌, Some, map, refl}
use Rattle.std.proofs.Common.{sym, subst, ap}
use Rattle.std.specs.Prelude.{⊤}
use Rattle.wax_query.specs.Ranges.{AtMost}
use Rattle.wax_token.specs.Meaning.{Copies, Means, MeansEach, MeansSome}
use Rattle.wax_token.specs.Syntax.{Tree, leaf, alternation, concatenation, repetition, Trees, none, more}
use Rattle.wax_token.specs.Words.{trees}
use Rattle.wax_fold.specs.{Bare.{bare, bare_each, baring}, Branches.repeated, Folded.listed_term}
use Rattle.wax_fold.specs.Mapped.{mapped, mapped_each}

module _ {A : Type 0} where
  mutual
    pub mapped_bare : (t : Tree A) → mapped baring t ≡ Some (bare t)
    mapped_bare (leaf a l) = refl
    mapped_bare (alternation a ts) = ap (λ z. Some (alternation tt z)) (each_bare ts)
    mapped_bare (concatenation a ts) = ap (λ z. Some (concatenation tt z)) (each_bare ts)
    mapped_bare (repetition a t low high) = ap (λ z. repeated low high (listed_term z) tt) (mapped_bare t)

    each_bare : (ts : Trees A) → trees (mapped_each baring ts) ≡ bare_each ts
    each_bare none = refl
    each_bare (more t ts) =
        ap (λ z. trees (listed_term z ++ mapped_each baring ts)) (mapped_bare t)
        ∙ ap (more (bare t)) (each_bare ts)

  mutual
    means_bare : (t : Tree A) (b f : Bool) (s : List ℕ) → Means (bare t) b f s ≡ Means t b f s
    means_bare (leaf a l) b f s = refl
    means_bare (alternation a ts) b f s = some_bare ts b f s
    means_bare (concatenation a ts) b f s = means_each_bare ts b f s
    means_bare (repetition a t low high) b f s =
        λ i. (n : ℕ) × (low ≤ n) × AtMost n high × Copies n (λ c d u. means_bare t c d u i) b f s

    some_bare : (ts : Trees A) (b f : Bool) (s : List ℕ) → MeansSome (bare_each ts) b f s ≡ MeansSome ts b f s
    some_bare none b f s = refl
    some_bare (more t ts) b f s = λ i. means_bare t b f s i ⊎ some_bare ts b f s i

    means_each_bare : (ts : Trees A) (b f : Bool) (s : List ℕ)
        → MeansEach (bare_each ts) b f s ≡ MeansEach ts b f s
    means_each_bare none b f s = refl
    means_each_bare (more t none) b f s = means_bare t b f s
    means_each_bare (more t (more u us)) b f s =
        λ i. (x : List ℕ) × (y : List ℕ) × (s ≡ x ++ y) × means_bare t b true x i
        × means_each_bare (more u us) true f y i

  -- of a list
  some_of_bare : {X : Type 0} (token : X → Tree A) (xs : List X) (b f : Bool) (s : List ℕ) →
      MeansSome (trees (map (λ x. bare (token x)) xs)) b f s ≡ MeansSome (trees (map token xs)) b f s
  some_of_bare token [] b f s = refl
  some_of_bare token (x ∷ xs) b f s = λ i. means_bare (token x) b f s i ⊎ some_of_bare token xs b f s i

  pub means_combined : {X : Type 0} (token : X → Tree A) (xs : List X) (t : Tree ⊤) →
      t ≡ alternation tt (trees (map (λ x. bare (token x)) xs)) → (b f : Bool) (s : List ℕ) →
      Means t b f s ↔ MeansSome (trees (map token xs)) b f s
  means_combined token xs t e b f s =
      let old = MeansSome (trees (map token xs)) b f s in
      subst (λ z. Means z b f s ↔ old) (sym e)
      (subst (λ Z. Z ↔ old) (sym (some_of_bare token xs b f s)) (λ m. m, λ m. m))
