-- Each text of a glob is the prefix, or the prefix and then a text of the rest.
use Rattle.std.proofs.Common.{Bool, List, [], ap, append-nil, false, inl, inr, refl, rules, subst, sym, true}
use Rattle.std.proofs.Common.{ℕ, ◌++◌, ◌==◌, ◌↔◌, ◌∙◌, ◌∷◌, ◌≡◌, ◌≢◌, ◌⊎◌}
use Rattle.wax_query.specs.Components.{EndsWithSlash}
use Rattle.wax_token.specs.{Meaning.{Means, MeansEach}, Syntax.Tree}
use Rattle.wax_facts.specs.{Joined.{IsSeam, begins_with_leaf, path}, Orderly.{IsSome, Orderly}}
use Rattle.wax_facts.specs.{Prefix.{IsRooted, Prefix, opened}, Rest.{after, rest}}
use Rattle.wax_facts.proofs.{CutFree.orderly_free, Paths.{path_bare, path_ends}, Seams.{Seam, prefix_seam}}
use Rattle.wax_facts.proofs.WrittenRest.{rest_means}

abbrev Kind : List ℕ → Type 0
Kind p = ((p ≡ []) ⊎ EndsWithSlash p) ⊎ ((p ≢ []) × (EndsWithSlash p → ⊥))

kind_of : (p : List ℕ) → Kind p
kind_of [] = inl (inl refl)
kind_of (c ∷ []) = one_kind (c == 47) refl
  where
    last : (t : List ℕ) → c ∷ [] ≡ t ++ 47 ∷ [] → c ≡ 47
    last [] e = cc
    last (d ∷ []) e = absurd (let f : ⊥ = cc in f)
    last (d ∷ k ∷ t) e = absurd (let f : ⊥ = cc in f)

    one_kind : (b : Bool) → (c == 47) ≡ b → Kind (c ∷ [])
    one_kind true e = let f : c ≡ 47 = search (rules, e) in inl (inr ([], ap (λ z. z ∷ []) f))
    one_kind false e = inr (
      (λ f. cc),
      λ h. (let f : (c == 47) ≡ true = ap (λ z. z == 47) (last h.0 h.1) in absurd (let g : ⊥ = cc in g)),
    )
kind_of (c ∷ d ∷ p) = longer (kind_of (d ∷ p))
  where
    tail : (t : List ℕ) → c ∷ d ∷ p ≡ t ++ 47 ∷ [] → EndsWithSlash (d ∷ p)
    tail [] e = absurd (let f : ⊥ = cc in f)
    tail (k ∷ t) e = (t, (let f : d ∷ p ≡ t ++ 47 ∷ [] = cc in f))

    longer : Kind (d ∷ p) → Kind (c ∷ d ∷ p)
    longer (inl (inl e)) = absurd (let f : ⊥ = cc in f)
    longer (inl (inr h)) = inl (inr (c ∷ h.0, ap (λ z. c ∷ z) h.1))
    longer (inr h) = inr ((λ e. cc), λ e. h.1 (tail e.0 e.1))

seam_path : (p q : List ℕ) → IsSeam p q → (p ++ q ≡ p) ⊎ ((r : List ℕ) × (p ++ q ≡ path p r))
seam_path p q seam = by_kind (kind_of p) seam
  where
    by_kind : Kind p → IsSeam p q → (p ++ q ≡ p) ⊎ ((r : List ℕ) × (p ++ q ≡ path p r))
    by_kind (inl (inl e)) h = inr (q, ap (λ z. z ++ q) e ∙ sym (ap (λ z. path z q) e))
    by_kind (inl (inr e)) h = inr (q, sym (path_ends p q e))
    by_kind (inr e) (inl (inl f)) = absurd (e.0 f)
    by_kind (inr e) (inl (inr f)) = absurd (e.1 f)
    by_kind (inr e) (inr (inl f)) = inl (ap (λ z. p ++ z) f ∙ append-nil p)
    by_kind (inr e) (inr (inr f)) = inr (f.0, ap (λ z. p ++ z) f.1 ∙ sym (path_bare p f.0 e.0 e.1))

module _ {A : Type 0} (t : Tree A) (n : ℕ) (p s : List ℕ) (h : Prefix t n p)
    (means : (r : List ℕ) → MeansEach (rest t n) false false r ↔ Means t false false (path p r))
    (m : Means t false false s) where
  abbrev pub Split : Type 0
  Split = (s ≡ p) ⊎ ((r : List ℕ) × (s ≡ path p r) × MeansEach (rest t n) false false r)

  parts : Seam p s → Split
  parts k = elim (seam_path p k.0 k.2) [
    | inl f ↦ inl (k.1 ∙ f)
    | inr f ↦ (let j : MeansEach (rest t n) false false f.0 ↔ Means t false false (path p f.0) = means f.0 in
        inr (f.0, k.1 ∙ f.1, j.1 (subst (Means t false false) (k.1 ∙ f.1) m)))
  ]

  split : Split
  split = parts (prefix_seam t n p s h m)

pub orderly_rest : {A : Type 0} (t : Tree A) (n : ℕ) (p r : List ℕ) → Orderly t → Prefix t n p
    → IsSome (after n (opened t)) →
    (IsRooted (opened t) → begins_with_leaf (opened t) ≡ true) → MeansEach (rest t n) false false r
    ↔ Means t false false (path p r)
orderly_rest t n p r o x some first = rest_means t n p r o.0 o.1 first x some (orderly_free t n p o x)

pub orderly_split : {A : Type 0} (t : Tree A) (n : ℕ) (p s : List ℕ) → Orderly t → Prefix t n p
    → IsSome (after n (opened t)) →
    (IsRooted (opened t) → begins_with_leaf (opened t) ≡ true) → Means t false false s
    → (s ≡ p) ⊎ ((r : List ℕ) × (s ≡ path p r) × MeansEach (rest t n) false false r)
orderly_split t n p s o x some first m = split t n p s x (λ r. orderly_rest t n p r o x some first) m
