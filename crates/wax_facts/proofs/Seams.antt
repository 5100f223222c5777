-- There is a `/` next to the prefix.
use Rattle.std.proofs.Common.{Bool, List, None, Option, Some, [], ap, append-nil, false, inl, inr, refl}
use Rattle.std.proofs.Common.{subst, suc, sym, true, zero, ℕ, ◌++◌, ◌∙◌, ◌≡◌, ◌⊎◌}
use Rattle.wax_query.specs.Components.{BeginsWithSlash, EndsWithSlash}
use Rattle.wax_token.specs.{Meaning.{Means, MeansEach}, Syntax.{Tree, Trees, leaf, more, none, tree}}
use Rattle.wax_facts.specs.{Joined.{IsSeam, Front}, Orderly.IsSome}
use Rattle.wax_facts.specs.Prefix.{Cut, Prefix, PrefixOf, opened, or_nothing}
use Rattle.wax_facts.specs.Rest.{after, begins_with_tree}
use Rattle.wax_facts.proofs.{CutEnds.ends_at, Fronts.{FrontText, cut_text, take_to}, Lists.same_nil}
use Rattle.wax_facts.proofs.{OpenedMeans.opened_meant, PrefixSound.prefix_sound, TextSound.text_sound}
use Rattle.wax_facts.proofs.Trees.{BeginsWithTree, begins_so}

abbrev pub Seam : List ℕ → List ℕ → Type 0
Seam p s = (q : List ℕ) × (s ≡ p ++ q) × IsSeam p q

-- all tokens are taken
pub front_all : {A : Type 0} (n : ℕ) (ts : Trees A) (p : List ℕ) → FrontText n ts p
    → (IsSome (after n ts) → ⊥) → (b f : Bool) (s : List ℕ) → MeansEach ts b f s → s ≡ p
front_all zero none p h past b f s m = m ∙ sym h
front_all zero (more t ts) p h past b f s m = absurd (past tt)
front_all (suc n) none p h past b f s m = absurd h
front_all (suc zero) (more t none) p h past b f s m =
    text_sound t h.0 h.3 b f s m ∙ sym (h.2 ∙ ap (λ z. h.0 ++ z) h.4 ∙ append-nil h.0)
front_all (suc (suc n)) (more t none) p h past b f s m = absurd h.4
front_all (suc n) (more t (more u us)) p h past b f s m =
    m.2 ∙ ap (λ z. z ++ m.1) (text_sound t h.0 h.3 b true m.0 m.3)
    ∙ ap (λ z. h.0 ++ z) (front_all n (more u us) h.1 h.4 past true f m.1 m.4) ∙ sym h.2

tree_seam : {A : Type 0} (a : A) (rooted : Bool) (vs : Trees A) (g : Bool) (q : List ℕ)
    → MeansEach (more (leaf a (tree rooted)) vs) true g q → (q ≡ []) ⊎ BeginsWithSlash q
tree_seam a rooted none false q m = m
tree_seam a rooted none true q m = inr m.0
tree_seam a rooted (more u us) g q m = inr (m.3.0.0 ++ m.1, m.2 ∙ ap (λ z. z ++ m.1) m.3.0.1)

some_or : {A : Type 0} (ts : Trees A) → IsSome ts ⊎ (IsSome ts → ⊥)
some_or none = inr (λ h. h)
some_or (more t ts) = inl tt

module _ {A : Type 0} (ts : Trees A) (p q : List ℕ) (g : Bool) (m : MeansEach ts false g (p ++ q)) where
  front_seam : (n : ℕ) → FrontText n ts p
      → (IsSome (after n ts) → begins_with_tree (after n ts) ≡ false → EndsWithSlash p) → IsSeam p q
  front_seam zero h ends = inl (inl h)
  front_seam (suc n) h ends = elim (some_or (after (suc n) ts)) [
    | inr past ↦ inr (inl (same_nil p q (front_all (suc n) ts p h past false g (p ++ q) m)))
    | inl some ↦ (elim (begins_with_tree (after (suc n) ts))
        as (λ b. begins_with_tree (after (suc n) ts) ≡ b → IsSeam p q) [
          | false ↦ λ e. inl (inr (ends some e))
          | true ↦ λ e. (let v : BeginsWithTree (after (suc n) ts) = begins_so (after (suc n) ts) e in
              inr (tree_seam v.0 v.1 v.2 g q
              (subst (λ z. MeansEach z true g q) v.3 (take_to (suc n) ts p h some false g q m))))
        ] refl)
  ]

  cut_seam : (cut : Option (ℕ × List ℕ)) → Cut ts cut → p ≡ (or_nothing cut).1 → IsSeam p q
  cut_seam None c e = inl (inl e)
  cut_seam (Some cut) c e =
      front_seam cut.0 (subst (FrontText cut.0 ts) (sym e) (cut_text ts (Some cut) c))
      (λ some b. subst EndsWithSlash (sym e) (ends_at ts (Some cut) c some b))

  list_seam : (n : ℕ) → PrefixOf ts n p → IsSeam p q
  list_seam n (inl h) = inl (inr ([], h.2))
  list_seam n (inr h) = cut_seam h.1.0 h.1.1 h.1.3

pub prefix_seam : {A : Type 0} (t : Tree A) (n : ℕ) (p s : List ℕ) → Prefix t n p
    → Means t false false s → Seam p s
prefix_seam t n p s h m =
    let k : Front p s = prefix_sound t n p s h m in
    let o : (g : Bool) × MeansEach (opened t) false g s = opened_meant t false false s m in
    (k.0, k.1, list_seam (opened t) p k.0 o.0 (subst (MeansEach (opened t) false o.0) k.1 o.1) n h)
