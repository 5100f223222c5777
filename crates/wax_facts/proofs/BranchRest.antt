-- If the first token is a branch that always begins with `/`, the rest matches what the glob matches.
use Rattle.std.proofs.Common.{List, [], false, inl, inr, refl, subst, sym, ℕ, ◌↔◌, ◌∷◌, ◌≡◌}
use Rattle.wax_token.specs.Meaning.{Means, MeansEach}
use Rattle.wax_token.specs.Syntax.{Tree, Trees, alternation, concatenation, leaf, more, none, repetition}
use Rattle.wax_facts.specs.{Joined.begins_with_leaf, Orderly.{Flat, Full, IsSome}}
use Rattle.wax_facts.specs.Prefix.{IsRooted, Prefix, PrefixOf, opened}
use Rattle.wax_facts.specs.Rest.{begins_with_tree, rest, unrooted}
use Rattle.wax_facts.proofs.{OpenedMeans.{opened_from, opened_to}, Trees.unrooted_plain}
use Rattle.wax_facts.proofs.WrittenRest.{rest_same}

-- a list whose first token is a branch doesn't begin with `**`
plain_branch : {A : Type 0} (ts : Trees A) → IsRooted ts → begins_with_leaf ts ≡ false
    → begins_with_tree ts ≡ false
plain_branch none h e = absurd h
plain_branch (more (leaf a l) ts) h e = absurd (let f : ⊥ = cc in f)
plain_branch (more (alternation a us) ts) h e = refl
plain_branch (more (concatenation a us) ts) h e = refl
plain_branch (more (repetition a t low high) ts) h e = refl

rooted_some : {A : Type 0} (ts : Trees A) → IsRooted ts → IsSome ts
rooted_some none h = h
rooted_some (more t ts) h = tt

rooted_none_taken : {A : Type 0} (ts : Trees A) (n : ℕ) (p : List ℕ) → PrefixOf ts n p → IsRooted ts
    → (n ≡ 0) × (p ≡ 47 ∷ [])
rooted_none_taken ts n p (inl h) g = (h.1, h.2)
rooted_none_taken ts n p (inr h) g = absurd (h.0 g)

pub branch_rest : {A : Type 0} (t : Tree A) (n : ℕ) (p r : List ℕ) → Full t → Flat t → Prefix t n p
    → IsRooted (opened t) → begins_with_leaf (opened t) ≡ false →
    MeansEach (rest t n) false false r ↔ Means t false false r
branch_rest t n p r full flat h g e =
    subst (λ k. MeansEach (rest t k) false false r ↔ Means t false false r)
    (sym (rooted_none_taken (opened t) n p h g).0)
    (let k : MeansEach (rest t 0) false false r ↔ MeansEach (unrooted (opened t)) false false r =
    rest_same t 0 r full flat (rooted_some (opened t) g) in
    let j : unrooted (opened t) ≡ opened t = unrooted_plain (opened t) (plain_branch (opened t) g e) in (
      (λ m. opened_from t full false false r (subst (λ z. MeansEach z false false r) j (k.0 m))),
      λ m. k.1 (subst (λ z. MeansEach z false false r) (sym j) (opened_to t full false false r m)),
    ))
