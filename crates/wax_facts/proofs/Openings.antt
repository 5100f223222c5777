-- Which last tokens stand open.
use Rattle.std.proofs.Common.{◌≡◌, ◌≢◌, ℕ, zero, suc, List, [], ◌∷◌, length, Option, Some, None, slice_get}
use Rattle.std.proofs.Common.{refl, sym, ◌∙◌, ap, subst, arith}
use Rattle.wax_token.specs.Syntax.{Tree, leaf, alternation, concatenation, repetition, Trees, none, more}
use Rattle.wax_token.specs.{Words.{members, trees}, Kinds.is_tree_wildcard}
use Rattle.wax_facts.specs.{Prefix.{opened, opened_last}, Rest.begins_with_tree, inner.Bodies.open_body}
use Rattle.wax_facts.specs.inner.Opening.{IsOpened}

pub closed_branches : {A : Type 0} (a : A) (ts : List (Tree A)) → length ts ≢ 1
    → open_body (alternation a (trees ts)) ≡ None
closed_branches a [] e = refl
closed_branches a (t ∷ []) e = absurd (e (omega arith))
closed_branches a (t ∷ u ∷ ts) e = refl

pub closed_copies : {A : Type 0} (a : A) (t : Tree A) (low : ℕ) (high : Option ℕ)
    → (low ≡ 1 → high ≡ Some 1 → ⊥) → open_body (repetition a t low high) ≡ None
closed_copies a t zero high e = refl
closed_copies a t (suc zero) None e = refl
closed_copies a t (suc zero) (Some zero) e = refl
closed_copies a t (suc zero) (Some (suc zero)) e = absurd (e refl refl)
closed_copies a t (suc zero) (Some (suc (suc n))) e = refl
closed_copies a t (suc (suc low)) high e = refl

-- the first token of the opened list
pub opened_cons : {A : Type 0} (t : Tree A) (ts : Trees A) → IsOpened (more t ts)
    → opened_last (more t ts) ≡ more t (opened_last ts)
opened_cons t none e = e
opened_cons t (more u us) e = refl

pub opened_several : {A : Type 0} (ts : List (Tree A)) → length ts ≢ 1 → IsOpened (trees ts)
opened_several [] e = tt
opened_several (t ∷ []) e = absurd (e (omega arith))
opened_several (t ∷ u ∷ ts) e = tt

pub left_cons : {A : Type 0} (ts : List (Tree A)) (t : Tree A) (us : List (Tree A)) → ts ≡ t ∷ us
    → IsOpened (trees ts) →
    opened_last (trees ts) ≡ more t (opened_last (trees us))
left_cons ts t us e h = ap (λ z. opened_last (trees z)) e
    ∙ opened_cons t (trees us) (subst (λ z. IsOpened (trees z)) e h)

pub first_tree : {A : Type 0} (ts : List (Tree A)) (t : Tree A) → slice_get ts 0 ≡ Some t
    → IsOpened (trees ts) → is_tree_wildcard t ≡ begins_with_tree (opened_last (trees ts))
first_tree [] t e h = absurd (let f : ⊥ = cc in f)
first_tree (u ∷ ts) t e h = let f : u ≡ t = cc in
    ap is_tree_wildcard (sym f) ∙ ap begins_with_tree (sym (opened_cons u (trees ts) h))

-- a glob's opened list is that of its tokens
pub opened_members : {A : Type 0} (t : Tree A) → opened_last (members t) ≡ opened t
opened_members (leaf a l) = refl
opened_members (alternation a ts) = refl
opened_members (concatenation a ts) = refl
opened_members (repetition a t low high) = refl
