-- What opening a branch leaves.
use Rattle.std.proofs.Common.{◌≡◌, ◌≢◌, ◌+◌, List, [], ◌∷◌, Some, None, length, refl, ap}
use Rattle.wax_token.specs.Kinds.{alternation_of}
use Rattle.wax_token.specs.Syntax.{Tree, leaf, alternation, concatenation, repetition, Trees, tree_size}
use Rattle.wax_token.specs.{Syntax.trees_size, Words.trees}
use Rattle.wax_facts.specs.{Alternatives.{levels, levels_each}, inner.Opened.own_levels}

-- alternations and concatenations of none or of several are no other token
pub own_alternation : {A : Type 0} (a : A) (ts : List (Tree A)) → length ts ≢ 1 →
    own_levels (alternation a (trees ts)) ≡ levels (alternation a (trees ts))
own_alternation a [] n = refl
own_alternation a (t ∷ []) n = absurd (n refl)
own_alternation a (t ∷ u ∷ us) n = refl

pub own_concatenation : {A : Type 0} (a : A) (ts : List (Tree A)) → length ts ≢ 1 →
    own_levels (concatenation a (trees ts)) ≡ levels (concatenation a (trees ts))
own_concatenation a [] n = refl
own_concatenation a (t ∷ []) n = absurd (n refl)
own_concatenation a (t ∷ u ∷ us) n = refl

-- an alternation's branches are a level below it
pub own_branches : {A : Type 0} (t : Tree A) (ts : Trees A) → Some ts ≡ alternation_of t →
    (own_levels t ≡ [] ∷ levels_each ts) × (tree_size t ≡ trees_size ts + 1)
own_branches (leaf a l) ts e = absurd (let f : ⊥ = cc in f)
own_branches (alternation a us) ts e = let f : us ≡ ts = cc in
    (ap (λ z. [] ∷ levels_each z) f, ap (λ z. trees_size z + 1) f)
own_branches (concatenation a us) ts e = absurd (let f : ⊥ = cc in f)
own_branches (repetition a t low high) ts e = absurd (let f : ⊥ = cc in f)

-- any other token is the only one of its levels
pub own_alone : {A : Type 0} (t : Tree A) → None ≡ alternation_of t → own_levels t ≡ (t ∷ []) ∷ []
own_alone (leaf a l) e = refl
own_alone (alternation a ts) e = absurd (let f : ⊥ = cc in f)
own_alone (concatenation a ts) e = refl
own_alone (repetition a t low high) e = refl
