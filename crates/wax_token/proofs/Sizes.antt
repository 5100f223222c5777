-- A token of a row is smaller than the row.
use Rattle.std.proofs.Common.{◌<◌, ◌*◌, ◌≤◌, ◌+◌, ◌∷◌, ◌++◌, ◌≡◌, List, ℕ, [], ap, arith, get_or, length, suc}
use Rattle.std.proofs.Common.{zero, refl}
use Rattle.wax_token.specs.{Syntax.{Tree, tree_size, trees_size, alternation, concatenation}, Words.trees}
use Rattle.wax_token.specs.declared.token.Token.TheDeep.{size-Token}
use denote.Param.Weighed.{most}

pub element_size : {A : Type 0} (ts : List (Tree A)) (i : ℕ) (t : Tree A) →
    i < length ts → t ≡ get_or ts i t → tree_size t < trees_size (trees ts)
element_size [] i t h e = omega (arith, h)
element_size (u ∷ ts) zero t h e = let f : tree_size t ≡ tree_size u = ap tree_size e in omega (arith, f)
element_size (u ∷ ts) (suc i) t h e = omega (arith, element_size ts i t (omega (arith, h)) e)

-- a token among others is smaller than all of them
pub among_size : {A : Type 0} (before : List (Tree A)) (t : Tree A) (after all : List (Tree A)) →
    before ++ t ∷ after ≡ all → tree_size t < trees_size (trees all)
among_size [] t after [] e = absurd (let n : ⊥ = cc in n)
among_size [] t after (u ∷ all) e =
    let f : tree_size t ≡ tree_size u = (let g : t ≡ u = cc in ap tree_size g) in omega (arith, f)
among_size (v ∷ before) t after [] e = absurd (let n : ⊥ = cc in n)
among_size (v ∷ before) t after (u ∷ all) e =
    let k : before ++ t ∷ after ≡ all = cc in omega (arith, among_size before t after all k)

size_is : {A : Type 0} (t : Tree A) → size-Token A t ≡ 3 * (tree_size t + 1) + 0
size_is t = refl

most_size : {A : Type 0} (ts : List (Tree A)) → most (size-Token A) ts ≤ 3 * trees_size (trees ts)
most_size [] = omega arith
most_size (t ∷ ts) = omega (arith, size_is t, most_size ts)

-- the tokens of an alternation weigh less than it
pub alternation_weighs : {A : Type 0} (ts : List (Tree A)) (a : A) (t : Tree A) (n : ℕ) →
    t ≡ alternation a (trees ts) → size-Token A t ≡ n → most (size-Token A) ts < n
alternation_weighs ts a t n e f =
    let g : tree_size t ≡ trees_size (trees ts) + 1 = ap tree_size e in
    omega (arith, f, g, size_is t, most_size ts)

-- the tokens of a concatenation weigh less than it
pub concatenation_weighs : {A : Type 0} (ts : List (Tree A)) (a : A) (t : Tree A) (n : ℕ) →
    t ≡ concatenation a (trees ts) → size-Token A t ≡ n → most (size-Token A) ts < n
concatenation_weighs ts a t n e f =
    let g : tree_size t ≡ trees_size (trees ts) + 1 = ap tree_size e in
    omega (arith, f, g, size_is t, most_size ts)
