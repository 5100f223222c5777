-- The levels of tokens, taken one after another.
use Rattle.std.proofs.Common.{◌≡◌, ◌+◌, List, [], ◌∷◌, ◌++◌, refl, sym, ◌∙◌, ap, append_assoc, arith}
use Rattle.wax_token.specs.{Syntax.{Tree, tree_size, trees_size}, Words.trees}
use Rattle.wax_facts.specs.Alternatives.{beside, joined, levels, levels_each}

pub beside_nil : {X : Type 0} (xs : List (List X)) → beside xs [] ≡ xs
beside_nil [] = refl
beside_nil (x ∷ xs) = refl

beside_assoc : {X : Type 0} (xs ys zs : List (List X)) → beside xs (beside ys zs) ≡ beside (beside xs ys) zs
beside_assoc [] ys zs = refl
beside_assoc (x ∷ xs) [] zs = refl
beside_assoc (x ∷ xs) (y ∷ ys) [] = refl
beside_assoc (x ∷ xs) (y ∷ ys) (z ∷ zs) = λ i. sym (append_assoc x y z) i ∷ beside_assoc xs ys zs i

each_append : {A : Type 0} (ts us : List (Tree A)) →
    levels_each (trees (ts ++ us)) ≡ beside (levels_each (trees ts)) (levels_each (trees us))
each_append [] us = refl
each_append (t ∷ ts) us =
    ap (beside (levels t)) (each_append ts us)
    ∙ beside_assoc (levels t) (levels_each (trees ts)) (levels_each (trees us))

pub size_append : {A : Type 0} (ts us : List (Tree A)) →
    trees_size (trees (ts ++ us)) ≡ trees_size (trees ts) + trees_size (trees us)
size_append [] us = omega arith
size_append (t ∷ ts) us = omega (arith, size_append ts us)

pub size_taken : {A : Type 0} (all rest : List (Tree A)) (t : Tree A) → all ≡ t ∷ rest →
    trees_size (trees all) ≡ tree_size t + trees_size (trees rest) + 1
size_taken all rest t e = ap (λ z. trees_size (trees z)) e

-- what the rest of a level gives, and what the levels below it do
abbrev pub still : {A : Type 0} → List (Tree A) → List (Tree A) → List (Tree A)
still below rest = joined (beside ([] ∷ levels_each (trees below)) (levels_each (trees rest)))

pub still_first : {A : Type 0} (rest : List (Tree A)) → still [] rest ≡ joined (levels_each (trees rest))
still_first rest = first (levels_each (trees rest)) where
  first : {X : Type 0} (xs : List (List X)) → joined (beside ([] ∷ []) xs) ≡ joined xs
  first [] = refl
  first (x ∷ xs) = refl

stands : {X : Type 0} (below xs : List (List X)) (x : X) →
    joined (beside ([] ∷ below) (beside ((x ∷ []) ∷ []) xs)) ≡ x ∷ joined (beside ([] ∷ below) xs)
stands below [] x = ap (λ z. x ∷ joined z) (beside_nil below)
stands below (y ∷ xs) x = refl

branches : {X : Type 0} (below inner xs : List (List X)) →
    joined (beside ([] ∷ below) (beside ([] ∷ inner) xs)) ≡ joined (beside ([] ∷ beside below inner) xs)
branches below inner [] = refl
branches below inner (y ∷ xs) = ap (λ z. y ++ joined z) (beside_assoc below inner xs)

-- a token that stands itself is put at the end
pub one_found : {A : Type 0} (found more below left rest all : List (Tree A)) (t u : Tree A) →
    levels t ≡ (u ∷ []) ∷ [] → left ≡ t ∷ rest → more ≡ found ++ u ∷ [] →
    found ++ still below left ≡ all → more ++ still below rest ≡ all
one_found found more below left rest all t u e taken grown h =
    let b : List (List (Tree _)) = levels_each (trees below) in
    let r : List (List (Tree _)) = levels_each (trees rest) in
    ap (λ z. z ++ still below rest) grown
    ∙ append_assoc found (u ∷ []) (still below rest)
    ∙ ap (λ z. found ++ z) (sym (ap (λ z. joined (beside ([] ∷ b) (beside z r))) e ∙ stands b r u))
    ∙ ap (λ z. found ++ still below z) (sym taken)
    ∙ h

-- the branches of an alternation go below
pub branches_below : {A : Type 0} (found below more left rest all : List (Tree A)) (t : Tree A)
    (us : List (Tree A)) → levels t ≡ [] ∷ levels_each (trees us) → left ≡ t ∷ rest → more ≡ below ++ us →
    found ++ still below left ≡ all → found ++ still more rest ≡ all
branches_below found below more left rest all t us e taken grown h =
    let b : List (List (Tree _)) = levels_each (trees below) in
    let u : List (List (Tree _)) = levels_each (trees us) in
    let r : List (List (Tree _)) = levels_each (trees rest) in
    ap (λ z. found ++ still z rest) grown
    ∙ ap (λ z. found ++ joined (beside ([] ∷ z) r)) (each_append below us)
    ∙ ap (λ z. found ++ z) (sym (ap (λ z. joined (beside ([] ∷ b) (beside z r))) e ∙ branches b u r))
    ∙ ap (λ z. found ++ still below z) (sym taken)
    ∙ h
