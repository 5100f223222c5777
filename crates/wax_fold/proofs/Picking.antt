-- Items that are taken from a list one by one, or picked by their places.
use Rattle.std.proofs.Common.{◌≡◌, ℕ, ◌+◌, List, [], ◌∷◌, ◌++◌, map, drop, take, get_or, slice_get, length}
use Rattle.std.proofs.Common.{◌<◌, arith, zero, suc, refl, sym, ◌∙◌, ap, reverse}
use Rattle.std.proofs.{lemmas.List.{map-append, reverse-append}, lemmas.Grind.flat_map-append}
use Rattle.std.specs.List.{flat_map}
use Rattle.wax_fold.specs.{Branches.picked, Folded.listed_term, Sequences.places}

-- the item at an index, and those after it
pub next_given : {X Y : Type 0} (f : X → Y) (xs : List X) (i : ℕ) (x : X) → i < length xs
    → x ≡ get_or xs i x →
    drop i (map f xs) ≡ f x ∷ drop (i + 1) (map f xs)
next_given f [] i x h e = absurd (omega (arith, h))
next_given f (y ∷ xs) zero x h e = ap (λ z. f z ∷ map f xs) (sym e)
next_given f (y ∷ xs) (suc i) x h e =
    let n : suc i + 1 ≡ suc (i + 1) = omega arith in
    next_given f xs i x (omega (arith, h)) e ∙ ap (λ k. f x ∷ drop k (f y ∷ map f xs)) (sym n)

-- what is picked of results is the results of what is picked
one_mapped : {X Y Z : Type 0} (h : Y → List Z) (g : X → Y) (n : ℕ) (xs : List X) →
    flat_map h (take 1 (drop n (map g xs))) ≡ flat_map (λ x. h (g x)) (take 1 (drop n xs))
one_mapped h g zero [] = refl
one_mapped h g (suc n) [] = refl
one_mapped h g zero (x ∷ xs) = refl
one_mapped h g (suc n) (x ∷ xs) = one_mapped h g n xs

pub picked_mapped : {X Y Z : Type 0} (h : Y → List Z) (g : X → Y) (ns : List ℕ) (xs : List X) →
    flat_map h (picked ns (map g xs)) ≡ flat_map (λ x. h (g x)) (picked ns xs)
picked_mapped h g [] xs = refl
picked_mapped h g (n ∷ ns) xs =
    flat_map-append h (take 1 (drop n (map g xs))) (picked ns (map g xs))
    ∙ ap (λ z. z ++ flat_map h (picked ns (map g xs))) (one_mapped h g n xs)
    ∙ ap (λ z. flat_map (λ x. h (g x)) (take 1 (drop n xs)) ++ z) (picked_mapped h g ns xs)
    ∙ sym (flat_map-append (λ x. h (g x)) (take 1 (drop n xs)) (picked ns xs))

-- what stands at one place
pub got : {X : Type 0} (xs : List X) (n : ℕ) → listed_term (slice_get xs n) ≡ picked (n ∷ []) xs
got [] zero = refl
got [] (suc n) = refl
got (x ∷ xs) zero = refl
got (x ∷ xs) (suc n) = got xs n

-- what stands at all places
later_picked : {X : Type 0} (ns : List ℕ) (x : X) (xs : List X) → picked (map suc ns) (x ∷ xs) ≡ picked ns xs
later_picked [] x xs = refl
later_picked (n ∷ ns) x xs = ap (λ z. take 1 (drop n xs) ++ z) (later_picked ns x xs)

pub all_picked : {X : Type 0} (xs : List X) → picked (places xs) xs ≡ xs
all_picked [] = refl
all_picked (x ∷ xs) = ap (λ z. x ∷ z) (later_picked (places xs) x xs ∙ all_picked xs)

-- the last of a list is the first of the list turned round
pub last_first : {X : Type 0} (old new : List X) (x : X) → old ≡ new ++ x ∷ [] → reverse old ≡ x ∷ reverse new
last_first old new x e = ap reverse e ∙ reverse-append new (x ∷ [])

-- one more item at the end
pub mapped_last : {X Y : Type 0} (f : X → Y) (all xs : List X) (x : X) → all ≡ xs ++ x ∷ []
    → map f all ≡ map f xs ++ f x ∷ []
mapped_last f all xs x e = ap (map f) e ∙ map-append f xs (x ∷ [])
