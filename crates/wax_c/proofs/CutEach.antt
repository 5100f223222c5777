-- Bytes that are cut into parts, one after another.
use Rattle.std.proofs.Common.{◌≡◌, ◌<◌, ℕ, zero, suc, ◌+◌, List, [], ◌∷◌, ◌++◌, Some, slice_get, get_or, take}
use Rattle.std.proofs.Common.{drop, length, min, refl, sym, ◌∙◌, ap, subst, subst₂, arith}
use Rattle.std.proofs.lemmas.List.{drop_more, drop_min, take_min}
use Rattle.std.specs.List.{AllZip}
use Rattle.wax_c.specs.Sets.{cut_each}

pub length-cut_each : (bytes ns : List ℕ) → length (cut_each bytes ns) ≡ length ns
length-cut_each bytes [] = refl
length-cut_each bytes (n ∷ ns) = ap suc (length-cut_each (drop n bytes) ns)

head_of : {X : Type 0} → X → List X → X
head_of d [] = d
head_of d (x ∷ xs) = x

tail_of : {X : Type 0} → List X → List X
tail_of [] = []
tail_of (x ∷ xs) = xs

-- What a list is around the place k where this item is, before the place j.
pub record IsNext {X : Type 0} (xs : List X) (k j : ℕ) (y : X) (ys : List X) : Type 0 where
  pub front : take j xs ≡ take k xs ++ y ∷ []
  pub item : slice_get xs k ≡ Some y
  pub rest : drop j xs ≡ ys

next_at : {X : Type 0} (xs : List X) (k : ℕ) (y : X) (ys : List X) → drop k xs ≡ y ∷ ys
    → IsNext xs k (suc k) y ys
unfolding head_of tail_of
next_at [] zero y ys e = absurd (omega (arith, ap length e))
next_at (x ∷ xs) zero y ys e = record {
  front = ap (λ z. z ∷ []) (ap (head_of x) e);
  item = ap Some (ap (head_of x) e);
  rest = ap tail_of e;
}
next_at [] (suc k) y ys e = absurd (omega (arith, ap length e))
next_at (x ∷ xs) (suc k) y ys e = let p = next_at xs k y ys e in record {
  front = ap (λ z. x ∷ z) p.front;
  item = p.item;
  rest = p.rest;
}

-- the next part, of all parts
pub cut_next : (bytes ns : List ℕ) (parts : List (List ℕ)) (k n : ℕ)
    → drop k parts ≡ cut_each bytes (drop k ns) → k < length ns
    → get_or ns k 0 ≡ n → IsNext parts k (k + 1) (take n bytes) (cut_each (drop n bytes) (drop (k + 1) ns))
cut_next bytes ns parts k n e within is =
    let on : suc k ≡ k + 1 = omega arith in
    subst (λ j. IsNext parts k j (take n bytes) (cut_each (drop n bytes) (drop (k + 1) ns))) on
    (next_at parts k (take n bytes) _ (e ∙ ap (cut_each bytes) (drop_more ns k 0 within)
    ∙ ap (λ m. take m bytes ∷ cut_each (drop m bytes) (drop (k + 1) ns)) is))

-- the next part, of so many bytes as are left at most
pub part_next : (bytes ns : List ℕ) (parts : List (List ℕ)) (k m : ℕ) (front back : List ℕ)
    → drop k parts ≡ cut_each bytes (drop k ns)
    → k < length ns → m ≡ min (get_or ns k 0) (length bytes) → front ≡ take m bytes → back ≡ drop m bytes
    → IsNext parts k (k + 1) front (cut_each back (drop (k + 1) ns))
part_next bytes ns parts k m front back e within least in_front behind =
    let n = get_or ns k 0 in
    let taken = in_front ∙ ap (λ j. take j bytes) least ∙ take_min n bytes in
    let dropped = behind ∙ ap (λ j. drop j bytes) least ∙ drop_min n bytes in
    subst₂ (λ x y. IsNext parts k (k + 1) x (cut_each y (drop (k + 1) ns))) (sym taken) (sym dropped)
    (cut_next bytes ns parts k n e within refl)

pub AllZip-more : {A B : Type 0} (R : A → B → Type 0) (xs : List A) (ys : List B) (x : A) (y : B)
    → AllZip R xs ys → R x y
    → AllZip R (xs ++ x ∷ []) (ys ++ y ∷ [])
AllZip-more R [] [] x y all r = (r, tt)
AllZip-more R (a ∷ xs) (b ∷ ys) x y all r = (all.0, AllZip-more R xs ys x y all.1 r)
AllZip-more R [] (b ∷ ys) x y all r = absurd all
AllZip-more R (a ∷ xs) [] x y all r = absurd all
