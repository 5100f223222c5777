-- Elements of lists by their indices.
use Rattle.std.proofs.Common.{◌≡◌, ℕ, zero, suc, ◌+◌, ◌<◌, ◌≤◌, List, [], ◌∷◌, ◌++◌, length, drop, get_or}
use Rattle.std.proofs.{Common.{Some, slice_get, refl, arith, length-drop}, lemmas.Option.slice_get_read}

pub some_same : {X : Type 0} {x y : X} → Some x ≡ Some y → x ≡ y
some_same e = cc

pub slice_left : {X : Type 0} (xs ys : List X) (i : ℕ) → i < length xs
    → slice_get (xs ++ ys) i ≡ slice_get xs i
slice_left [] ys i lt = absurd (omega (arith, lt))
slice_left (x ∷ xs) ys zero lt = refl
slice_left (x ∷ xs) ys (suc i) lt = slice_left xs ys i (omega (arith, lt))

pub slice_seam : {X : Type 0} (xs : List X) (y : X) → slice_get (xs ++ y ∷ []) (length xs) ≡ Some y
slice_seam [] y = refl
slice_seam (x ∷ xs) y = slice_seam xs y

-- what is there
pub slice_got : {X : Type 0} (xs : List X) (i : ℕ) → i < length xs → (x : X) × (slice_get xs i ≡ Some x)
slice_got [] i lt = absurd (omega (arith, lt))
slice_got (x ∷ xs) zero lt = (x, refl)
slice_got (x ∷ xs) (suc i) lt = slice_got xs i (omega (arith, lt))

-- what was read
pub slice_read : {X : Type 0} (xs : List X) (i : ℕ) (x : X) → i < length xs → x ≡ get_or xs i x
    → slice_get xs i ≡ Some x
slice_read xs i x lt e = slice_get_read xs (length xs) i x refl lt e

-- whatever stands for what isn't there
pub read_within : (xs : List ℕ) (i d e : ℕ) → i < length xs → get_or xs i d ≡ get_or xs i e
read_within [] i d e lt = absurd (omega (arith, lt))
read_within (x ∷ xs) zero d e lt = refl
read_within (x ∷ xs) (suc i) d e lt = read_within xs i d e (omega (arith, lt))

-- what ends with the rest of a text ends with the text
pub end_within : (text : List ℕ) (at end : ℕ) → at ≤ length text → end ≤ length (drop at text) + 1
    → at + end ≤ length text + 1
end_within text at end le h = omega (arith, le, h, length-drop at text)
