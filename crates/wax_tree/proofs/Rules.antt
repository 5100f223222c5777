-- Several rules, one after the other.
use Rattle.std.proofs.Common.{◌≡◌, ℕ, ◌+◌, ◌<◌, suc, Bool, true, false, List, ◌∷◌, length, get_or, drop}
use Rattle.std.proofs.Common.{drop-cons, map, refl, sym, ap, ◌∙◌, arith, Result, Ok, Err, IfOk, IsErrAnd}
use Rattle.std.specs.Prelude.{if◌then◌else◌}
use Rattle.wax_walk.specs.Given.{Mark, kept, alone, with_tree, combined_mark}
use Rattle.wax_tree.specs.Programs.{any_mark}
use Rattle.wax_tree.proofs.Combining.{combined_thrice}

-- the item at a place, and those after it
pub left_at : {A : Type 0} (xs : List A) (i : ℕ) (x : A) → i < length xs → x ≡ get_or xs i x
    → drop i xs ≡ x ∷ drop (i + 1) xs
left_at xs i x l is =
    let next : suc i ≡ i + 1 = omega arith in
    drop-cons xs i x l ∙ (ap (λ z. z ∷ drop (suc i) xs) (sym is) ∙ ap (λ k. x ∷ drop k xs) next)

-- the mark so far: kept, or excluded by itself
abbrev pub so_far : Bool → Mark
so_far b = if b then alone else kept

module _ {C R : Type 0} (rule : R → C → Mark) (f : C) (xs : List R) (i : ℕ) (x : R) (total : Mark)
    (l : i < length xs) (is : x ≡ get_or xs i x) where
  abbrev others : Mark
  others = any_mark (map rule (drop (i + 1) xs)) f

  said : (b : Bool) → combined_mark (so_far b) (any_mark (map rule (drop i xs)) f) ≡ total
      → combined_mark (combined_mark (so_far b) (rule x f)) others ≡ total
  said b h = combined_thrice (so_far b) (rule x f) others
      ∙ (ap (λ ys. combined_mark (so_far b) (any_mark (map rule ys) f)) (sym (left_at xs i x l is)) ∙ h)

  pub said_nothing : (b : Bool) → combined_mark (so_far b) (any_mark (map rule (drop i xs)) f) ≡ total
      → kept ≡ rule x f → combined_mark (so_far b) others ≡ total
  said_nothing b h e = ap (λ m. combined_mark m others) (still b)
      ∙ (ap (λ m. combined_mark (combined_mark (so_far b) m) others) e ∙ said b h) where
        still : (c : Bool) → so_far c ≡ combined_mark (so_far c) kept
        still true = refl
        still false = refl

  pub said_alone : (b : Bool) → combined_mark (so_far b) (any_mark (map rule (drop i xs)) f) ≡ total
      → alone ≡ rule x f → combined_mark alone others ≡ total
  said_alone b h e = ap (λ m. combined_mark m others) (now b)
      ∙ (ap (λ m. combined_mark (combined_mark (so_far b) m) others) e ∙ said b h) where
        now : (c : Bool) → alone ≡ combined_mark (so_far c) alone
        now true = refl
        now false = refl

  pub said_with_tree : (b : Bool) → combined_mark (so_far b) (any_mark (map rule (drop i xs)) f) ≡ total
      → with_tree ≡ rule x f → with_tree ≡ total
  said_with_tree b h e = ap (λ m. combined_mark m others) (now b)
      ∙ (ap (λ m. combined_mark (combined_mark (so_far b) m) others) e ∙ said b h) where
        now : (c : Bool) → with_tree ≡ combined_mark (so_far c) with_tree
        now true = refl
        now false = refl

-- nothing is claimed of an error by a contract about success
pub if_ok_of_err : {T E : Type 0} (P : T → Type 0) (Q : E → Type 0) (r : Result T E) → IsErrAnd r Q → IfOk r P
if_ok_of_err P Q (Ok x) h = absurd h
if_ok_of_err P Q (Err e) h = tt
