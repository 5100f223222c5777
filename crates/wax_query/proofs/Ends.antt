-- How a text ends.
use Rattle.std.proofs.Common.{◌≡◌, ◌≢◌, ℕ, zero, suc, ◌-◌, false, nat_eq, length, List, [], ◌∷◌, ◌++◌, refl}
use Rattle.std.proofs.{Common.{ap, arith}, lemmas.Bool.Decides.nat_tests}
use Rattle.std.specs.{Prelude.{Some, ◌==◌}, List.slice_get}
use Rattle.wax_query.specs.{Below.ends_open, Components.HasNoSlash}

-- only an end that isn't empty decides
pub open_append : (xs : List ℕ) (y : ℕ) (ys : List ℕ) → ends_open (xs ++ y ∷ ys) ≡ ends_open (y ∷ ys)
open_append [] y ys = refl
open_append (x ∷ []) y ys = refl
open_append (x ∷ z ∷ xs) y ys = open_append (z ∷ xs) y ys

pub not_same : (c d : ℕ) → c ≢ d → (c == d) ≡ false
not_same c d ne = grind (arith, nat_tests)

-- a name that isn't empty
pub closed_name : (n : List ℕ) → ¬ (n ≡ []) → HasNoSlash n → ends_open n ≡ false
closed_name [] some h = absurd (some refl)
closed_name (c ∷ []) some h = not_same c 47 h.0
closed_name (c ∷ d ∷ n) some h = closed_name (d ∷ n) (λ e. (cc)) h.1

last_decides : (xs : List ℕ) (c k : ℕ) → length xs ≡ suc k → Some c ≡ slice_get xs k
    → nat_eq c 47 ≡ ends_open xs
last_decides [] c k l h = cc
last_decides (d ∷ []) c zero l h = let e : c ≡ d = cc in ap (λ v. nat_eq v 47) e
last_decides (d ∷ []) c (suc k) l h = cc
last_decides (d ∷ e ∷ xs) c zero l h = absurd (omega (arith, l))
last_decides (d ∷ e ∷ xs) c (suc k) l h = last_decides (e ∷ xs) c k (omega (arith, l)) h

-- the last item decides
pub open_some : (xs : List ℕ) (c : ℕ) → Some c ≡ slice_get xs (length xs - 1) → nat_eq c 47 ≡ ends_open xs
open_some [] c h = cc
open_some (d ∷ xs) c h = last_decides (d ∷ xs) c (length (d ∷ xs) - 1) (omega arith) h
