-- Columns are counted character by character.
use Rattle.std.proofs.Common.{◌≡◌, ◌∙◌, ◌+◌, ◌-◌, ◌==◌, ◌∷◌, List, ℕ, [], ap, arith, refl, false}
use Rattle.std.specs.Char.{len_utf8}
use Rattle.wax_rule.specs.Drawn.{columns_before}

none_before : (cs : List ℕ) → columns_before 0 cs ≡ 0
none_before [] = refl
none_before (c ∷ cs) = refl

pub columns_at_none : (n left : ℕ) (cs : List ℕ) (all : ℕ) → left ≡ 0
    → n + columns_before left cs ≡ all → n ≡ all
columns_at_none n left cs all e h =
    let k : columns_before left cs ≡ 0 = ap (λ v. columns_before v cs) e
    ∙ none_before cs in omega (arith, k, h)

pub one_more : (left c : ℕ) (cs : List ℕ) → (left == 0) ≡ false
    → columns_before left (c ∷ cs) ≡ 1 + columns_before (left - len_utf8 c) cs
one_more left c cs e = rw e

pub columns_past : (n left left' c : ℕ) (r s : List ℕ) (all : ℕ) → r ≡ c ∷ s → (left == 0) ≡ false
    → left' ≡ left - len_utf8 c → n + columns_before left r ≡ all → n + 1 + columns_before left' s ≡ all
columns_past n left left' c r s all e f g h =
    let k : columns_before left r ≡ 1 + columns_before (left - len_utf8 c) s =
    ap (λ z. columns_before left z) e ∙ one_more left c s f in
    let m : columns_before left' s ≡ columns_before (left - len_utf8 c) s = ap (λ v. columns_before v s) g in
    omega (arith, k, m, h)
