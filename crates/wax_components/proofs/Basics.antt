-- Truth values, and numbers that a test tells apart.
use Rattle.std.proofs.Common.{if◌then◌else◌, ◌&&◌, ◌*◌, ◌+◌, ◌==◌, ◌||◌, ◌≡◌, ◌≢◌, ◌≤◌, ◌⊎◌, Bool, ℕ, arith}
use Rattle.std.proofs.Common.{false, inl, inr, nat_le, refl, rules, suc, true, zero}

pub not_true : {C : Type 0} → false ≡ true → C
not_true e = absurd (let f : ⊥ = cc in f)

pub both_true : (a b : Bool) → (a && b) ≡ true → (a ≡ true) × (b ≡ true)
both_true true b e = (refl, e)
both_true false b e = not_true e

pub either : (a b : Bool) → (a || b) ≡ true → (a ≡ true) ⊎ (b ≡ true)
either true b e = inl refl
either false b e = inr e

pub bit_at_most : (b : Bool) → (if b then 1 else 0) ≤ 1
bit_at_most true = omega arith
bit_at_most false = omega arith

pub is_slash : (c : ℕ) → (c == 47) ≡ true → c ≡ 47
is_slash c e = search rules

pub not_slash : (c : ℕ) → c ≢ 47 → (c == 47) ≡ false
not_slash c e = search rules

pub le_from : (m n : ℕ) → nat_le m n ≡ true → m ≤ n
le_from m n e = search rules

pub not_le_from : (m n : ℕ) → nat_le m n ≡ false → m ≤ n → ⊥
not_le_from m n e h = search rules

pub le_to : (m n : ℕ) → m ≤ n → nat_le m n ≡ true
le_to m n h = search rules

pub zero_or_some : (m : ℕ) → (m ≡ 0) ⊎ (1 ≤ m)
zero_or_some zero = inl refl
zero_or_some (suc m) = inr (omega arith)

pub suc_mul : (a k : ℕ) → suc a * k ≡ k + a * k
suc_mul a k = grind arith
