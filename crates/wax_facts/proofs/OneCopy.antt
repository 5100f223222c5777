-- Exactly one copy.
use Rattle.std.proofs.Common.{Bool, List, arith, suc, zero, ℕ, ◌≤◌}
use Rattle.wax_token.specs.Meaning.{Copies}

pub one_copy : (Body : Bool → Bool → List ℕ → Type 0) (k : ℕ) (before after : Bool) (s : List ℕ) → 1 ≤ k
    → k ≤ 1 → Copies k Body before after s → Body before after s
one_copy Body zero before after s l m h = absurd (omega (arith, l))
one_copy Body (suc zero) before after s l m h = h
one_copy Body (suc (suc k)) before after s l m h = absurd (omega (arith, m))
