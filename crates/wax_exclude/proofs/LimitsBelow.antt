-- How many names are left to a greatest depth.
use Rattle.std.proofs.Common.{ℕ, ◌+◌, ◌-◌, ◌≤◌, nat_lt, true, false, if◌then◌else◌, Some, None, arith}
use Rattle.wax_query.specs.Ranges.{AtMost}
use Rattle.wax_tree.specs.Programs.{limit_below}

-- as many more names as the greatest depth allows
pub allows_more : (greatest depth more : ℕ) → depth + more ≤ greatest
    → AtMost more (limit_below greatest depth)
allows_more greatest depth more fits =
    elim (nat_lt greatest 64) as (λ b. AtMost more (if b then Some (greatest - depth) else None)) [
      | true ↦ omega (arith, fits)
      | false ↦ tt
    ]

-- what is allowed after some more names is allowed together with these, unless these are too many
pub allows_both : (greatest depth front back : ℕ) → depth + front ≤ greatest
    → AtMost back (limit_below greatest (depth + front)) → AtMost (front + back) (limit_below greatest depth)
allows_both greatest depth front back fits =
    elim (nat_lt greatest 64) as
    (λ b. AtMost back (if b then Some (greatest - (depth + front)) else None)
    → AtMost (front + back) (if b then Some (greatest - depth) else None)) [
      | true ↦ λ few. omega (arith, fits, few)
      | false ↦ λ few. tt
    ]
