-- Of a tree whose cost is small, the numbers are the depth itself.
use Rattle.std.proofs.Common.{◌∙◌, ◌≡◌, ◌≤◌, None, Option, Some, ℕ, ap, arith, min, refl, subst, sym}
use Rattle.wax_query.specs.Ranges.{Bounds}
use Rattle.wax_token.specs.{Cost.cost, Syntax.Tree}
use Rattle.wax_components.specs.Depth.{Depth, SaturatedDepth, saturated_bound, usize_max}
use Rattle.wax_components.proofs.{Costs.least_bounded, Pumping.greatest_bounded}

within_word : (n : ℕ) → n ≤ 1048576 → min n usize_max ≡ n
within_word n le = omega (arith, le)

pub exact_depth : {A : Type 0} (t : Tree A) (s : Bounds) → cost t ≤ 1048575 → SaturatedDepth t s → Depth t s
exact_depth t s le h = subst (Depth t) (sym (h.2 ∙ ap (λ z. (z, saturated_bound usize_max h.0.1)) low
    ∙ ap (λ z. (h.0.0, z)) (high h.0.1 h.1))) h.1
  where
    low : min h.0.0 usize_max ≡ h.0.0
    low = within_word h.0.0 (omega (arith, le, least_bounded t h.0 h.1))

    high : (g : Option ℕ) → Depth t (h.0.0, g) → saturated_bound usize_max g ≡ g
    high None d = refl
    high (Some n) d = ap (λ z. Some z) (within_word n (omega (arith, le, greatest_bounded t h.0.0 n d)))
