-- Counts that stay at their greatest, and slices.
use Rattle.std.proofs.Common.{◌≡◌, ◌≤◌, ◌<◌, ◌-◌, ℕ, ◌⊎◌, Bool, true, false, List, length, take, drop, arith}
use Rattle.std.proofs.Common.{length-drop, take_all, inl, inr, le_refl}
use Rattle.wax_lines.specs.Counts.{greatest_count, one_more_if}

-- a count never falls
pub one_more_if-above : (b : Bool) (n : ℕ) → n ≤ greatest_count → n ≤ one_more_if b n
one_more_if-above true n h = omega (arith, h)
one_more_if-above false n h = le_refl n

-- a slice to its own end
pub slice_to_end : (xs : List ℕ) (n : ℕ) → take (length xs - n) (drop n xs) ≡ drop n xs
slice_to_end xs n = take_all (length xs - n) (drop n xs) (omega (arith, length-drop n xs))

-- a count that first didn't fall, and then grew or reached the greatest, grew in all or is the greatest
pub grew_after : (first mid last : ℕ) → first ≤ mid → (mid < last) ⊎ (last ≡ greatest_count)
    → (first < last) ⊎ (last ≡ greatest_count)
grew_after first mid last h (inl k) = inl (omega (arith, h, k))
grew_after first mid last h (inr k) = inr k

-- a count that first grew or reached the greatest, and then didn't fall, grew in all or is the greatest
pub grew_before : (first mid last : ℕ) → (first < mid) ⊎ (mid ≡ greatest_count) → mid ≤ last
    → last ≤ greatest_count → (first < last) ⊎ (last ≡ greatest_count)
grew_before first mid last (inl k) h most = inl (omega (arith, h, k))
grew_before first mid last (inr k) h most = inr (omega (arith, h, k, most))
