-- The depths of the entries that a walk yields.
use Rattle.std.specs.Prelude.{◌≡◌, ◌<◌, ◌≤◌, ◌⊎◌, ℕ, ◌+◌, ◌-◌, ◌^◌, min, Option, Some, None, ⊤}
use Rattle.std.specs.Int.NonZero.{non_zero_usize_get}
use Rattle.wax_tree.specs.declared.behavior.WalkBehavior.{WalkBehavior}
use Rattle.wax_tree.specs.declared.behavior.LinkBehavior.TheVariants.{ReadFile}
use Rattle.wax_tree.specs.declared.behavior.DepthBehavior.{DepthBehavior}
use Rattle.wax_tree.specs.declared.behavior.DepthBehavior.TheVariants.{Unbounded, Min, Max, MinMax}

-- the least depth
abbrev pub least : DepthBehavior → ℕ
least Unbounded = 0
least (Min d) = non_zero_usize_get d.0
least (Max d) = 0
least (MinMax d) = non_zero_usize_get d.min

-- there is no greatest depth
abbrev pub no_bound : Option ℕ
no_bound = None

-- the greatest depth, if there is one; a sum stops at the greatest `usize`
abbrev pub greatest : DepthBehavior → Option ℕ
greatest Unbounded = None
greatest (Min d) = None
greatest (Max d) = Some d.0
greatest (MinMax d) = Some (min (non_zero_usize_get d.min + d.extent) (2 ^ 64 - 1))

-- no bounds can be made from a least and a greatest depth, either of which may be missing
abbrev pub IsUnbounded : Option ℕ → Option ℕ → Type 0
IsUnbounded None None = ⊤
IsUnbounded (Some p) None = p ≡ 0
IsUnbounded None (Some q) = ⊥
IsUnbounded (Some p) (Some q) = (p ≡ 0) ⊎ (q < p)

-- the behavior has these bounds: a least depth, a greatest depth, or both
abbrev pub HasBounds : Option ℕ → Option ℕ → DepthBehavior → Type 0
HasBounds (Some p) None (Min d) = non_zero_usize_get d.0 ≡ p
HasBounds None (Some q) (Max d) = d.0 ≡ q
HasBounds (Some p) (Some q) (MinMax d) = (non_zero_usize_get d.min ≡ p) × (p + d.extent ≡ q)
HasBounds p q d = ⊥

-- a depth, if there is one, with n added
abbrev pub raised : ℕ → Option ℕ → Option ℕ
raised n None = None
raised n (Some p) = Some (p + n)

-- the depth with n added is past 64 bits
abbrev pub IsPast : ℕ → Option ℕ → Type 0
IsPast n None = ⊥
IsPast n (Some p) = 2 ^ 64 ≤ p + n

-- a sum is past 64 bits, or no bounds can be made from two depths with n added to each
abbrev pub IsUnboundedAt : ℕ → Option ℕ → Option ℕ → Type 0
IsUnboundedAt n p q = IsPast n p ⊎ (IsPast n q ⊎ IsUnbounded (raised n p) (raised n q))

-- a walk of these depths that reads links as files, with the greatest budget
abbrev pub behavior_at : DepthBehavior → WalkBehavior
behavior_at d = record { depth = d; link = ReadFile; budget = 2 ^ 32 - 1 }
