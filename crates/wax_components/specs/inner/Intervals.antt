-- The least and the greatest number of a set.
use Rattle.std.specs.Prelude.{◌+◌, Bool, None, Option, Some, ℕ, false, max, min, suc, true, zero}
use Rattle.wax_query.specs.Ranges.{Bounds}
use Rattle.wax_components.specs.Depth.{saturated_bounds}

-- the greatest is none where each number is passed; none where the set is empty
abbrev pub Interval : Type 0
Interval = Option Bounds

abbrev pub greater_bound : Option ℕ → Option ℕ → Option ℕ
greater_bound None h = None
greater_bound (Some m) None = None
greater_bound (Some m) (Some n) = Some (max m n)

abbrev pub bound_sum : Option ℕ → Option ℕ → Option ℕ
bound_sum None h = None
bound_sum (Some m) None = None
bound_sum (Some m) (Some n) = Some (m + n)

-- of two sets together
abbrev pub hull : Interval → Interval → Interval
hull None b = b
hull (Some x) None = Some x
hull (Some x) (Some y) = Some (min x.0 y.0, greater_bound x.1 y.1)

-- of the sums of a member of each
abbrev pub interval_sum : Interval → Interval → Interval
interval_sum None b = None
interval_sum (Some x) None = None
interval_sum (Some x) (Some y) = Some (x.0 + y.0, bound_sum x.1 y.1)

-- some member isn't 0
abbrev pub exceeds_zero : Interval → Bool
exceeds_zero None = false
exceeds_zero (Some (low, None)) = true
exceeds_zero (Some (low, Some zero)) = false
exceeds_zero (Some (low, Some (suc n))) = true

abbrev pub unbounded : Interval → Interval
unbounded None = None
unbounded (Some x) = Some (x.0, None)

abbrev pub kept : Bool → Interval → Interval
kept true x = x
kept false x = None

-- each number is at most k
abbrev pub saturated_interval : ℕ → Interval → Interval
saturated_interval k None = None
saturated_interval k (Some x) = Some (saturated_bounds k x)

abbrev pub or_zero : Interval → Bounds
or_zero None = (0, Some 0)
or_zero (Some x) = x
