-- Ranges of whole numbers, by a lower bound and an upper one that may be open.
use Rattle.std.specs.Prelude.{ℕ, ◌+◌, ◌*◌, ◌^◌, ◌<◌, ◌≤◌, ◌==◌, ◌⊎◌, ◌&&◌, Bool, false, max, min, Option}
use Rattle.std.specs.Prelude.{Some, None, IfSome, MatchOption, SomeIff, if◌then◌else◌, is_none, option_map}
use Rattle.std.specs.{Prelude.{option_and_then, ⊤}, Option.option_map_or}
use Rattle.std.specs.{declared.num.NonZeroUsize.NonZeroUsize, Int.NonZero.non_zero_usize_get}
use Rattle.wax_query.specs.declared.query.variance.Boundedness.{Boundedness}
use Rattle.wax_query.specs.declared.query.variance.Boundedness.TheVariants.{Bounded, Unbounded}
use Rattle.wax_query.specs.declared.query.variance.Variance.{Variance}
use Rattle.wax_query.specs.declared.query.variance.Variance.TheVariants.{Invariant, Variant}
use Rattle.wax_query.specs.Variances.{bound}

-- the lower bound, where 0 is none, and the upper one, if there is one
abbrev pub Bounds : Type 0
Bounds = ℕ × Option ℕ

abbrev pub AtMost : ℕ → Option ℕ → Type 0
AtMost n None = ⊤
AtMost n (Some high) = n ≤ high

-- the number is between the bounds
abbrev pub HoldsNumber : Bounds → ℕ → Type 0
HoldsNumber r n = (r.0 ≤ n) × AtMost n r.1

-- t holds the sum of each number of r and each of s
abbrev pub HoldsSums : Bounds → Bounds → Bounds → Type 0
HoldsSums r s t = (m n : ℕ) → HoldsNumber r m → HoldsNumber s n → HoldsNumber t (m + n)

-- t holds the product of each number of r and each of s
abbrev pub HoldsProducts : Bounds → Bounds → Bounds → Type 0
HoldsProducts r s t = (m n : ℕ) → HoldsNumber r m → HoldsNumber s n → HoldsNumber t (m * n)

-- t holds each number of r, and each of s
abbrev pub HoldsBoth : Bounds → Bounds → Bounds → Type 0
HoldsBoth r s t = (n : ℕ) → HoldsNumber r n ⊎ HoldsNumber s n → HoldsNumber t n

-- t holds each number of r with v added
abbrev pub HoldsShifted : ℕ → Bounds → Bounds → Type 0
HoldsShifted v r t = (n : ℕ) → HoldsNumber r n → HoldsNumber t (n + v)

-- no bound is past 64 bits
abbrev pub Fits : Bounds → Type 0
Fits r = (r.0 < 2 ^ 64) × IfSome r.1 (λ high. high < 2 ^ 64)

-- a bound is there, and more than one number is held
abbrev pub IsVariant : Bounds → Type 0
IsVariant r = MatchOption r.1 (0 < r.0) (λ high. r.0 < high)

abbrev pub VariantRange : Type 0
VariantRange = Boundedness Bounds

abbrev pub NaturalRange : Type 0
NaturalRange = Variance ℕ VariantRange

abbrev pub variant_bounds : VariantRange → Bounds
variant_bounds (Bounded r) = r
variant_bounds Unbounded = (0, None)

abbrev pub bounds : NaturalRange → Bounds
bounds (Invariant n) = (n, Some n)
bounds (Variant r) = variant_bounds r

-- the only range with these bounds, if it is to hold more than one number
abbrev pub variant_range : Bounds → VariantRange
variant_range r = if r.0 == 0 && is_none r.1 then Unbounded else Bounded r

abbrev pub is_one_number : Bounds → Bool
is_one_number r = option_map_or (λ high. r.0 == high) r.1 false

-- the only range with these bounds
abbrev pub range_of : Bounds → NaturalRange
range_of r = if is_one_number r then Invariant r.0 else Variant (variant_range r)

-- the range with these bounds, and none where one is past 64 bits
abbrev pub IsRangeThatFits : Option NaturalRange → Bounds → Type 0
IsRangeThatFits range r = SomeIff range (Fits r) (range_of r)

-- the two numbers in order
abbrev pub ordered : ℕ → Option ℕ → Bounds
ordered m None = (m, None)
ordered m (Some n) = (min m n, Some (max m n))

-- f of two upper bounds; where one is open, so is the outcome
abbrev pub of_both : (ℕ → ℕ → ℕ) → Option ℕ → Option ℕ → Option ℕ
of_both f None b = None
of_both f (Some m) None = None
of_both f (Some m) (Some n) = Some (f m n)

abbrev pub sum_bounds : Bounds → Bounds → Bounds
sum_bounds r s = (r.0 + s.0, of_both (λ m n. m + n) r.1 s.1)

-- 0 times an open bound is 0
abbrev pub upper_product : Option ℕ → Option ℕ → Option ℕ
upper_product None None = None
upper_product None (Some n) = if n == 0 then Some 0 else None
upper_product (Some m) None = if m == 0 then Some 0 else None
upper_product (Some m) (Some n) = Some (m * n)

abbrev pub product_bounds : Bounds → Bounds → Bounds
product_bounds r s = (r.0 * s.0, upper_product r.1 s.1)

-- the lesser lower and the greater upper bound
abbrev pub union_bounds : Bounds → Bounds → Bounds
union_bounds r s = (min r.0 s.0, of_both max r.1 s.1)

-- v is added to the bounds that are there
abbrev pub shifted : ℕ → Bounds → Bounds
shifted v r = (if r.0 == 0 then 0 else r.0 + v, option_map (λ high. high + v) r.1)

-- a bound of 0 is none
abbrev pub present : ℕ → Option ℕ
present n = if n == 0 then None else Some n

abbrev pub given_bounds : ℕ → Option ℕ → Bounds
given_bounds low high = (low, option_and_then present high)

abbrev pub bound_number : Boundedness NonZeroUsize → Option ℕ
bound_number b = option_map non_zero_usize_get (bound b)
