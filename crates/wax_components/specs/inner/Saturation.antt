-- Profiles whose numbers stay at the greatest of 128 bits.
use Rattle.std.specs.Prelude.{◌≡◌, ◌+◌, ◌-◌, ◌^◌, Bool, None, Option, Some, ℕ, false, min, true}
use Rattle.wax_query.specs.Ranges.{Bounds}
use Rattle.wax_components.specs.{Depth.usize_max, declared.profile.Profile.Profile}
use Rattle.wax_components.specs.declared.profiles.Profiles.{Profiles}
use Rattle.wax_components.specs.inner.Intervals.{Interval, hull, or_zero, saturated_interval}
use Rattle.wax_components.specs.inner.Profiles.{interval_at, concatenated, empty_text, only, power_range}
use Rattle.wax_components.specs.inner.Profiles.{profile, union}
use Rattle.wax_components.specs.inner.TreeProfiles.{admits, admits_two, less_two}

abbrev pub u128_max : ℕ
u128_max = 2 ^ 128 - 1

abbrev pub saturated : Profile → Profile
saturated p = profile (λ a. saturated_interval u128_max (interval_at p a))

-- with nothing around it, with something after it, before it, and on both sides
abbrev pub in_context : Profiles → Bool → Bool → Profile
in_context p false false = p.alone
in_context p false true = p.first
in_context p true false = p.last
in_context p true true = p.middle

abbrev pub profiles : (Bool → Bool → Profile) → Profiles
profiles f = record { alone = f false false; first = f false true; last = f true false; middle = f true true }

-- they differ only past the greatest number
abbrev pub ProfilesOf : Profiles → (Bool → Bool → Profile) → Type 0
ProfilesOf p f = (before after : Bool) → saturated (in_context p before after) ≡ saturated (f before after)

abbrev pub either_profile : Profiles → Profiles → Bool → Bool → Profile
either_profile l r before after = union (in_context l before after) (in_context r before after)

abbrev pub saturated_beside : Profiles → Profiles → Bool → Bool → Profile
saturated_beside l r before after =
    saturated (concatenated (in_context l before true) (in_context r true after))

-- none, one, and two copies or more, where the profiles of two or more are saturated
abbrev pub saturated_repeated : Profiles → ℕ → Option ℕ → Bool → Bool → Profile
saturated_repeated body low high before after =
    let between : Profile = saturated (power_range (low - 2) (less_two high) body.middle) in
    union (only (admits 0 low high) empty_text)
    (union (only (admits 1 low high) (in_context body before after))
    (only (admits_two low high) (saturated (concatenated (in_context body before true)
    (saturated (concatenated between (in_context body true after)))))))

-- the numbers of components of texts with so many `/` at their ends
abbrev pub saturated_component_bound : ℕ → Option ℕ → Option ℕ
saturated_component_bound ends None = None
saturated_component_bound ends (Some n) = Some (min (n + 1) u128_max - ends)

abbrev pub saturated_components : ℕ → Interval → Interval
saturated_components ends None = None
saturated_components ends (Some x) = Some (min (x.0 + 1) u128_max - ends, saturated_component_bound ends x.1)

-- the empty text has no component
abbrev pub no_components : Interval → Interval
no_components None = None
no_components (Some x) = Some (0, Some 0)

abbrev pub saturated_depth : Profile → Interval
saturated_depth p =
    hull (no_components p.nothing) (hull (saturated_components 0 p.bare)
    (hull (saturated_components 1 p.ending)
    (hull (saturated_components 1 p.beginning) (saturated_components 2 p.enclosed))))

abbrev pub in_words : Interval → Bounds
in_words x = or_zero (saturated_interval usize_max x)
