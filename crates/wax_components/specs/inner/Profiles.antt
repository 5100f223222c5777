-- How many `/` the texts of a set have, shape by shape.
use Rattle.std.specs.Prelude.{◌-◌, ◌/◌, ◌%◌, ◌||◌, if◌then◌else◌, Bool, None, Option, Some, ℕ, false, nat_le}
use Rattle.std.specs.Prelude.{suc, true, zero}
use Rattle.wax_components.specs.declared.profile.Profile.{Profile}
use Rattle.wax_components.specs.inner.Intervals.{Interval, exceeds_zero, hull, interval_sum, kept, unbounded}
use Rattle.wax_components.specs.inner.Shapes.{Shape, empty, ended, same_shape}

abbrev pub interval_at : Profile → Shape → Interval
interval_at p empty = p.nothing
interval_at p (ended false false) = p.bare
interval_at p (ended false true) = p.ending
interval_at p (ended true false) = p.beginning
interval_at p (ended true true) = p.enclosed

abbrev pub profile : (Shape → Interval) → Profile
profile f = record {
  nothing = f empty;
  bare = f (ended false false);
  ending = f (ended false true);
  beginning = f (ended true false);
  enclosed = f (ended true true);
}

abbrev pub no_text : Profile
no_text = profile (λ a. None)

abbrev pub empty_text : Profile
empty_text = record {
  nothing = Some (0, Some 0);
  bare = None;
  ending = None;
  beginning = None;
  enclosed = None;
}

-- texts of one shape with n `/`
abbrev pub single : Shape → ℕ → Profile
single a n = profile (λ b. kept (same_shape a b) (Some (n, Some n)))

abbrev pub only : Bool → Profile → Profile
only true p = p
only false p = no_text

abbrev pub union : Profile → Profile → Profile
union p q = profile (λ a. hull (interval_at p a) (interval_at q a))

-- one text after another: the first's beginning, the other's end
abbrev pub concatenated_at : Profile → Profile → Shape → Interval
concatenated_at p q empty = interval_sum (interval_at p empty) (interval_at q empty)
concatenated_at p q (ended x y) =
    hull (interval_sum (interval_at p empty) (interval_at q (ended x y)))
    (hull (interval_sum (interval_at p (ended x y)) (interval_at q empty))
    (interval_sum (hull (interval_at p (ended x false)) (interval_at p (ended x true)))
    (hull (interval_at q (ended false y)) (interval_at q (ended true y)))))

abbrev pub concatenated : Profile → Profile → Profile
concatenated p q = profile (concatenated_at p q)

-- twice as many copies, and one more where the number is odd
abbrev pub doubled : ℕ → Profile → Profile → Profile
doubled zero half p = concatenated half half
doubled (suc odd) half p = concatenated p (concatenated half half)

abbrev pub power_in : ℕ → ℕ → Profile → Profile
power_in zero n p = empty_text
power_in (suc k) n p = doubled (n % 2) (power_in k (n / 2) p) p

-- n copies, by halves
abbrev pub power : ℕ → Profile → Profile
power n p = power_in n n p

-- some text has a `/`
abbrev pub has_slash : Profile → Bool
has_slash p =
    exceeds_zero p.bare || (exceeds_zero p.ending || (exceeds_zero p.beginning || exceeds_zero p.enclosed))

abbrev pub unbounded_profile : Profile → Profile
unbounded_profile p = record {
  nothing = p.nothing;
  bare = unbounded p.bare;
  ending = unbounded p.ending;
  beginning = unbounded p.beginning;
  enclosed = unbounded p.enclosed;
}

-- two copies or fewer have the least numbers; where a text has a `/`, further copies pass every number
abbrev pub kleene_star : Profile → Profile
kleene_star p =
    let twice : Profile = concatenated (union empty_text p) (union empty_text p) in
    if has_slash p then unbounded_profile twice else twice

-- from low to high copies
abbrev pub power_range : ℕ → Option ℕ → Profile → Profile
power_range low None p = concatenated (power low p) (kleene_star p)
power_range low (Some high) p =
    if nat_le low high then concatenated (power low p) (power (high - low) (union empty_text p)) else no_text
