-- Profiles whose numbers stay at the greatest are counted with as well as the profiles themselves.
use Rattle.std.proofs.Common.{if◌then◌else◌, ◌%◌, ◌-◌, ◌/◌, ◌<◌, ◌||◌, ◌∙◌, ◌≡◌, ◌≤◌, Bool, None, Option}
use Rattle.std.proofs.Common.{Some, ℕ, ap, arith, false, min, nat_le, refl, subst, suc, sym, true, zero}
use Rattle.wax_components.specs.declared.profile.Profile.{Profile}
use Rattle.wax_components.specs.inner.Intervals.{Interval, exceeds_zero, hull, interval_sum}
use Rattle.wax_components.specs.inner.Intervals.{saturated_interval, unbounded}
use Rattle.wax_components.specs.inner.Profiles.{interval_at, concatenated, concatenated_at, doubled}
use Rattle.wax_components.specs.inner.Profiles.{empty_text, has_slash, kleene_star, no_text, only, power}
use Rattle.wax_components.specs.inner.Profiles.{power_in, power_range, profile, unbounded_profile, union}
use Rattle.wax_components.specs.{inner.Saturation.{saturated, u128_max}, inner.Shapes.{Shape, empty, ended}}
use Rattle.wax_components.proofs.Intervals.{hull_close, interval_sum_close, saturated_interval_twice}

abbrev made : Interval → Interval → Interval → Interval → Interval → Profile
made a b c d f = record { nothing = a; bare = b; ending = c; beginning = d; enclosed = f }

pub profile_same : (r q : Profile) → ((a : Shape) → interval_at r a ≡ interval_at q a) → r ≡ q
profile_same r q e =
    ap (λ z. made z r.bare r.ending r.beginning r.enclosed) (e empty)
    ∙ ap (λ z. made q.nothing z r.ending r.beginning r.enclosed) (e (ended false false))
    ∙ ap (λ z. made q.nothing q.bare z r.beginning r.enclosed) (e (ended false true))
    ∙ ap (λ z. made q.nothing q.bare q.ending z r.enclosed) (e (ended true false))
    ∙ ap (λ z. made q.nothing q.bare q.ending q.beginning z) (e (ended true true))

pub at_profile : (f : Shape → Interval) (a : Shape) → interval_at (profile f) a ≡ f a
at_profile f empty = refl
at_profile f (ended false false) = refl
at_profile f (ended false true) = refl
at_profile f (ended true false) = refl
at_profile f (ended true true) = refl

at_saturated : (r : Profile) (a : Shape)
    → interval_at (saturated r) a ≡ saturated_interval u128_max (interval_at r a)
at_saturated r a = at_profile (λ b. saturated_interval u128_max (interval_at r b)) a

pub saturated_twice : (r : Profile) → saturated (saturated r) ≡ saturated r
saturated_twice r = profile_same (saturated (saturated r)) (saturated r)
    (λ a. at_saturated (saturated r) a ∙ ap (saturated_interval u128_max) (at_saturated r a)
    ∙ saturated_interval_twice u128_max (interval_at r a) ∙ sym (at_saturated r a))

-- they differ only past the greatest number
abbrev pub Close : Profile → Profile → Type 0
Close r q = saturated r ≡ saturated q

pub close_at : (r q : Profile) → Close r q → (a : Shape)
    → saturated_interval u128_max (interval_at r a) ≡ saturated_interval u128_max (interval_at q a)
close_at r q e a = sym (at_saturated r a) ∙ ap (λ z. interval_at z a) e ∙ at_saturated q a

close_by : (r q : Profile) → ((a : Shape) → saturated_interval u128_max (interval_at r a)
    ≡ saturated_interval u128_max (interval_at q a)) → Close r q
close_by r q e =
    profile_same (saturated r) (saturated q) (λ a. at_saturated r a ∙ e a ∙ sym (at_saturated q a))

pub union_close : (r q r' q' : Profile) → Close r r' → Close q q' → Close (union r q) (union r' q')
union_close r q r' q' e g = close_by (union r q) (union r' q') (λ a.
    ap (saturated_interval u128_max) (at_profile (λ b. hull (interval_at r b) (interval_at q b)) a)
    ∙ hull_close u128_max (interval_at r a) (interval_at q a) (interval_at r' a) (interval_at q' a)
    (close_at r r' e a) (close_at q q' g a)
    ∙ sym (ap (saturated_interval u128_max) (at_profile (λ b. hull (interval_at r' b) (interval_at q' b)) a)))

abbrev before : Bool → Profile → Interval
before x r = hull (interval_at r (ended x false)) (interval_at r (ended x true))

abbrev behind : Bool → Profile → Interval
behind y q = hull (interval_at q (ended false y)) (interval_at q (ended true y))

concatenated_at_close : (r q r' q' : Profile) → Close r r' → Close q q' → (a : Shape) → saturated_interval
    u128_max (concatenated_at r q a) ≡ saturated_interval u128_max (concatenated_at r' q' a)
concatenated_at_close r q r' q' e g empty =
    interval_sum_close u128_max (interval_at r empty) (interval_at q empty) (interval_at r' empty)
    (interval_at q' empty) (close_at r r' e empty) (close_at q q' g empty)
concatenated_at_close r q r' q' e g (ended x y) =
    hull_close u128_max (interval_sum (interval_at r empty) (interval_at q (ended x y))) (hull (interval_sum
    (interval_at r (ended x y)) (interval_at q empty)) (interval_sum (before x r) (behind y q)))
    (interval_sum (interval_at r' empty) (interval_at q' (ended x y))) (hull (interval_sum
    (interval_at r' (ended x y)) (interval_at q' empty)) (interval_sum (before x r') (behind y q')))
    (interval_sum_close u128_max (interval_at r empty) (interval_at q (ended x y)) (interval_at r' empty)
    (interval_at q' (ended x y)) (close_at r r' e empty) (close_at q q' g (ended x y)))
    (hull_close u128_max (interval_sum (interval_at r (ended x y)) (interval_at q empty)) (interval_sum
    (before x r) (behind y q)) (interval_sum (interval_at r' (ended x y)) (interval_at q' empty))
    (interval_sum (before x r') (behind y q'))
    (interval_sum_close u128_max (interval_at r (ended x y)) (interval_at q empty) (interval_at r'
    (ended x y)) (interval_at q' empty) (close_at r r' e (ended x y)) (close_at q q' g empty))
    (interval_sum_close u128_max (before x r) (behind y q) (before x r') (behind y q')
    (hull_close u128_max (interval_at r (ended x false)) (interval_at r (ended x true))
    (interval_at r' (ended x false)) (interval_at r' (ended x true)) (close_at r r' e (ended x false))
    (close_at r r' e (ended x true)))
    (hull_close u128_max (interval_at q (ended false y)) (interval_at q (ended true y))
    (interval_at q' (ended false y)) (interval_at q' (ended true y)) (close_at q q' g (ended false y))
    (close_at q q' g (ended true y)))))

pub concatenated_close : (r q r' q' : Profile) → Close r r' → Close q q'
    → Close (concatenated r q) (concatenated r' q')
concatenated_close r q r' q' e g = close_by (concatenated r q) (concatenated r' q') (λ a.
    ap (saturated_interval u128_max) (at_profile (concatenated_at r q) a) ∙ concatenated_at_close r q r' q' e
    g a ∙ sym (ap (saturated_interval u128_max) (at_profile (concatenated_at r' q') a)))

pub only_close : (b : Bool) (r q : Profile) → Close r q → Close (only b r) (only b q)
only_close true r q e = e
only_close false r q e = refl

doubled_close : (odd : ℕ) (r q h k : Profile) → Close r q → Close h k
    → Close (doubled odd h r) (doubled odd k q)
doubled_close zero r q h k e g = concatenated_close h h k k g g
doubled_close (suc odd) r q h k e g =
    concatenated_close r (concatenated h h) q (concatenated k k) e (concatenated_close h h k k g g)

power_in_close : (k n : ℕ) (r q : Profile) → Close r q → Close (power_in k n r) (power_in k n q)
power_in_close zero n r q e = refl
power_in_close (suc k) n r q e =
    doubled_close (n % 2) r q (power_in k (n / 2) r) (power_in k (n / 2) q) e (power_in_close k (n / 2) r q e)

pub power_close : (n : ℕ) (r q : Profile) → Close r q → Close (power n r) (power n q)
power_close n r q e = power_in_close n n r q e

-- ---- any number
saturated_exceeds : (d : Interval) → exceeds_zero (saturated_interval u128_max d) ≡ exceeds_zero d
saturated_exceeds None = refl
saturated_exceeds (Some (low, None)) = refl
saturated_exceeds (Some (low, Some zero)) = refl
saturated_exceeds (Some (low, Some (suc n))) =
    ap (λ z. exceeds_zero (Some (min low u128_max, Some z))) (less n)
  where
    less : (n : ℕ) → min (suc n) u128_max ≡ suc (min n (u128_max - 1))
    less n = omega arith

saturated_slash : (r : Profile) → has_slash (saturated r) ≡ has_slash r
saturated_slash r =
    ap (λ z. z || (exceeds_zero (saturated_interval u128_max r.ending) || (exceeds_zero
    (saturated_interval u128_max r.beginning) || exceeds_zero (saturated_interval u128_max r.enclosed))))
    (saturated_exceeds r.bare)
    ∙ ap (λ z. exceeds_zero r.bare || (z || (exceeds_zero (saturated_interval u128_max r.beginning) ||
    exceeds_zero (saturated_interval u128_max r.enclosed)))) (saturated_exceeds r.ending)
    ∙ ap (λ z. exceeds_zero r.bare || (exceeds_zero r.ending ||
    (z || exceeds_zero (saturated_interval u128_max r.enclosed)))) (saturated_exceeds r.beginning)
    ∙ ap (λ z. exceeds_zero r.bare || (exceeds_zero r.ending || (exceeds_zero r.beginning || z)))
    (saturated_exceeds r.enclosed)

saturated_unbounded : (d : Interval) → unbounded (saturated_interval u128_max d)
    ≡ saturated_interval u128_max (unbounded d)
saturated_unbounded None = refl
saturated_unbounded (Some x) = refl

pub unbounded_saturated : (r : Profile) → unbounded_profile (saturated r) ≡ saturated (unbounded_profile r)
unbounded_saturated r = profile_same (unbounded_profile (saturated r)) (saturated (unbounded_profile r)) each
  where
    each : (a : Shape) → interval_at (unbounded_profile (saturated r)) a
        ≡ interval_at (saturated (unbounded_profile r)) a
    each empty = refl
    each (ended false false) = saturated_unbounded r.bare
    each (ended false true) = saturated_unbounded r.ending
    each (ended true false) = saturated_unbounded r.beginning
    each (ended true true) = saturated_unbounded r.enclosed

unbounded_close : (r q : Profile) → Close r q → Close (unbounded_profile r) (unbounded_profile q)
unbounded_close r q e = sym (unbounded_saturated r) ∙ ap unbounded_profile e ∙ unbounded_saturated q

abbrev twice : Profile → Profile
twice r = concatenated (union empty_text r) (union empty_text r)

pub kleene_star_close : (r q : Profile) → Close r q → Close (kleene_star r) (kleene_star q)
kleene_star_close r q e =
    choose (has_slash r) (has_slash q) (sym (saturated_slash r) ∙ ap has_slash e ∙ saturated_slash q)
  where
    two : Close (twice r) (twice q)
    two = concatenated_close (union empty_text r) (union empty_text r) (union empty_text q) (union empty_text
        q) (union_close empty_text r empty_text q refl e) (union_close empty_text r empty_text q refl e)

    choose : (b c : Bool) → b ≡ c → Close (if b then unbounded_profile (twice r) else twice r)
        (if c then unbounded_profile (twice q) else twice q)
    choose true true g = unbounded_close (twice r) (twice q) two
    choose false false g = two
    choose true false g = absurd (let f : ⊥ = cc in f)
    choose false true g = absurd (let f : ⊥ = cc in f)

pub power_range_close : (low : ℕ) (high : Option ℕ) (r q : Profile) → Close r q
    → Close (power_range low high r) (power_range low high q)
power_range_close low None r q e = concatenated_close (power low r) (kleene_star r) (power low q)
    (kleene_star q) (power_close low r q e) (kleene_star_close r q e)
power_range_close low (Some high) r q e = choose (nat_le low high)
  where
    choose : (b : Bool)
        → Close (if b then concatenated (power low r) (power (high - low) (union empty_text r)) else no_text)
        (if b then concatenated (power low q) (power (high - low) (union empty_text q)) else no_text)
    choose true = concatenated_close (power low r) (power (high - low) (union empty_text r)) (power low q)
        (power (high - low) (union empty_text q)) (power_close low r q e) (power_close (high - low)
        (union empty_text r) (union empty_text q) (union_close empty_text r empty_text q refl e))
    choose false = refl

-- ---- copies by halves
none_in : (k : ℕ) (r : Profile) → power_in k 0 r ≡ empty_text
none_in zero r = refl
none_in (suc k) r = ap (λ z. concatenated z z) (none_in k r)

fuel : (k m n : ℕ) (r : Profile) → n ≤ k → n ≤ m → power_in k n r ≡ power_in m n r
fuel zero m n r le l = let e : 0 ≡ n = omega (arith, le) in
    subst (λ z. empty_text ≡ power_in m z r) e (sym (none_in m r))
fuel (suc k) zero n r le l = let e : 0 ≡ n = omega (arith, l) in
    subst (λ z. power_in (suc k) z r ≡ empty_text) e (none_in (suc k) r)
fuel (suc k) (suc m) n r le l =
    ap (λ z. doubled (n % 2) z r) (fuel k m (n / 2) r (omega (arith, le)) (omega (arith, l)))

by_halves : (n : ℕ) (r : Profile) → 0 < n → power n r ≡ doubled (n % 2) (power (n / 2) r) r
by_halves zero r lt = absurd (omega (arith, lt))
by_halves (suc n) r lt =
    ap (λ z. doubled (suc n % 2) z r) (fuel n (suc n / 2) (suc n / 2) r (omega arith) (omega arith))

pub power_none : (n : ℕ) (r : Profile) → n ≡ 0 → saturated (power n r) ≡ empty_text
power_none n r e = ap (λ z. saturated (power z r)) e

pub power_even : (n : ℕ) (r h : Profile) → 0 < n → n % 2 ≡ 0 → h ≡ saturated (power (n / 2) r)
    → saturated (concatenated h h) ≡ saturated (power n r)
power_even n r h lt even e =
    let g : Close h (power (n / 2) r) = ap saturated e ∙ saturated_twice (power (n / 2) r) in
    concatenated_close h h (power (n / 2) r) (power (n / 2) r) g g
    ∙ sym (ap saturated (by_halves n r lt ∙ ap (λ z. doubled z (power (n / 2) r) r) even))

pub power_odd : (n : ℕ) (r h p : Profile) → 0 < n → n % 2 ≡ 1 → h ≡ saturated (power (n / 2) r)
    → p ≡ saturated (concatenated h h) → saturated (concatenated r p) ≡ saturated (power n r)
power_odd n r h p lt odd e k =
    let g : Close h (power (n / 2) r) = ap saturated e ∙ saturated_twice (power (n / 2) r) in
    let d : Close p (concatenated (power (n / 2) r) (power (n / 2) r)) = ap saturated k ∙ saturated_twice
    (concatenated h h) ∙ concatenated_close h h (power (n / 2) r) (power (n / 2) r) g g in
    concatenated_close r p r (concatenated (power (n / 2) r) (power (n / 2) r)) refl d
    ∙ sym (ap saturated (by_halves n r lt ∙ ap (λ z. doubled z (power (n / 2) r) r) odd))

pub star_then : (r two : Profile) → has_slash r ≡ true → two ≡ saturated (twice r)
    → unbounded_profile two ≡ saturated (kleene_star r)
star_then r two e g = ap unbounded_profile g ∙ unbounded_saturated (twice r)
    ∙ ap (λ b. saturated (if b then unbounded_profile (twice r) else twice r)) (sym e)

pub star_else : (r two : Profile) → has_slash r ≡ false → two ≡ saturated (twice r)
    → two ≡ saturated (kleene_star r)
star_else r two e g = g ∙ ap (λ b. saturated (if b then unbounded_profile (twice r) else twice r)) (sym e)

pub power_range_open : (r l a : Profile) (low : ℕ) → l ≡ saturated (power low r)
    → a ≡ saturated (kleene_star r) → saturated (concatenated l a) ≡ saturated (power_range low None r)
power_range_open r l a low e g = concatenated_close l a (power low r) (kleene_star r)
    (ap saturated e ∙ saturated_twice (power low r)) (ap saturated g ∙ saturated_twice (kleene_star r))

pub power_range_closed : (r l a : Profile) (low high : ℕ) → nat_le low high ≡ true
    → l ≡ saturated (power low r) → a ≡ saturated (power (high - low) (union empty_text r))
    → saturated (concatenated l a) ≡ saturated (power_range low (Some high) r)
power_range_closed r l a low high le e g =
    concatenated_close l a (power low r) (power (high - low) (union empty_text r))
    (ap saturated e ∙ saturated_twice (power low r))
    (ap saturated g ∙ saturated_twice (power (high - low) (union empty_text r)))
    ∙ ap (λ b. saturated (if b then concatenated (power low r) (power (high - low) (union empty_text r))
    else no_text)) (sym le)

pub power_range_none : (r : Profile) (low high : ℕ) → nat_le low high ≡ false
    → no_text ≡ saturated (power_range low (Some high) r)
power_range_none r low high le = ap (λ b. saturated
    (if b then concatenated (power low r) (power (high - low) (union empty_text r)) else no_text)) (sym le)
