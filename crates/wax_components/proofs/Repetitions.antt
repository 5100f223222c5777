-- The profiles of repetitions.
use Rattle.std.proofs.Common.{if◌then◌else◌, ◌++◌, ◌+◌, ◌-◌, ◌∙◌, ◌≡◌, ◌≤◌, ◌⊎◌, Bool, List, None, Option}
use Rattle.std.proofs.Common.{Some, ℕ, [], ap, arith, false, inl, inr, nat_le, refl, subst, suc, sym, true}
use Rattle.std.proofs.{Common.zero, lemmas.Bool.and_from}
use Rattle.wax_token.proofs.Copies.{Many, ManyWithin, OneThen, Repeats, TwoMore, many_add, many_split}
use Rattle.wax_token.proofs.Copies.{open_from, open_to, two_more_from, two_more_to}
use Rattle.wax_query.specs.Ranges.{AtMost}
use Rattle.wax_token.specs.Meaning.{Copies}
use Rattle.wax_components.specs.declared.profile.Profile.{Profile}
use Rattle.wax_components.specs.inner.Profiles.{concatenated, empty_text, no_text, only, power, power_range}
use Rattle.wax_components.specs.inner.Profiles.{union}
use Rattle.wax_components.specs.inner.TreeProfiles.{admits, admits_two, less_two, repeated_profile}
use Rattle.wax_components.specs.inner.TreeProfiles.{two_or_more}
use Rattle.wax_components.proofs.Basics.{both_true, le_from, le_to, not_le_from, not_true}
use Rattle.wax_components.proofs.Exact.{Exact, exact_concatenated, exact_empty_text, exact_no_text}
use Rattle.wax_components.proofs.{Exact.{exact_same, exact_union}, KleeneStar.{OrNone, exact_kleene_star}}
use Rattle.wax_components.proofs.Powers.{exact_power}

module _ {r : Profile} {P : List ℕ → Type 0} (f : Exact r P) where
  abbrev UpTo : ℕ → List ℕ → Type 0
  UpTo n s = (k : ℕ) × (k ≤ n) × Many P k s

  up_to_from : (n : ℕ) (s : List ℕ) → Many (OrNone P) n s → UpTo n s
  up_to_from zero s h = (0, omega arith, h)
  up_to_from (suc n) s h =
      let r : UpTo n h.1 = up_to_from n h.1 h.4 in
      elim h.3 [
        | inl e ↦ (r.0, omega (arith, r.1), subst (Many P r.0) (sym (h.2 ∙ ap (λ z. z ++ h.1) e)) r.2)
        | inr p ↦ (suc r.0, omega (arith, r.1), (h.0, h.1, h.2, p, r.2))
      ]

  up_to_to : (n k : ℕ) (s : List ℕ) → k ≤ n → Many P k s → Many (OrNone P) n s
  up_to_to zero zero s le h = h
  up_to_to zero (suc k) s le h = absurd (omega (arith, le))
  up_to_to (suc n) zero s le h = ([], s, refl, inl refl, up_to_to n zero s (omega arith) h)
  up_to_to (suc n) (suc k) s le h = (h.0, h.1, h.2, inr h.3, up_to_to n k h.1 (omega (arith, le)) h.4)

  closed_from : (low high : ℕ) → low ≤ high → (s : List ℕ)
      → OneThen (Many P low) (Many (OrNone P) (high - low)) s → ManyWithin P low (Some high) s
  closed_from low high le s h =
      let u : UpTo (high - low) h.1 = up_to_from (high - low) h.1 h.4 in (
        low + u.0,
        omega arith,
        omega (arith, u.1, le),
        subst (Many P (low + u.0)) (sym h.2) (many_add P low u.0 h.0 h.1 h.3 u.2),
      )

  closed_to : (low high : ℕ) → (s : List ℕ) → ManyWithin P low (Some high) s
      → OneThen (Many P low) (Many (OrNone P) (high - low)) s
  closed_to low high s h =
      let e : h.0 ≡ low + (h.0 - low) = omega (arith, h.1) in
      let r : OneThen (Many P low) (Many P (h.0 - low)) s =
      many_split P low (h.0 - low) s (subst (λ z. Many P z s) e h.3) in
      (r.0, r.1, r.2, r.3, up_to_to (high - low) (h.0 - low) r.1 (omega (arith, h.1, h.2)) r.4)

  pub exact_power_range : (low : ℕ) (high : Option ℕ) → Exact (power_range low high r) (ManyWithin P low high)
  exact_power_range low None = exact_same (open_from P low) (open_to P low)
      (exact_concatenated (exact_power f low) (exact_kleene_star f))
  exact_power_range low (Some high) =
      elim (nat_le low high) as (λ b. nat_le low high ≡ b → Exact (if b then concatenated (power low r)
      (power (high - low) (union empty_text r)) else no_text) (ManyWithin P low (Some high))) [
        | true ↦ λ e. exact_same (closed_from low high (le_from low high e)) (closed_to low high)
            (exact_concatenated (exact_power f low)
            (exact_power (exact_union exact_empty_text f) (high - low)))
        | false ↦ λ e.
            exact_same (λ s h. absurd h)
            (λ s h. not_le_from low high e (omega (arith, h.1, h.2))) exact_no_text
      ] refl

  pub exact_only : (b : Bool) → Exact (only b r) (λ s. (b ≡ true) × P s)
  exact_only true = exact_same (λ s p. (refl, p)) (λ s h. h.1) f
  exact_only false = exact_same (λ s h. absurd h) (λ s h. not_true h.0) exact_no_text

module _ (Body : Bool → Bool → List ℕ → Type 0) where
  module _ (low : ℕ) (high : Option ℕ) (before after : Bool) where
    abbrev Ways : List ℕ → Type 0
    Ways s = ((admits 0 low high ≡ true) × (s ≡ [])) ⊎ (((admits 1 low high ≡ true) × Body before after s)
        ⊎ ((admits_two low high ≡ true) × TwoMore Body (low - 2) (less_two high) before after s))

    admits_to : (k : ℕ) (high : Option ℕ) → low ≤ k → AtMost k high → admits k low high ≡ true
    admits_to k None le h = le_to low k le
    admits_to k (Some n) le h = and_from (nat_le low k) (nat_le k n) (le_to low k le) (le_to k n h)

    admits_from : (k : ℕ) (high : Option ℕ) → admits k low high ≡ true → (low ≤ k) × AtMost k high
    admits_from k None e = (le_from low k e, tt)
    admits_from k (Some n) e = let p : (nat_le low k ≡ true) × (nat_le k n ≡ true) =
        both_true (nat_le low k) (nat_le k n) e in (le_from low k p.0, le_from k n p.1)

    two_to : (k : ℕ) (high : Option ℕ) → low ≤ suc (suc k) → AtMost (suc (suc k)) high
        → (admits_two low high ≡ true) × AtMost k (less_two high)
    two_to k None le h = (refl, tt)
    two_to k (Some n) le h = (
      and_from (nat_le 2 n) (nat_le low n) (le_to 2 n (omega (arith, h)))
          (le_to low n (omega (arith, h, le))),
      omega (arith, h),
    )

    two_from : (k : ℕ) (high : Option ℕ) → admits_two low high ≡ true → AtMost k (less_two high)
        → AtMost (suc (suc k)) high
    two_from k None e h = tt
    two_from k (Some n) e h = let p : (nat_le 2 n ≡ true) × (nat_le low n ≡ true) =
        both_true (nat_le 2 n) (nat_le low n) e in omega (arith, h, le_from 2 n p.0)

    ways_to : (s : List ℕ) (k : ℕ) → low ≤ k → AtMost k high → Copies k Body before after s → Ways s
    ways_to s zero le h c = inl (admits_to 0 high le h, c)
    ways_to s (suc zero) le h c = inr (inl (admits_to 1 high le h, c))
    ways_to s (suc (suc k)) le h c = let p : (admits_two low high ≡ true) × AtMost k (less_two high) =
        two_to k high le h in
        inr (inr (p.0, (k, omega (arith, le), p.1, c)))

    ways_from : (s : List ℕ) → Ways s → Repeats Body low high before after s
    ways_from s (inl h) = let p : (low ≤ 0) × AtMost 0 high = admits_from 0 high h.0 in (0, p.0, p.1, h.1)
    ways_from s (inr (inl h)) = let p : (low ≤ 1) × AtMost 1 high =
        admits_from 1 high h.0 in (1, p.0, p.1, h.1)
    ways_from s (inr (inr h)) = (suc (suc h.1.0), omega (arith, h.1.1), two_from h.1.0 high h.0 h.1.2, h.1.3)

    module _ {body : Bool → Bool → Profile}
        (f : (before after : Bool) → Exact (body before after) (Body before after)) where
      exact_many : (low : ℕ) (high : Option ℕ)
          → Exact (two_or_more low high body before after) (TwoMore Body low high before after)
      exact_many low high =
          exact_same (two_more_from Body low high before after) (two_more_to Body low high before after)
          (exact_concatenated (f before true)
          (exact_concatenated (exact_power_range (f true true) low high) (f true after)))

      pub exact_repeated : Exact (repeated_profile low high body before after)
          (Repeats Body low high before after)
      exact_repeated = exact_same ways_from (λ s h. ways_to s h.0 h.1 h.2 h.3)
          (exact_union (exact_only exact_empty_text (admits 0 low high))
          (exact_union (exact_only (f before after) (admits 1 low high))
          (exact_only (exact_many (low - 2) (less_two high)) (admits_two low high))))
