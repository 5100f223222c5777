-- Sets of places as flags.
use Rattle.std.proofs.Common.{◌≡◌, ℕ, zero, suc, ◌+◌, ◌<◌, ◌≤◌, ◌⊎◌, inl, inr, Bool, true, false, List, []}
use Rattle.std.proofs.Common.{◌∷◌, length, set, refl, sym, ◌∙◌, arith, true≢false, get_or-set_same}
use Rattle.std.proofs.{Common.{get_or-set_other, length-set}, lemmas.Bool.{cases_eq, cases_lt}}
use Rattle.std.proofs.lemmas.List.{get_or_past}
use Rattle.wax_program.specs.Places.{HoldsPlace, IsEmpty, Within, member_count}

-- a set whose places are below a number has at most that many
pub members_within : (n : ℕ) (flags : List Bool) → Within n flags → member_count flags ≤ n
members_within n [] h = omega arith
members_within zero (true ∷ flags) h = absurd (no_place (h 0 refl))
  where
    no_place : 0 < 0 → ⊥
    no_place e = omega (arith, e)
members_within zero (false ∷ flags) h = members_within zero flags (λ k g. absurd (no_place k (h (suc k) g)))
  where
    no_place : (k : ℕ) → suc k < 0 → ⊥
    no_place k e = omega (arith, e)
members_within (suc n) (true ∷ flags) h =
    omega (arith, members_within n flags (λ k g. let e : suc k < suc n = h (suc k) g in omega (arith, e)))
members_within (suc n) (false ∷ flags) h =
    omega (arith, members_within n flags (λ k g. let e : suc k < suc n = h (suc k) g in omega (arith, e)))

pub members_none : (flags : List Bool) → IsEmpty flags → member_count flags ≡ 0
members_none flags none = omega (arith, members_within 0 flags (λ k h. absurd (none k h)))

pub members_some : (flags : List Bool) (k : ℕ) → HoldsPlace flags k → 1 ≤ member_count flags
members_some [] k h = absurd (true≢false (sym h))
members_some (true ∷ flags) k h = omega arith
members_some (false ∷ flags) zero h = absurd (true≢false (sym h))
members_some (false ∷ flags) (suc k) h = members_some flags k h

-- a new place counts one more
pub members_set : (flags : List Bool) (at : ℕ) → at < length flags → (HoldsPlace flags at → ⊥)
    → member_count (set flags at true) ≡ member_count flags + 1
members_set [] at h e = omega (arith, h)
members_set (true ∷ flags) zero h e = absurd (e refl)
members_set (false ∷ flags) zero h e = refl
members_set (true ∷ flags) (suc at) h e = omega (arith, members_set flags at (omega (arith, h)) e)
members_set (false ∷ flags) (suc at) h e = members_set flags at (omega (arith, h)) e

module _ (flags : List Bool) (k : ℕ) where
  pub has_added : k < length flags → HoldsPlace (set flags k true) k
  has_added lt = get_or-set_same flags k true false lt

  pub added_keeps : (x : ℕ) → HoldsPlace flags x → HoldsPlace (set flags k true) x
  added_keeps x h = elim (cases_eq x k) [
    | inl same ↦ elim (cases_lt x (length flags)) [
      | inl lt ↦ (let e : HoldsPlace (set flags k true) k = has_added (omega (arith, same, lt)) in rw same e)
      | inr past ↦ absurd (true≢false (sym h ∙ get_or_past flags x false past))
    ]
    | inr other ↦ get_or-set_other flags k x true false other ∙ h
  ]

  pub added_only : (x : ℕ) → HoldsPlace (set flags k true) x → HoldsPlace flags x ⊎ (x ≡ k)
  added_only x h = elim (cases_eq x k) [
    | inl same ↦ inr same
    | inr other ↦ inl (sym (get_or-set_other flags k x true false other) ∙ h)
  ]

  pub removed_others : (x : ℕ) → HoldsPlace flags x → HoldsPlace (set flags k false) x ⊎ (x ≡ k)
  removed_others x h = elim (cases_eq x k) [
    | inl same ↦ inr same
    | inr other ↦ inl (get_or-set_other flags k x false false other ∙ h)
  ]

  pub removed_fewer : (x : ℕ) → HoldsPlace (set flags k false) x → HoldsPlace flags x
  removed_fewer x h = elim (cases_eq x k) [
    | inl same ↦ elim (cases_lt k (length flags)) [
      | inl lt ↦ absurd (true≢false (sym h ∙ (rw same (get_or-set_same flags k false false lt))))
      | inr past ↦ absurd (true≢false (sym h
          ∙ get_or_past (set flags k false) x false (omega (arith, same, past, length-set flags k false))))
    ]
    | inr other ↦ sym (get_or-set_other flags k x false false other) ∙ h
  ]
