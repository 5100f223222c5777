-- Runs of characters that pass a test, and how a text begins.
use Rattle.std.proofs.Common.{◌≡◌, ℕ, zero, suc, ◌+◌, ◌<◌, ◌≤◌, ◌↔◌, List, [], ◌∷◌, Option, length, get_or}
use Rattle.std.proofs.Common.{take, drop, refl, sym, ◌∙◌, ap, subst, inl, inr, arith, length-take}
use Rattle.std.proofs.lemmas.Bool.{cases_lt}
use Rattle.wax_program.specs.{declared.instruction.Test.Test, Machine.PassesTest}
use Rattle.wax_query.specs.{Components.BeginsWithSlash, Ranges.AtMost}
use Rattle.wax_lengths.specs.{Forms.{EachPasses, IsRunOf}, Spans.AreLengths}
use Rattle.wax_lengths.proofs.FormLengths.{between, from_place}

-- ---- runs
each_at : (t : Test) (s : List ℕ) (n m c : ℕ) → n < m → n < length s → c ≡ get_or s n c
    → EachPasses t (take m s) → PassesTest t c
each_at t s n zero c lt len is h = absurd (omega (arith, lt))
each_at t [] n (suc m) c lt len is h = absurd (omega (arith, len))
each_at t (d ∷ s) zero (suc m) c lt len is h = subst (PassesTest t) (sym is) h.0
each_at t (d ∷ s) (suc n) (suc m) c lt len is h =
    each_at t s n m c (omega (arith, lt)) (omega (arith, len)) is h.1

pub each_more : (t : Test) (s : List ℕ) (n c : ℕ) → n < length s → c ≡ get_or s n c → PassesTest t c
    → EachPasses t (take n s) → EachPasses t (take (n + 1) s)
each_more t [] n c lt is p h = absurd (omega (arith, lt))
each_more t (d ∷ s) zero c lt is p h = (subst (PassesTest t) is p, tt)
each_more t (d ∷ s) (suc n) c lt is p h =
    let m : suc n + 1 ≡ suc (n + 1) = omega arith in
    rw m (h.0, each_more t s n c (omega (arith, lt)) is p h.1)

each_less : (t : Test) (s : List ℕ) (n m : ℕ) → n ≤ m → EachPasses t (take m s) → EachPasses t (take n s)
each_less t s zero m le h = tt
each_less t [] (suc n) m le h = tt
each_less t (d ∷ s) (suc n) zero le h = absurd (omega (arith, le))
each_less t (d ∷ s) (suc n) (suc m) le h = (h.0, each_less t s n m (omega (arith, le)) h.1)

-- a character that fails ends it
pub each_ends : (t : Test) (s : List ℕ) (n m c : ℕ) → n < length s → c ≡ get_or s n c → (PassesTest t c → ⊥)
    → EachPasses t (take m s) → m ≤ n
each_ends t s n m c len is fails h = elim (cases_lt n m) [
  | inl lt ↦ absurd (fails (each_at t s n m c lt len is h))
  | inr ge ↦ ge
]

module _ (t : Test) (low : ℕ) (high : Option ℕ) (s : List ℕ) (most m : ℕ) where
  pub run_lengths : most ≤ length s → ((n : ℕ) → n ≤ length s → AtMost n high ↔ (n ≤ most)) → m ≤ most
      → EachPasses t (take m s) → ((n : ℕ) → n ≤ most → EachPasses t (take n s) → n ≤ m) →
      AreLengths (IsRunOf t low high) s (between low (m + 1))
  run_lengths rest within few passes longest n le =
      let len : length (take n s) ≡ n = omega (arith, length-take n s, le) in (
        (λ h.
            let up : n ≤ most = (within n le).0 (subst (λ k. AtMost k high) len h.2) in
            (omega (arith, h.1, len), omega (arith, longest n up h.0), tt)),
        (λ h.
            let up : n ≤ m = omega (arith, h.1) in (
              each_less t s n m up passes,
              omega (arith, h.0, len),
              subst (λ k. AtMost k high) (sym len) ((within n le).1 (omega (arith, up, few))),
            )),
      )

-- ---- how a part of a text begins
pub begins_at : (text : List ℕ) (at d n c : ℕ) (x : List ℕ) → at < length text → d ≡ get_or text at d
    → take n (drop at text) ≡ c ∷ x → c ≡ d
begins_at text at d zero c x lt is e = absurd (nothing e)
  where
    nothing : [] ≡ c ∷ x → ⊥
    nothing e = cc
begins_at text at d (suc n) c x lt is e = head_same (sym e ∙ ap (take (suc n)) (from_place text at d lt is))
  where
    head_same : {y : List ℕ} → c ∷ x ≡ d ∷ y → c ≡ d
    head_same e = cc

-- a run that isn't empty
pub run_begins : (t : Test) (low : ℕ) (high : Option ℕ) (x : List ℕ) → (low ≡ 0 → ⊥) → IsRunOf t low high x
    → (c : ℕ) × (y : List ℕ) × (x ≡ c ∷ y) × PassesTest t c
run_begins t low high [] some h = absurd (some (omega (arith, h.1)))
run_begins t low high (c ∷ y) some h = (c, y, refl, h.0.0)

pub slash_begins : (s : List ℕ) (n : ℕ) → BeginsWithSlash (take n s) → BeginsWithSlash s
slash_begins [] zero h = h
slash_begins [] (suc n) h = h
slash_begins (d ∷ s) zero h = absurd (nothing h.1)
  where
    nothing : {t : List ℕ} → [] ≡ 47 ∷ t → ⊥
    nothing e = cc
slash_begins (d ∷ s) (suc n) h = (s, ap (λ c. c ∷ s) (head_same h.1))
  where
    head_same : {x t : List ℕ} → d ∷ x ≡ 47 ∷ t → d ≡ 47
    head_same e = cc
