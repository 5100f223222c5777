-- Repetitions of one character.
use Rattle.std.proofs.Common.{◌≡◌, ℕ, zero, suc, ◌≤◌, ◌↔◌, Bool, true, List, [], ◌∷◌, ◌++◌, Option, length}
use Rattle.std.proofs.Common.{refl, sym, ap, subst, arith}
use Rattle.wax_program.specs.declared.instruction.Test.{Test}
use Rattle.wax_query.specs.Ranges.{AtMost}
use Rattle.wax_token.specs.Meaning.{Copies}
use Rattle.wax_lengths.specs.Forms.{EachPasses, IsRunOf}
use Rattle.wax_capture.specs.inner.Ways.{PassesOne}

module _ (t : Test) (Body : Bool → Bool → List ℕ → Type 0)
    (one : (before after : Bool) (x : List ℕ) → PassesOne t x ↔ Body before after x) where
  copies_to : (k : ℕ) (before after : Bool) (x : List ℕ) → EachPasses t x → length x ≡ k
      → Copies k Body before after x
  copies_to zero before after [] h e = refl
  copies_to zero before after (c ∷ x) h e = absurd (omega (arith, e))
  copies_to (suc zero) before after [] h e = absurd (omega (arith, e))
  copies_to (suc zero) before after (c ∷ []) h e = (one before after (c ∷ [])).0 (c, refl, h.0)
  copies_to (suc zero) before after (c ∷ d ∷ x) h e = absurd (omega (arith, e))
  copies_to (suc (suc k)) before after [] h e = absurd (omega (arith, e))
  copies_to (suc (suc k)) before after (c ∷ x) h e = (
    c ∷ [],
    x,
    refl,
    (one before true (c ∷ [])).0 (c, refl, h.0),
    copies_to (suc k) true after x h.1 (omega (arith, e)),
  )

  passes_one : (x : List ℕ) → PassesOne t x → EachPasses t x × (length x ≡ 1)
  passes_one x h = subst (λ z. EachPasses t z × (length z ≡ 1)) (sym h.1) ((h.2, tt), refl)

  copies_from : (k : ℕ) (before after : Bool) (x : List ℕ) → Copies k Body before after x
      → EachPasses t x × (length x ≡ k)
  copies_from zero before after x h = subst (λ z. EachPasses t z × (length z ≡ 0)) (sym h) (tt, refl)
  copies_from (suc zero) before after x h = passes_one x ((one before after x).1 h)
  copies_from (suc (suc k)) before after x h =
      let p = (one before true h.0).1 h.3 in
      let r : EachPasses t h.1 × (length h.1 ≡ suc k) = copies_from (suc k) true after h.1 h.4 in
      let both : EachPasses t (p.0 ∷ h.1) × (length (p.0 ∷ h.1) ≡ suc (suc k)) =
      ((p.2, r.0), ap (λ n. suc n) r.1) in
      subst (λ z. EachPasses t z × (length z ≡ suc (suc k))) (sym h.2)
      (subst (λ z. EachPasses t (z ++ h.1) × (length (z ++ h.1) ≡ suc (suc k))) (sym p.1) both)

  -- a run of so many characters is that many copies
  pub run_means : (low : ℕ) (high : Option ℕ) (before after : Bool) (x : List ℕ)
      → IsRunOf t low high x ↔ ((k : ℕ) × (low ≤ k) × AtMost k high × Copies k Body before after x)
  run_means low high before after x = (
    (λ h. (length x, h.1, h.2, copies_to (length x) before after x h.0 refl)),
    (λ h.
        let r = copies_from h.0 before after x h.3 in
        (r.0, subst (λ n. low ≤ n) (sym r.1) h.1, subst (λ n. AtMost n high) (sym r.1) h.2)),
  )
