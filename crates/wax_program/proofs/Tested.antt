-- Which tests a character passes, as decided facts.
use Rattle.std.proofs.{Common.{◌↔◌, ◌<◌, ℕ, zero, suc, inl, inr, subst, arith}, lemmas.Bool.cases_eq}
use Rattle.unicode.specs.CaseFolding.{simple_fold}
use Rattle.wax_token.specs.{Decided.{Decided, both, is_true}, Meaning.in_class}
use Rattle.wax_program.specs.declared.instruction.Test.{Test}
use Rattle.wax_program.specs.declared.instruction.Test.TheVariants.{Char, Folded, Class, NotSlash, Any, Never}
use Rattle.wax_program.specs.{Machine.PassesTest, Onward.{IsOther, TakesOther}}
use Rattle.wax_program.proofs.Scalars.{scalar_small}

pub decided_by : {P Q : Type 0} → P ↔ Q → Decided P → Decided Q
decided_by e (inl p) = inl (e.0 p)
decided_by e (inr n) = inr (λ q. n (e.1 q))

pub passes_decided : (t : Test) (c : ℕ) → Decided (PassesTest t c)
passes_decided (Char d) c = cases_eq c d
passes_decided (Folded d) c = cases_eq d (simple_fold c)
passes_decided (Class k) c = is_true (in_class k.0 k.1 c)
passes_decided NotSlash c = elim (cases_eq c 47) [ inl e ↦ inr (λ ne. ne e) | inr ne ↦ inl ne ]
passes_decided Any c = inl tt
passes_decided Never c = inr (λ h. h)

-- ---- a number below a bound
module _ (P : ℕ → Type 0) (each : (c : ℕ) → Decided (P c)) where
  below_decided : (n : ℕ) → Decided ((c : ℕ) × (c < n) × P c)
  below_decided zero = inr (λ (c, lt, p). omega (arith, lt))
  below_decided (suc n) = elim (each n) [
    | inl p ↦ inl (n, omega arith, p)
    | inr none ↦ elim (below_decided n) [
      | inl (c, lt, p) ↦ inl (c, omega (arith, lt), p)
      | inr fewer ↦ inr (λ (c, lt, p). elim (cases_eq c n) [
        | inl e ↦ none (subst P e p)
        | inr ne ↦ fewer (c, omega (arith, lt, ne), p)
      ])
    ]
  ]

other_is : (c : ℕ) → Decided (IsOther c)
other_is c = both (is_true _) (elim (cases_eq c 47) [ inl e ↦ inr (λ ne. ne e) | inr ne ↦ inl ne ])

pub other_decided : (t : Test) → Decided (TakesOther t)
other_decided t =
    decided_by (
      (λ (c, lt, h). (c, h.0, h.1)),
      (λ (c, other, p). (c, scalar_small c other.0, (other, p))),
    ) (below_decided (λ c. IsOther c × PassesTest t c) (λ c. both (other_is c) (passes_decided t c)) 1114112)
