-- What is true of the same texts is the same.
use Rattle.std.proofs.Common.{◌≡◌, ◌↔◌, ℕ, Bool, true, false, IsTrue, IfOk, List, Option, None, Result, refl}
use Rattle.std.proofs.{Common.{subst, sym}, lemmas.Result.IfOk-weaker}
use Rattle.wax_prefilter.specs.Below.{MeansBelow, MeansWithin, goes_test, goes_tested}
use Rattle.wax_lazy.proofs.Walking.{decides_by}
use Rattle.wax_lazy.specs.Verdict.{AcceptsBelow, IsVerdict}
use Rattle.wax_program.specs.{Machine.Accepts, declared.instruction.Instruction.Instruction}
use Rattle.wax_query.proofs.Below.{without_limit as below_by_none}
use Rattle.wax_query.specs.declared.query.verdict.Verdict.{Verdict}
use Rattle.wax_token.specs.{Decided.{means_test, means_tested}, Meaning.Means, Syntax.Tree}

pub same_truth : {P : Type 0} (a b : Bool) → (IsTrue a ↔ P) → (IsTrue b ↔ P) → a ≡ b
same_truth true true h k = refl
same_truth true false h k = let e : IsTrue false = k.1 (h.0 refl) in cc
same_truth false true h k = let e : IsTrue false = h.1 (k.0 refl) in cc
same_truth false false h k = refl

-- an answer that is true exactly where a test is, is that test's
pub decided_alike : {E P : Type 0} (r : Result Bool E) (b : Bool) → (IsTrue b ↔ P)
    → IfOk r (λ a. IsTrue a ↔ P) → IfOk r (λ a. a ≡ b)
decided_alike r b k h = IfOk-weaker r _ _ (λ a m. same_truth a b m k) h

-- with no limit, something below is meant
without_limit : {A : Type 0} (t : Tree A) (folder : List ℕ) → MeansWithin t None folder ↔ MeansBelow t folder
without_limit t folder = (
  (λ (s, is, all, m). (s, (below_by_none folder s).0 is, all, m)),
  (λ (s, is, all, m). (s, (below_by_none folder s).1 is, all, m)),
)

-- ---- what a program says that accepts the texts that a tree means
module _ {A : Type 0} (t : Tree A) (code : List Instruction)
    (accepts : (s : List ℕ) → Accepts code 0 s ↔ Means t false false s) where
  below_alike : (most : Option ℕ) (folder : List ℕ)
      → AcceptsBelow code most folder ↔ MeansWithin t most folder
  below_alike most folder = (
    (λ (s, is, all, a). (s, is, all, (accepts s).0 a)),
    (λ (s, is, all, m). (s, is, all, (accepts s).1 m)),
  )

  pub answers_below : {E : Type 0} (r : Result Bool E) (text path : List ℕ) → text ≡ path
      → IfOk r (λ b. IsTrue b ↔ AcceptsBelow code None text)
      → IfOk r (λ b. IsTrue b ↔ MeansBelow t path)
  answers_below r text path e h =
      IfOk-weaker r _ _ (λ b k. decides_by b _ _ (without_limit t path)
      (decides_by b _ _ (below_alike None path) (subst (λ s. IsTrue b ↔ AcceptsBelow code None s) e k))) h

  module _ {E : Type 0} (r : Result Verdict E) (most : Option ℕ) (text path : List ℕ) (e : text ≡ path)
      (h : IfOk r (IsVerdict code most text)) where
    pub verdict_decides : IfOk r (λ v. v.is_match ≡ means_test t false false path)
    verdict_decides = IfOk-weaker r _ _ (λ v k. same_truth v.is_match _
        (decides_by v.is_match _ _ (accepts path)
        (subst (λ s. IsTrue v.is_match ↔ Accepts code 0 s) e k.matches))
        (means_tested t false false path)) h

    pub verdict_onward : IfOk r (λ v. v.goes_on ≡ goes_test t most path)
    verdict_onward = IfOk-weaker r _ _ (λ v k. same_truth v.goes_on _
        (decides_by v.goes_on _ _ (below_alike most path)
        (subst (λ s. IsTrue v.goes_on ↔ AcceptsBelow code most s) e k.below))
        (goes_tested t most path)) h

-- ---- what a verdict says by the tests
module _ {A E : Type 0} (t : Tree A) (r : Result Verdict E) (path : List ℕ) where
  pub verdict_means : IfOk r (λ v. v.is_match ≡ means_test t false false path)
      → IfOk r (λ v. IsTrue v.is_match ↔ Means t false false path)
  verdict_means = IfOk-weaker r _ _ (λ v e. subst (λ b. IsTrue b ↔ Means t false false path) (sym e)
      (means_tested t false false path))

  pub verdict_below : IfOk r (λ v. v.goes_on ≡ goes_test t None path)
      → IfOk r (λ v. IsTrue v.goes_on ↔ MeansBelow t path)
  verdict_below = IfOk-weaker r _ _ (λ v e. subst (λ b. IsTrue b ↔ MeansBelow t path) (sym e)
      (decides_by (goes_test t None path) _ _ (without_limit t path) (goes_tested t None path)))
