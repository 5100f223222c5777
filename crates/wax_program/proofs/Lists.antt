-- Places that are parted, and places from which every text is accepted.
use Rattle.std.proofs.Common.{◌≡◌, ◌+◌, ◌<◌, ◌⊎◌, [], ◌∷◌, ◌++◌, inl, inr, ℕ, suc, List, Some, length, get_or}
use Rattle.std.proofs.{Common.{slice_get, Contains, refl, sym, ◌∙◌, subst, arith}, lemmas.Bool.cases_lt}
use Rattle.std.proofs.lemmas.List.{get_or_default}
use Rattle.std.proofs.lemmas.List.Elements.{Contains-append_left, Contains-push, Contains-push_cases}
use Rattle.wax_program.specs.declared.instruction.Instruction.{Instruction}
use Rattle.wax_program.specs.declared.instruction.Instruction.TheVariants.{Repeat}
use Rattle.wax_program.specs.{declared.instruction.Test.TheVariants.Any, Machine.Accepts}

-- the places before an index are in one of the parts, which have no others
pub record PartedBefore (places part other : List ℕ) (i : ℕ) : Type 0 where
  pub all : (j k : ℕ) → j < i → get_or places j k ≡ k → Contains part k ⊎ Contains other k
  pub of_part : (k : ℕ) → Contains part k → (j : ℕ) × (j < i) × (get_or places j k ≡ k)
  pub of_other : (k : ℕ) → Contains other k → (j : ℕ) × (j < i) × (get_or places j k ≡ k)

swapped : (A B : Type 0) → A ⊎ B → B ⊎ A
swapped A B (inl a) = inr a
swapped A B (inr b) = inl b

module _ (places : List ℕ) (i x : ℕ) (within : i < length places) (is : x ≡ get_or places i x) where
  pub parted_one : (part other : List ℕ) → PartedBefore places part other i
      → PartedBefore places (part ++ x ∷ []) other (i + 1)
  parted_one part other p = record {
    all = λ j k lt e. elim (cases_lt j i) [
      | inl before ↦
          elim (p.all j k before e) [ inl h ↦ inl (Contains-append_left part (x ∷ []) k h) | inr h ↦ inr h ]
      | inr past ↦ (let same : j ≡ i = omega (arith, lt, past) in
          let one : get_or places i k ≡ k = subst (λ n. get_or places n k ≡ k) same e in
          let new : x ≡ k = is ∙ get_or_default places i x k within ∙ one in
          inl (subst (Contains (part ++ x ∷ [])) new (Contains-push part x)))
    ];
    of_part = λ k h. elim (Contains-push_cases part x k h) [
      | inl old ↦ (let found = p.of_part k old in (found.0, omega (arith, found.1), found.2))
      | inr new ↦ (i, omega arith, subst (λ n. get_or places i n ≡ n) new (sym is))
    ];
    of_other = λ k h. (let found = p.of_other k h in (found.0, omega (arith, found.1), found.2));
  }

  pub parted_other : (part other : List ℕ) → PartedBefore places part other i
      → PartedBefore places part (other ++ x ∷ []) (i + 1)
  parted_other part other p =
      let q = parted_one other part (record {
        all = λ j k lt e. swapped _ _ (p.all j k lt e);
        of_part = p.of_other;
        of_other = p.of_part;
      }) in
      record { all = λ j k lt e. swapped _ _ (q.all j k lt e); of_part = q.of_other; of_other = q.of_part }

-- ---- places from which every text is accepted
-- a repeated test that any character passes, where the program ends after it
pub any_to_end : (code : List Instruction) (k : ℕ) → slice_get code k ≡ Some (Repeat Any)
    → k + 1 ≡ length code → (s : List ℕ) → Accepts code k s
any_to_end code k is last [] = (2, inr (Repeat Any, is, inl (last, refl)))
any_to_end code k is last (c ∷ s) = let (n, rest) = any_to_end code k is last s in
    (suc n, inr (Repeat Any, is, inr (tt, rest)))
