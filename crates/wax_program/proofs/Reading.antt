-- Flags of the places whose test a character other than `/` passes.
use Rattle.std.proofs.Common.{◌≡◌, ◌↔◌, ℕ, ◌+◌, ◌<◌, ◌≤◌, Bool, true, false, IsTrue, List, Some, length, set}
use Rattle.std.proofs.{Common.{slice_get, inl, inr, subst, sym, ◌∙◌, arith}, lemmas.Bool.cases_eq}
use Rattle.std.proofs.lemmas.Option.{slice_get_within}
use Rattle.wax_program.specs.{Onward.{AreOthers, TakesOther}, Places.HoldsPlace, Tests.test_of}
use Rattle.wax_program.specs.{declared.instruction.Instruction.Instruction, declared.instruction.Test.Test}
use Rattle.wax_program.proofs.Members.{added_keeps, added_only, has_added}

-- the flags are right below a place, and none is set from there on
pub record AreFirst (code : List Instruction) (flags : List Bool) (at : ℕ) : Type 0 where
  pub none : (k : ℕ) → at ≤ k → HoldsPlace flags k → ⊥
  pub are : (k : ℕ) (i : Instruction) (t : Test) → k < at → slice_get code k ≡ Some i → test_of i ≡ Some t
      → HoldsPlace flags k ↔ TakesOther t

-- what is said of the instruction at a place
abbrev pub SaysOther : List Instruction → ℕ → Bool → Type 0
SaysOther code at b = (i : Instruction) (t : Test) → slice_get code at ≡ Some i → test_of i ≡ Some t
    → IsTrue b ↔ TakesOther t

module _ (code : List Instruction) (flags : List Bool) (at : ℕ) (first : AreFirst code flags at) where
  -- one more flag is set
  pub first_set : at < length flags → (b : Bool) → b ≡ true → SaysOther code at b
      → AreFirst code (set flags at true) (at + 1)
  first_set room b holds says = record {
    none = λ k le h. elim (added_only flags at k h) [
      | inl g ↦ first.none k (omega (arith, le)) g
      | inr e ↦ omega (arith, le, e)
    ];
    are = λ k i t lt is has. elim (cases_eq k at) [
      | inl e ↦ (
        (λ _. (says i t (subst (λ n. slice_get code n ≡ Some i) e is) has).0 holds),
        (λ _. subst (HoldsPlace (set flags at true)) (sym e) (has_added flags at room)),
      )
      | inr ne ↦
          let same = first.are k i t (omega (arith, lt, ne)) is has in (
            (λ h. same.0 (elim (added_only flags at k h) [ inl g ↦ g | inr e ↦ absurd (ne e) ])),
            (λ h. added_keeps flags at k (same.1 h)),
          )
    ];
  }

  -- one more isn't
  pub first_left : (b : Bool) → b ≡ false → SaysOther code at b → AreFirst code flags (at + 1)
  first_left b fails says = record {
    none = λ k le h. first.none k (omega (arith, le)) h;
    are = λ k i t lt is has. elim (cases_eq k at) [
      | inl e ↦ (
        (λ h. absurd (first.none k (omega (arith, e)) h)),
        (λ h. absurd (let so = (says i t (subst (λ n. slice_get code n ≡ Some i) e is) has).1 h in
            let clash : true ≡ false = sym so ∙ fails in let g : ⊥ = cc in g)),
      )
      | inr ne ↦ first.are k i t (omega (arith, lt, ne)) is has
    ];
  }

pub are_others : (code : List Instruction) (flags : List Bool) (at : ℕ) → AreFirst code flags at
    → length code ≤ at → AreOthers code flags
are_others code flags at first all k i t is has =
    let within = slice_get_within code k i is in
    first.are k i t (omega (arith, within, all)) is has
