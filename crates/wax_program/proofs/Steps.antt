-- One step of each instruction.
use Rattle.std.proofs.Common.{◌≡◌, ℕ, suc, ◌+◌, ◌-◌, ◌⊎◌, List, [], ◌∷◌, Some, slice_get, inl, inr}
use Rattle.wax_program.specs.{declared.instruction.Test.Test, declared.instruction.Instruction.Instruction}
use Rattle.wax_program.specs.declared.instruction.Instruction.TheVariants.{Check, Repeat, Components, Fork}
use Rattle.wax_program.specs.declared.instruction.Instruction.TheVariants.{Jump, Back}
use Rattle.wax_program.specs.Machine.{PassesTest, Accepts}

-- one step of a test
pub after_test : (t : Test) (code : List Instruction) (at : ℕ) (c : ℕ) (s : List ℕ)
    → slice_get code at ≡ Some (Check t) → PassesTest t c → Accepts code (at + 1) s → Accepts code at (c ∷ s)
after_test t code at c s st p h = (suc h.0, inr (Check t, st, (p, h.1)))

pub after_fork : (n : ℕ) (code : List Instruction) (at : ℕ) (s : List ℕ) → slice_get code at ≡ Some (Fork n)
    → Accepts code (at + 1) s ⊎ Accepts code (at + 1 + n) s → Accepts code at s
after_fork n code at s st (inl h) = (suc h.0, inr (Fork n, st, inl h.1))
after_fork n code at s st (inr h) = (suc h.0, inr (Fork n, st, inr h.1))

pub after_jump : (n : ℕ) (code : List Instruction) (at : ℕ) (s : List ℕ) → slice_get code at ≡ Some (Jump n)
    → Accepts code (at + 1 + n) s → Accepts code at s
after_jump n code at s st h = (suc h.0, inr (Jump n, st, h.1))

pub after_back : (n : ℕ) (code : List Instruction) (at : ℕ) (s : List ℕ) → slice_get code at ≡ Some (Back n)
    → Accepts code (at - n) s → Accepts code at s
after_back n code at s st h = (suc h.0, inr (Back n, st, h.1))

-- past a test that is repeated, and once more
pub after_last : (t : Test) (code : List Instruction) (at : ℕ) (s : List ℕ)
    → slice_get code at ≡ Some (Repeat t) → Accepts code (at + 1) s → Accepts code at s
after_last t code at [] st h = (suc h.0, inr (Repeat t, st, h.1))
after_last t code at (c ∷ s) st h = (suc h.0, inr (Repeat t, st, inl h.1))

pub after_one : (t : Test) (code : List Instruction) (at c : ℕ) (s : List ℕ)
    → slice_get code at ≡ Some (Repeat t) → PassesTest t c → Accepts code at s → Accepts code at (c ∷ s)
after_one t code at c s st p h = (suc h.0, inr (Repeat t, st, inr (p, h.1)))

-- one character of components, and the last one
pub after_any : (code : List Instruction) (at c : ℕ) (s : List ℕ) → slice_get code at ≡ Some Components
    → Accepts code at s → Accepts code at (c ∷ s)
after_any code at c s st h = (suc h.0, inr (Components, st, inl h.1))

pub after_slash : (code : List Instruction) (at c : ℕ) (s : List ℕ) → slice_get code at ≡ Some Components
    → c ≡ 47 → Accepts code (at + 1) s → Accepts code at (c ∷ s)
after_slash code at c s st e h = (suc h.0, inr (Components, st, inr (e, h.1)))
