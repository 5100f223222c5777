-- Which texts a program selects.
use Rattle.std.specs.Prelude.{◌≡◌, ◌↔◌, ◌%◌, ◌==◌, ◌≤◌, ℕ, Bool, true, List, [], ◌∷◌, ◌++◌, ⊤}
use Rattle.wax_compare.specs.declared.wanted.Criterion.{Criterion}
use Rattle.wax_compare.specs.declared.wanted.Criterion.TheVariants.{Accepted, OddLast}
use Rattle.wax_program.specs.{Closed.IsClosed, Machine.{Accepts, mark}}
use Rattle.wax_program.specs.declared.instruction.Instruction.{Instruction}

abbrev pub is_odd : ℕ → Bool
is_odd n = n % 2 == 1

-- there is a greatest number for which the fact holds, and it is odd
pub record HasOddLast (Q : ℕ → Type 0) : Type 0 where
  pub last : ℕ
  pub holds : Q last
  pub greatest : (number : ℕ) → Q number → number ≤ last
  pub odd : is_odd last ≡ true

-- the text is selected, where `Takes` says which texts are accepted
abbrev pub IsSelected : Criterion → (List ℕ → Type 0) → List ℕ → Type 0
IsSelected Accepted Takes s = Takes s
IsSelected OddLast Takes s = HasOddLast (λ number. Takes (s ++ mark number ∷ []))

-- the program can be asked in this way
abbrev pub CanSelect : Criterion → List Instruction → Type 0
CanSelect Accepted code = ⊤
CanSelect OddLast code = IsClosed code

-- the program selects exactly these texts, by one criterion or the other
pub record SelectsTexts (Selects : List ℕ → Type 0) (code : List Instruction) : Type 0 where
  pub criterion : Criterion
  pub can_select : CanSelect criterion code
  pub selects : (s : List ℕ) → IsSelected criterion (Accepts code 0) s ↔ Selects s
