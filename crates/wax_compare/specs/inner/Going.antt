-- Texts that go on from a pair of states.
use Rattle.std.specs.Prelude.{◌≡◌, ◌==◌, ℕ, Bool, true, false, not, IsTrue, List, [], ◌∷◌, ⊤}
use Rattle.wax_program.specs.{declared.instruction.Instruction.Instruction, Threads.AnyAmong}
use Rattle.wax_compare.specs.{declared.wanted.Texts.Texts, declared.wanted.Texts.TheVariants.{All, Paths}}
use Rattle.wax_compare.specs.{declared.wanted.Criterion.Criterion, declared.wanted.Wanted.Wanted}
use Rattle.wax_compare.specs.{Comparison.AsWanted, Selected.IsSelected}

-- two programs, which texts each of them selects, and which are looked for
pub record Task : Type 0 where
  pub code : List Instruction
  pub other : List Instruction
  pub criterion : Criterion
  pub other_criterion : Criterion
  pub wanted : Wanted
  pub texts : Texts

-- what follows is names with a `/` between each two; the flag says whether a name has begun
abbrev pub GoesOnInNames : Bool → List ℕ → Type 0
GoesOnInNames begun [] = IsTrue begun
GoesOnInNames begun (c ∷ s) = (c ≡ 47 → IsTrue begun) × GoesOnInNames (not (c == 47)) s

-- the text goes on with one of these texts. The flag says whether it may end, as far as its kind decides that
abbrev pub GoesOnAmong : Texts → Bool → List ℕ → Type 0
GoesOnAmong All begun s = IsTrue begun
GoesOnAmong Paths begun s = GoesOnInNames begun s

-- the flag at the beginning of a text
abbrev pub starts : Texts → Bool
starts All = true
starts Paths = false

-- the flag after a character
abbrev pub begun_after : Texts → Bool → ℕ → Bool
begun_after All begun c = begun
begun_after Paths begun c = not (c == 47)

-- the character may come next
abbrev pub IsAllowed : Texts → Bool → ℕ → Type 0
IsAllowed All begun c = ⊤
IsAllowed Paths begun c = c ≡ 47 → IsTrue begun

-- a text that led to these places of the two programs is wanted, if it goes on with s
pub record Goes (t : Task) (places others : List ℕ) (begun : Bool) (s : List ℕ) : Type 0 where
  pub decided : AsWanted t.wanted (IsSelected t.criterion (AnyAmong t.code places) s)
      (IsSelected t.other_criterion (AnyAmong t.other others) s)
  pub among : GoesOnAmong t.texts begun s
