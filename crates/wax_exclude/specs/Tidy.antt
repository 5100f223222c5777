-- Ignore lists without the lines that decide nothing about plain paths. Without some of them, others may
-- decide nothing, too, so lines are removed until none is known to decide nothing.
use Rattle.std.specs.Prelude.{◌≡◌, ◌≢◌, ◌↔◌, ◌<◌, ◌++◌, [], ◌∷◌, ℕ, List, Some, Contains, length, map}
use Rattle.std.specs.{Prelude.{slice_get, ⊤}, List.AllZip, List.Sorted.IsStrictlyIncreasing}
use Rattle.wax_exclude.specs.Idle.{DecidesSome, IsPath, IsReason, LineIgnores, LineMeans}
use Rattle.wax_exclude.specs.{Ignored.{Line, is_ignored}, declared.idle.IdleLine.IdleLine}
use Rattle.wax_exclude.specs.declared.idle.IdleReason.TheVariants.{Unknown}

-- each line decides some plain path, except those with these indexes, of which it isn't known
abbrev pub IsTidy : {A : Type 0} → List (Line A) → List ℕ → Type 0
IsTidy lines unknown = (k : ℕ) → k < length lines → ¬ (Contains unknown k)
    → DecidesSome (LineIgnores lines) (LineMeans lines) k

-- these are the elements of a list at these indexes, in order
abbrev pub AreAt : {X : Type 0} → List X → List ℕ → List X → Type 0
AreAt xs indexes found = AllZip (λ k x. slice_get xs k ≡ Some x) indexes found

-- the indexes of these lines
abbrev pub indexes_of : List IdleLine → List ℕ
indexes_of idle = map (λ x. x.index) idle

-- the line with this index isn't among those that are gone, and ignores
pub record StillIgnores {A : Type 0} (lines : List (Line A)) (gone : List ℕ) (index : ℕ) : Type 0 where
  pub is_there : ¬ (Contains gone index)
  pub ignores : LineIgnores lines index

-- the line with this index isn't among those that are gone, and means the text
pub record StillMeans {A : Type 0} (lines : List (Line A)) (gone : List ℕ) (index : ℕ)
    (s : List ℕ) : Type 0 where
  pub is_there : ¬ (Contains gone index)
  pub means : LineMeans lines index s

-- Once these lines are gone, this one is still there and decides nothing, for its reason, which is known.
pub record CanGoAfter {A : Type 0} (lines : List (Line A)) (gone : List ℕ) (line : IdleLine) : Type 0 where
  pub within : line.index < length lines
  pub is_there : ¬ (Contains gone line.index)
  pub is_known : line.reason ≢ Unknown
  pub is : IsReason (StillIgnores lines gone) (StillMeans lines gone) line.index line.reason

-- each of these lines can go after those that are gone and those before it
abbrev pub GoInTurn : {A : Type 0} → List (Line A) → List ℕ → List IdleLine → Type 0
GoInTurn lines gone [] = ⊤
GoInTurn lines gone (x ∷ xs) = CanGoAfter lines gone x × GoInTurn lines (gone ++ x.index ∷ []) xs

-- These lines were removed, one after the other, and those with these indexes are left.
pub record Removes {A : Type 0} (lines : List (Line A)) (removed : List IdleLine)
    (left : List ℕ) : Type 0 where
  pub in_turn : GoInTurn lines [] removed
  pub ascending : IsStrictlyIncreasing left
  pub others : (k : ℕ) → Contains left k ↔ ((k < length lines) × ¬ (Contains (indexes_of removed) k))

-- The lines with these indexes are left after the others were removed. They ignore the same plain paths, and
-- each decides one, except those that are unknown.
pub record TidiesUp {A : Type 0} (lines : List (Line A)) (removed : List IdleLine) (indexes : List ℕ)
    (tidy : List (Line A)) (unknown : List ℕ) : Type 0 where
  pub at : AreAt lines indexes tidy
  pub removes : Removes lines removed indexes
  pub same : (s : List ℕ) → IsPath s → is_ignored tidy s ≡ is_ignored lines s
  pub is_tidy : IsTidy tidy unknown
