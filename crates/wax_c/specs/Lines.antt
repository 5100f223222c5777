-- What the lines of an ignore list decide.
use Rattle.std.specs.Prelude.{◌≡◌, ℕ, ℤ, pos, neg_ℤ, List, Option, Some, None, Result, Ok, Err, IsUtf8, chars}
use Rattle.std.specs.Prelude.{◌<◌, ◌≤◌, ◌==◌, All, Bool, true, false, filter, length, map, not}
use Rattle.wax.specs.{Comparing.{AreIdle, AreUndecided, IsUndecided, TidiesUp}, Ignoring.IsDecidingLine}
use Rattle.wax.specs.{Language.Memory, declared.ignoring.IgnoreList.IgnoreList}
use Rattle.wax.specs.{declared.walk.IdleLine.IdleLine, declared.walk.IdleReason.IdleReason}
use Rattle.wax.specs.declared.walk.IdleReason.TheVariants.{Covered, TakesNothingBack, Unknown}
use Rattle.wax_c.specs.{Numbers.error_number, Outcomes.HoldsFirst, declared.error.CallError.CallError}
use Rattle.wax_c.specs.declared.error.CallError.TheVariants.{Build, NotText, NoRoom}

-- the index of the line that decides about the path, or none if no line does; nothing is said if memory runs
-- out
abbrev pub FindsLine : IgnoreList → List ℕ → Result (Option ℕ) CallError → Type 0
FindsLine list path (Ok found) = IsUtf8 path × IsDecidingLine list (chars path) found
FindsLine list path (Err (Build error)) = error ≡ Memory
FindsLine list path (Err NotText) = IsUtf8 path → ⊥
FindsLine list path (Err NoRoom) = ⊥

-- the index that is found, or 0
abbrev pub index_or_zero : Result (Option ℕ) CallError → ℕ
index_or_zero (Ok (Some index)) = index
index_or_zero (Ok None) = 0
index_or_zero (Err error) = 0

-- 1 if there is an index, 0 if there is none, or minus the number of an error
abbrev pub index_number : Result (Option ℕ) CallError → ℤ
index_number (Ok (Some index)) = pos 1
index_number (Ok None) = pos 0
index_number (Err error) = neg_ℤ (error_number error)

-- the number is that of such an outcome, and so is the line
abbrev pub FindsLineAs : IgnoreList → List ℕ → ℕ → ℤ → Type 0
FindsLineAs list path line number =
    (outcome : Result (Option ℕ) CallError) × FindsLine list path outcome × (line ≡ index_or_zero outcome)
    × (number ≡ index_number outcome)

-- whether it is known why a line decides nothing
abbrev pub is_sure : IdleReason → Bool
is_sure (Covered covers) = true
is_sure TakesNothingBack = true
is_sure Unknown = false

-- the indexes of those of these lines of which it is known why they decide nothing, and of the others
abbrev pub sure_indexes : List IdleLine → List ℕ
sure_indexes idle = map (λ x. x.index) (filter (λ x. is_sure x.reason) idle)

abbrev pub unsure_indexes : List IdleLine → List ℕ
unsure_indexes idle = map (λ x. x.index) (filter (λ x. not (is_sure x.reason)) idle)

-- These lines decide nothing about plain paths, and whether each of the others is known to decide. It isn't
-- only if a comparison of the line with others takes more states than the limit, or too large a program.
pub record AreSure (list : IgnoreList) (most : ℕ) (indexes : List ℕ) (others_decide : Bool) : Type 0 where
  pub idle : List IdleLine
  pub are_idle : AreIdle list idle
  pub undecided : AreUndecided list most idle
  pub indexes_are : indexes ≡ sure_indexes idle
  pub others : others_decide ≡ (length indexes == length idle)

-- Of these lines it isn't found whether they decide, since a comparison of each with others takes more states
-- than the limit, or too large a program; and whether there are none. Each of the others decides, or it is
-- known why it decides nothing.
pub record AreUnsure (list : IgnoreList) (most : ℕ) (indexes : List ℕ) (are_none : Bool) : Type 0 where
  pub idle : List IdleLine
  pub are_idle : AreIdle list idle
  pub undecided : AreUndecided list most idle
  pub indexes_are : indexes ≡ unsure_indexes idle
  pub none : are_none ≡ (length indexes == 0)

-- A list of only these lines ignores the same plain paths, and whether each of them is known to decide one in
-- that list. It isn't only if a comparison of the line with others takes more states than the limit, or too
-- large a program.
pub record AreEnough (list : IgnoreList) (most : ℕ) (indexes : List ℕ) (all_decide : Bool) : Type 0 where
  pub removed : List IdleLine
  pub tidy : IgnoreList
  pub unknown : List ℕ
  pub tidies : TidiesUp list removed indexes tidy unknown
  pub undecided : All (IsUndecided tidy most) unknown
  pub others : all_decide ≡ (length unknown == 0)

-- The list begins with such indexes, and the count is their number; or it is as before.
abbrev pub ListsFound : (List ℕ → Bool → Type 0) → List ℕ → List ℕ → ℕ → Result Bool CallError → Type 0
ListsFound Found before after count (Ok is_all) =
    (indexes : List ℕ) × Found indexes is_all × HoldsFirst indexes before after × (count ≡ length indexes)
ListsFound Found before after count (Err NoRoom) =
    (indexes : List ℕ) × (is_all : Bool) × Found indexes is_all × (length before < length indexes)
    × (after ≡ before) × (count ≡ length indexes)
ListsFound Found before after count (Err NotText) = ⊥
ListsFound Found before after count (Err (Build error)) = (error ≡ Memory) × (after ≡ before) × (count ≡ 0)

-- 0 if this is known of all lines, 2 if it isn't, or minus the number of an error
abbrev pub lines_number : Result Bool CallError → ℤ
lines_number (Ok true) = pos 0
lines_number (Ok false) = pos 2
lines_number (Err error) = neg_ℤ (error_number error)

-- the number is that of such an outcome, and a list of so many elements is large enough
abbrev pub ListsWithin : ℕ → (List ℕ → Bool → Type 0) → List ℕ → List ℕ → ℕ → ℤ → Type 0
ListsWithin most Found before after count number =
    (outcome : Result Bool CallError) × ListsFound Found before after count outcome
    × (number ≡ lines_number outcome) × (most ≤ length before → number ≡ neg_ℤ (pos 21) → ⊥)
