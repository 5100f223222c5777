-- What a walk yields.
use Rattle.std.specs.Prelude.{◌≡◌, ℕ, Bool, true, false, List}
use Rattle.wax_directory.specs.declared.directory.FileType.{FileType}
use Rattle.wax_walk.specs.{declared.error.FaultKind.FaultKind, Forest.{Pending, filtered_pending}}

-- an entry: its path, the path where its walk starts, its candidate (the names from there, joined by `/`),
-- its depth (how many they are), and its file type
pub record Facts : Type 0 where
  pub path : List ℕ
  pub root : List ℕ
  pub candidate : List ℕ
  pub depth : ℕ
  pub kind : FileType

-- what filters decide about an entry: it is kept, excluded by itself, or excluded with everything below it
pub data Mark : Type 0 where
  kept : Mark
  alone : Mark
  with_tree : Mark

-- an item of a walk: an entry with its mark, an error at a path and its depth, or that allocation failed
pub data Given : Type 0 where
  entry : Mark → Facts → Given
  fault : FaultKind → List ℕ → ℕ → Given
  no_memory : Given

-- the item is a kept entry, or an error
abbrev pub is_kept : Given → Bool
is_kept (entry kept f) = true
is_kept (entry m f) = false
is_kept x = true

-- the item is an entry
abbrev pub is_entry : Given → Bool
is_entry (entry m f) = true
is_entry x = false

-- the mark of an entry after one more filter: the one of the two marks that excludes more
abbrev pub combined_mark : Mark → Mark → Mark
combined_mark with_tree m = with_tree
combined_mark kept m = m
combined_mark alone with_tree = with_tree
combined_mark alone m = alone

-- what a rule decides about an item; an error is kept
abbrev pub mark_by : (Facts → Mark) → Given → Mark
mark_by rule (entry m f) = rule f
mark_by rule x = kept

abbrev pub with_mark : Given → Mark → Given
with_mark (entry m f) mark = entry (combined_mark m mark) f
with_mark x mark = x

-- what is below an entry is cancelled: the filter excludes it with the entry, and it wasn't excluded before
abbrev pub is_cut : Given → Mark → Bool
is_cut (entry kept f) with_tree = true
is_cut (entry alone f) with_tree = true
is_cut x m = false

abbrev pub changed_by : (Facts → Mark) → Given → Given
changed_by rule x = with_mark x (mark_by rule x)

abbrev pub cut_by : (Facts → Mark) → Given → Bool
cut_by rule x = is_cut x (mark_by rule x)

-- what is to come after a filter, if `inner` holds of what is to come before it
abbrev pub ToComeFiltered : (Pending Given → Type 0) → (Facts → Mark) → Pending Given → Type 0
ToComeFiltered inner rule q =
    (p : Pending Given) × inner p × (q ≡ filtered_pending (changed_by rule) (cut_by rule) p)
