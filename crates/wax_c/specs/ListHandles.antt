-- How calls of handles of ignore lists end.
use Rattle.std.specs.Prelude.{◌≡◌, ◌↔◌, ℕ, ℤ, Bool, IsTrue, true, List, Some, None, Result, Ok, Err, IsUtf8}
use Rattle.wax.specs.Ignoring.{IgnoresBelow, IsFirstUnread, IsListOf, IsUnignored, is_ignored}
use Rattle.wax.specs.{Matching.{Filters, IsBelow, WritesMeant, lines}, Walks.{NoSlashAfterNames, folder_at}}
use Rattle.wax.specs.{declared.ignoring.IgnoreList.IgnoreList, Language.{BuildError, Memory}}
use Rattle.wax_c.specs.{Numbers.status_number, declared.error.CallError.CallError}
use Rattle.wax_c.specs.declared.error.CallError.TheVariants.{Build, NotText, NoRoom}
use Rattle.wax_c.specs.declared.list_handle.ListHandle.{ListHandle}
use denote.RawPtr.{null_ptr}

-- a list of these bytes, which are text
abbrev pub IsListOfBytes : List ℕ → IgnoreList → Type 0
IsListOfBytes text list = IsUtf8 text × IsListOf text list

-- the first line that isn't built, and why; no line if an allocation fails
abbrev pub IsBadLine : List ℕ → ℕ → BuildError → Type 0
IsBadLine text line Memory = line ≡ 0
IsBadLine text line error = IsFirstUnread text line error

-- why these bytes are no list, with the number of the line or 0
abbrev pub IsUnlistedAt : List ℕ → ℕ → CallError → Type 0
IsUnlistedAt text line (Build error) = IsUtf8 text × IsBadLine text line error
IsUnlistedAt text line NotText = (IsUtf8 text → ⊥) × (line ≡ 0)
IsUnlistedAt text line NoRoom = ⊥

-- the handle has a list of these bytes, or it is null for this error in this line
abbrev pub HasList : List ℕ → ListHandle → ℕ → Result (Unit {0}) CallError → Type 0
HasList text handle line (Ok done) =
    (list : IgnoreList) × (handle.held ≡ Some list) × IsListOfBytes text list × (line ≡ 0)
HasList text handle line (Err error) =
    (handle.held ≡ None) × (handle.at ≡ null_ptr) × IsUnlistedAt text line error

-- so it is, with the number of the error
abbrev pub IsListHandle : List ℕ → ListHandle → ℕ → ℤ → Type 0
IsListHandle text handle line number =
    (outcome : Result (Unit {0}) CallError) × HasList text handle line outcome
    × (number ≡ status_number outcome)

-- the list ignores the path
abbrev pub Ignores : IgnoreList → List ℕ → Type 0
Ignores list path = IsTrue (is_ignored list path)

-- the answer is whether the list ignores the path
abbrev pub SaysIgnored : IgnoreList → List ℕ → Bool → Type 0
SaysIgnored list path answer = answer ≡ is_ignored list path

-- What the answer says of all that is below the folder.
pub record SaysIgnoredBelow (list : IgnoreList) (folder : List ℕ) (answer : Bool) : Type 0 where
  -- whether a line that ignores covers the folder, and no line after it begins with `!`
  pub exactly : IsTrue answer ↔ IgnoresBelow list (folder_at folder)
  -- if so, the list ignores each path below
  pub below : NoSlashAfterNames folder → IsTrue answer → (path : List ℕ) → IsBelow folder path
      → is_ignored list path ≡ true

-- the lines of the input that are text and that the list doesn't ignore, each with a line feed
abbrev pub AreUnignored : IgnoreList → List ℕ → List ℕ → Type 0
AreUnignored list input out = (bad : ℕ) × Filters (WritesMeant (IsUnignored list)) (lines input) out bad
