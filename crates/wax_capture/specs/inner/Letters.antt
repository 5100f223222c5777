-- Which forms can't take a part of a text, by the letters with which they begin.
use Rattle.std.specs.Prelude.{◌≡◌, ℕ, ◌+◌, ◌<◌, ◌≤◌, Bool, List, length, take, Some, slice_get}
use Rattle.std.specs.Prelude.{slice_index_or}
use Rattle.wax_lengths.specs.{FirstLetters.{first_letter, group_of, is_folded}, Forms.TakenBy}
use Rattle.wax_lengths.specs.declared.form.Form.{Form}

-- none of the forms from one index up to another takes a beginning of the text
abbrev pub ArePassed : List Form → ℕ → ℕ → List ℕ → Type 0
ArePassed forms from to s =
    (k : ℕ) (f : Form) → from ≤ k → k < to → slice_get forms k ≡ Some f → (n : ℕ) → TakenBy f (take n s) → ⊥

abbrev pub BeginsWithLetter : Bool → Form → Type 0
BeginsWithLetter folded f = (c : ℕ) × (first_letter f ≡ Some c) × (is_folded f ≡ folded)

-- none of the forms from one index up to another begins with a letter of the group
abbrev pub NoneBegins : List Form → ℕ → ℕ → ℕ → Type 0
NoneBegins forms from to group =
    (k c : ℕ) (f : Form) → from ≤ k → k < to → slice_get forms k ≡ Some f → first_letter f ≡ Some c
    → group_of c ≡ group → ⊥

-- each form from the index on begins with a letter, all of them in one case, or all in any; the first and
-- the next one with a letter of a group are known
pub record AreLinked (forms : List Form) (folded : Bool) (firsts nexts : List ℕ) (from : ℕ) : Type 0 where
  pub lettered : (k : ℕ) (f : Form) → from ≤ k → slice_get forms k ≡ Some f → BeginsWithLetter folded f
  pub first : (group : ℕ) → group < 128 → NoneBegins forms from (slice_index_or firsts group 0) group
  pub next : (k c : ℕ) (f : Form) → from ≤ k → slice_get forms k ≡ Some f → first_letter f ≡ Some c
      → NoneBegins forms (k + 1) (slice_index_or nexts k 0) (group_of c)
  pub all : length firsts ≡ 128
  pub each : length nexts ≡ length forms
