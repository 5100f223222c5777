-- What is found of two sets of texts.
use Rattle.std.specs.{Prelude.{◌≡◌, ◌≤◌, ◌⊎◌, ℕ, List, true, length, chars, string_bytes, ⊤}, Str.all_scalars}
use Rattle.wax_compare.specs.{declared.wanted.Texts.Texts, declared.wanted.Wanted.Wanted}
use Rattle.wax_compare.specs.declared.wanted.Wanted.TheVariants.{Both, FirstOnly, OneOnly}
use Rattle.wax_compare.specs.declared.wanted.Comparison.{Comparison}
use Rattle.wax_compare.specs.declared.wanted.Comparison.TheVariants.{Nothing, Text, Unknown}
use Rattle.wax_compare.specs.Texts.{IsAmongTexts}

-- which of two facts hold, as asked
abbrev pub AsWanted : Wanted → Type 0 → Type 0 → Type 0
AsWanted Both P Q = P × Q
AsWanted FirstOnly P Q = P × (Q → ⊥)
AsWanted OneOnly P Q = (P × (Q → ⊥)) ⊎ ((P → ⊥) × Q)

-- a text that is in two sets, or in one of them, as asked
pub record IsWanted (wanted : Wanted) (texts : Texts) (First Second : List ℕ → Type 0) (s : List ℕ)
    : Type 0 where
  pub scalars : all_scalars s ≡ true
  pub among : IsAmongTexts texts s
  pub decided : AsWanted wanted (First s) (Second s)

-- the text has the property, and none that has it is shorter
abbrev pub IsShortest : (List ℕ → Type 0) → List ℕ → Type 0
IsShortest P t = P t × ((s : List ℕ) → P s → length t ≤ length s)

-- the answer: that there is no text with the property, or a shortest one
abbrev pub IsAnswer : (List ℕ → Type 0) → Comparison → Type 0
IsAnswer P Nothing = (s : List ℕ) → P s → ⊥
IsAnswer P (Text t) = IsShortest P (chars (string_bytes t))
IsAnswer P Unknown = ⊤
