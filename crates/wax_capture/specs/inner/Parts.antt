-- Parts of a text by places in its characters.
use Rattle.std.specs.Prelude.{ℕ, ◌-◌, ◌≤◌, List, length, map, take, drop}

-- the part of the text from one place up to another
abbrev pub part_between : List ℕ → ℕ × ℕ → List ℕ
part_between s places = take (places.1 - places.0) (drop places.0 s)

abbrev pub parts : List ℕ → List (ℕ × ℕ) → List (List ℕ)
parts s places = map (part_between s) places

-- the part lies in the text
pub record IsWithin (s : List ℕ) (places : ℕ × ℕ) : Type 0 where
  pub ordered : places.0 ≤ places.1
  pub ends : places.1 ≤ length s
