-- Where names end, and the lengths of what tree wildcards mean.
use Rattle.std.specs.Prelude.{ℕ, suc, ◌+◌, Bool, true, false, List, [], ◌∷◌, ◌==◌, if◌then◌else◌}
use Rattle.wax_lengths.specs.{declared.span.Marks.Marks, declared.span.Marks.TheVariants.{All, AfterSlash}}

-- how many characters stand before the first `/`, or before the text's end
abbrev pub name_len : List ℕ → ℕ
name_len [] = 0
name_len (c ∷ s) = if c == 47 then 0 else suc (name_len s)

-- the least length of what a tree wildcard means
abbrev pub tree_low : Bool → Bool → Bool → ℕ
tree_low true true rooted = 1
tree_low true false rooted = 0
tree_low false after true = 1
tree_low false after false = 0

-- the number above the lengths: where a `/` has to come first and doesn't, only 0 is left
abbrev pub tree_end : Bool → Bool → ℕ → ℕ
tree_end true true n = n + 1
tree_end true false n = 1
tree_end false begins n = n + 1

abbrev pub tree_marks : Bool → Marks
tree_marks true = AfterSlash
tree_marks false = All
