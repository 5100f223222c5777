-- How lines mark entries, if they are stored by their alternatives.
use Rattle.std.specs.Prelude.{ℕ, Bool, true, false, ◌&&◌, ◌||◌, if◌then◌else◌, List, [], ◌∷◌}
use Rattle.wax_exclude.specs.{Excluded.some_test, Covers.covers_test, Marks.covered_mark}
use Rattle.wax_exclude.specs.declared.split.SplitLine.{SplitLine}
use Rattle.wax_walk.specs.{Candidates.Candidate, Given.Mark}

-- the last line that matches the text decides; if there is none, the result is `was`
abbrev pub ignored_by : Bool → List SplitLine → List ℕ → Bool
ignored_by was [] s = was
ignored_by was (line ∷ lines) s =
    ignored_by (if some_test line.alternatives s then line.ignores else was) lines s

-- no line re-includes
abbrev pub none_reincludes : List SplitLine → Bool
none_reincludes [] = true
none_reincludes (line ∷ lines) = line.ignores && none_reincludes lines

-- a line that ignores covers the candidate, and no line after it re-includes
abbrev pub below_by : List SplitLine → Candidate → Bool
below_by [] c = false
below_by (line ∷ lines) c =
    (line.ignores && (none_reincludes lines && covers_test line.alternatives c)) || below_by lines c

-- the mark by the lines
abbrev pub listed_mark : List SplitLine → Candidate → Mark
listed_mark lines c = covered_mark (below_by lines c) (ignored_by false lines c.text)
