-- What the alternatives of an excluded pattern decide about entries.
use Rattle.std.specs.Prelude.{ℕ, Bool, false, List}
use Rattle.wax_token.specs.{Decided.{holds, some_decided}, Syntax.Tree, Words.trees}
use Rattle.wax_walk.specs.{Candidates.Candidate, Given.Mark}
use Rattle.wax_exclude.specs.{Covers.covers_test, Marks.covered_mark}

-- whether one of the alternatives matches the text
abbrev pub some_test : {A : Type 0} → List (Tree A) → List ℕ → Bool
some_test ts s = holds (some_decided (trees ts) false false s)

-- the mark by a pattern with these alternatives
abbrev pub excluded_mark : {A : Type 0} → List (Tree A) → Candidate → Mark
excluded_mark ts c = covered_mark (covers_test ts c) (some_test ts c.text)
