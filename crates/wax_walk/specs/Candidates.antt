-- Candidates: what rules see of an entry.
use Rattle.std.specs.Prelude.{ℕ, List, map, chars}
use Rattle.wax_directory.specs.Names.{names_in_path}
use Rattle.wax_walk.specs.Given.{Facts, Mark}
use Rattle.wax_walk.specs.declared.candidate.Candidate as code

-- an entry as rules see it, in characters: its names from the start, its text, and its depth
pub record Candidate : Type 0 where
  pub names : List (List ℕ)
  pub text : List ℕ
  pub depth : ℕ

-- the candidate with this text, in bytes, at this depth
abbrev pub candidate_with : List ℕ → ℕ → Candidate
candidate_with text depth = record {
  names = map chars (names_in_path text);
  text = chars text;
  depth = depth;
}

abbrev pub candidate_of : Facts → Candidate
candidate_of f = candidate_with f.candidate f.depth

-- the candidate that a rule gets, in characters
abbrev pub in_characters : code.Candidate → Candidate
in_characters c = candidate_with c.path.now c.depth

-- the mark of an entry by a rule of candidates
abbrev pub of_candidate : (Candidate → Mark) → Facts → Mark
of_candidate rule f = rule (candidate_of f)
