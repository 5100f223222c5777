-- What lines say that are split into their alternatives.
use Rattle.std.proofs.Common.{◌≡◌, ℕ, Bool, false, ◌&&◌, ◌||◌, cond, List, [], ◌∷◌, refl, ap, ◌∙◌, map}
use Rattle.wax_facts.proofs.Means.{means_one_of}
use Rattle.wax_facts.specs.Alternatives.{alternatives}
use Rattle.wax_exclude.proofs.Excluding.{some_is_pattern}
use Rattle.wax_exclude.specs.{Excluded.some_test, Covers.covers_test}
use Rattle.wax_exclude.specs.Ignored.{Line, all_ignore, below_test, ignored_after, ignore_mark}
use Rattle.wax_exclude.specs.Marks.{covered_mark}
use Rattle.wax_exclude.specs.inner.Listed.{below_by, ignored_by, listed_mark, none_reincludes}
use Rattle.wax_exclude.specs.inner.Split.{split_of}
use Rattle.wax_token.specs.{Decided.means_test, Reads.Span}
use Rattle.wax_walk.specs.Candidates.{Candidate}

all_split : (lines : List (Line Span)) → none_reincludes (map split_of lines) ≡ all_ignore lines
all_split [] = refl
all_split (line ∷ lines) = ap (λ b. line.ignores && b) (all_split lines)

below_split : (lines : List (Line Span)) (c : Candidate)
    → below_by (map split_of lines) c ≡ below_test lines c
below_split [] c = refl
below_split (line ∷ lines) c =
    λ i.
    (line.ignores && (all_split lines i && covers_test (alternatives line.glob) c)) || below_split lines c i

pub ignored_split : (lines : List (Line Span)) (was : Bool) (s : List ℕ)
    → ignored_by was (map split_of lines) s ≡ ignored_after was lines s
ignored_split [] was s = refl
ignored_split (line ∷ lines) was s =
    let same : some_test (alternatives line.glob) s ≡ means_test line.glob false false s =
    some_is_pattern line.glob (means_one_of line.glob (alternatives line.glob) refl) s in
    ap (λ b. ignored_by (cond b line.ignores was) (map split_of lines) s) same
    ∙ ignored_split lines (cond (means_test line.glob false false s) line.ignores was) s

-- how they mark an entry
pub split_mark : (lines : List (Line Span)) (c : Candidate)
    → listed_mark (map split_of lines) c ≡ ignore_mark lines c
split_mark lines c =
    λ i. covered_mark (below_split lines c i) (ignored_split lines false c.text i)
