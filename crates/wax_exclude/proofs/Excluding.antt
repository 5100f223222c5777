-- What an excluded pattern says of entries.
use Rattle.std.proofs.Common.{◌≡◌, ◌↔◌, ◌∙◌, ◌&&◌, ◌||◌, ◌∷◌, [], ℕ, Bool, true, false, cond, List, refl, sym}
use Rattle.std.proofs.lemmas.Bool.{false≢true}
use Rattle.std.specs.Prelude.{IsTrue}
use Rattle.wax_facts.proofs.Means.{means_one_of}
use Rattle.wax_facts.specs.Alternatives.{alternatives, MeansOneOf}
use Rattle.wax_prefilter.specs.{Facts.{PassesFacts, PrefilterView}, Known.MatchesPass}
use Rattle.wax_token.specs.Decided.{holds_truly, means_test, means_tested, some_decided}
use Rattle.wax_token.specs.{Meaning.{Means, MeansEach}, Reads.Span}
use Rattle.wax_token.specs.Syntax.{Tree, leaf, alternation, concatenation, repetition}
use Rattle.wax_token.specs.Words.{members, trees}
use Rattle.wax_walk.specs.{Candidates.Candidate, Given.kept}
use Rattle.wax_exclude.proofs.{Descending.covers_some_meant, Tests.covers_tested}
use Rattle.wax_exclude.specs.{Covers.covers_test, Excluded.{excluded_mark, some_test}, Ignored.Line}
use Rattle.wax_exclude.specs.{Marks.{covered_mark, not_mark}, inner.Listed.listed_mark, inner.Split.split_of}

-- ---- truth values

same_truth : (a b : Bool) → (IsTrue a ↔ IsTrue b) → a ≡ b
same_truth true true h = refl
same_truth false false h = refl
same_truth true false h = absurd (false≢true (h.0 refl))
same_truth false true h = absurd (false≢true (h.1 refl))

not_truly : (b : Bool) → (IsTrue b → ⊥) → b ≡ false
not_truly true n = absurd (n refl)
not_truly false n = refl

or_no : (b : Bool) → (b || false) ≡ b
or_no true = refl
or_no false = refl

chosen : (b : Bool) → cond b true false ≡ b
chosen true = refl
chosen false = refl

-- ---- a pattern says what its alternatives say

members_mean : {A : Type 0} (t : Tree A) (s : List ℕ) → MeansEach (members t) false false s
    ↔ Means t false false s
members_mean (leaf a l) s = ((λ h. h), (λ h. h))
members_mean (alternation a ts) s = ((λ h. h), (λ h. h))
members_mean (concatenation a ts) s = ((λ h. h), (λ h. h))
members_mean (repetition a t low high) s = ((λ h. h), (λ h. h))

pub some_is_pattern : {A : Type 0} (t : Tree A) → MeansOneOf t (alternatives t) → (s : List ℕ)
    → some_test (alternatives t) s ≡ means_test t false false s
some_is_pattern t one s = same_truth (some_test (alternatives t) s) (means_test t false false s) (
  (λ h. (means_tested t false false s).1
      ((one false false s).1 ((holds_truly (some_decided (trees (alternatives t)) false false s)).0 h))),
  (λ h. (holds_truly (some_decided (trees (alternatives t)) false false s)).1
      ((one false false s).0 ((means_tested t false false s).0 h))),
)

pub says_pattern : {A : Type 0} (t : Tree A) → excluded_mark (alternatives t) ≡ not_mark t
says_pattern t = λ i c. covered_mark (covers_test (alternatives t) c)
    (some_is_pattern t (means_one_of t (alternatives t) refl) c.text i)

-- ---- it says what an ignore list of this line does

pub only_line : (line : Line Span) → line.ignores ≡ true → (c : Candidate)
    → listed_mark (split_of line ∷ []) c ≡ excluded_mark (alternatives line.glob) c
only_line line ignores c =
    let ts = alternatives line.glob in
    (λ i. covered_mark ((ignores i && covers_test ts c) || false)
    (cond (some_test ts c.text) (ignores i) false))
    ∙ (λ i. covered_mark (or_no (covers_test ts c) i) (chosen (some_test ts c.text) i))

-- a text that doesn't pass isn't excluded
pub rejected : {A : Type 0} (t : Tree A) (prefilter : PrefilterView) (c : Candidate)
    → MatchesPass (members t) prefilter → (PassesFacts prefilter c.text → ⊥)
    → kept ≡ excluded_mark (alternatives t) c
rejected t prefilter c passes rejects =
    let ts = alternatives t in
    let meant = holds_truly (some_decided (trees ts) false false c.text) in
    let unmatched : IsTrue (some_test ts c.text) → ⊥ = λ e. rejects (passes c.text
    ((members_mean t c.text).1 ((means_one_of t ts refl false false c.text).1 (meant.0 e)))) in
    let uncovered : IsTrue (covers_test ts c) → ⊥ =
    λ e. unmatched (meant.1 (covers_some_meant ts c ((covers_tested ts c).0 e))) in
    λ i. covered_mark (sym (not_truly (covers_test ts c) uncovered) i)
    (sym (not_truly (some_test ts c.text) unmatched) i)
