-- Lists of lines that ignore or re-include, as filters.
use Rattle.std.specs.Prelude.{◌≡◌, ℕ, Bool, true, false, ◌&&◌, ◌||◌, if◌then◌else◌, ◌⊎◌, List, [], ◌∷◌, refl}
use Rattle.std.specs.Coded.{Coded, code_by, coded×, coded_bool, coded_ℕ}
use Rattle.wax_facts.specs.Alternatives.{alternatives}
use Rattle.wax_token.specs.{Decided.means_test, Reads.Span, Syntax.Tree, TreeCode.tree_code}
use Rattle.wax_walk.specs.{Candidates.Candidate, Given.Mark}
use Rattle.wax_exclude.specs.{Covers.{CoversSome, covers_test}, Marks.covered_mark}

-- a line: whether it ignores what its glob matches or re-includes it
pub record Line (A : Type 0) : Type 0 where
  pub ignores : Bool
  pub glob : Tree A

-- how a line is stored
abbrev pub line_code : Coded (Line Span)
line_code = code_by (Bool × Tree Span) (coded× coded_bool (tree_code (coded× coded_ℕ coded_ℕ)))
    (λ line. (line.ignores, line.glob)) (λ p. record { ignores = p.0; glob = p.1 }) (λ _. refl)

-- the last line that matches the text decides; if there is none, the result is `was`
abbrev pub ignored_after : {A : Type 0} → Bool → List (Line A) → List ℕ → Bool
ignored_after was [] s = was
ignored_after was (line ∷ lines) s =
    ignored_after (if means_test line.glob false false s then line.ignores else was) lines s

abbrev pub is_ignored : {A : Type 0} → List (Line A) → List ℕ → Bool
is_ignored lines s = ignored_after false lines s

-- no line re-includes
abbrev pub all_ignore : {A : Type 0} → List (Line A) → Bool
all_ignore [] = true
all_ignore (line ∷ lines) = line.ignores && all_ignore lines

-- a line that ignores covers the candidate, and no line after it re-includes
abbrev pub IgnoresBelow : {A : Type 0} → List (Line A) → Candidate → Type 0
IgnoresBelow [] c = ⊥
IgnoresBelow (line ∷ lines) c =
    ((line.ignores ≡ true) × (all_ignore lines ≡ true) × CoversSome (alternatives line.glob) c)
    ⊎ IgnoresBelow lines c

-- whether a line that ignores covers the candidate, and no line after it re-includes
abbrev pub below_test : {A : Type 0} → List (Line A) → Candidate → Bool
below_test [] c = false
below_test (line ∷ lines) c =
    (line.ignores && (all_ignore lines && covers_test (alternatives line.glob) c)) || below_test lines c

-- what a list ignores is excluded, with everything below it if no line can re-include any of that
abbrev pub ignore_mark : {A : Type 0} → List (Line A) → Candidate → Mark
ignore_mark lines c = covered_mark (below_test lines c) (is_ignored lines c.text)
