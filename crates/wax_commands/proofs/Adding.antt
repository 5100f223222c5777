-- What an option adds to the filters.
use Rattle.std.proofs.{Common.{◌≡◌, ℕ, List, [], ◌∷◌, ◌++◌, map, ap, subst, sym, ◌∙◌}, lemmas.List.map-append}
use Rattle.std.specs.Prelude.{Result, Ok, Err, IfErr, IsErrAnd, OnOk, chars}
use Rattle.wax.specs.{Exclusions.IsNotRule, Patterns.Spells}
use Rattle.wax_exclude.specs.{GlobRequests.{AreRulesOf, IsRuleOf}, Ignored.Line}
use Rattle.wax_exclude.specs.Wanted.{Filter, not_ignored, not_meant}
use Rattle.wax_token.specs.{Reads.Span, Syntax.Tree}
use Rattle.wax_walk.specs.{Candidates.Candidate, Given.Mark}
use Rattle.wax_command_line.specs.Commands.{WalkOption, excluding, ignoring}
use Rattle.wax_commands.specs.{Files.{FileAnswers, IsListIn}, Walked.{AreAskedBy, IsNotOf}}

map_on_ok : {A E P Q : Type 0} → (P → Q) → (r : Result A E) → OnOk r P → OnOk r Q
map_on_ok f (Ok a) h = f h
map_on_ok f (Err e) h = tt

-- an error that is passed on
pub passed_on : {T E : Type 0} (r : Result T E) (e : E) (P : E → Type 0) → IsErrAnd r (λ y. y ≡ e) → P e
    → IfErr r P
passed_on (Ok t) e P is h = absurd is
passed_on (Err y) e P is h = subst P (sym is) h

-- ---- one more

module _ {X : Type 0} (rule : X → Candidate → Mark) (old new : List X) (x : X) (e : new ≡ old ++ x ∷ []) where
  rule_added : map rule new ≡ map rule old ++ rule x ∷ []
  rule_added = ap (map rule) e ∙ map-append rule old (x ∷ [])

  pub pattern_added : (word : List ℕ) → IsNotRule (Spells (chars word)) (rule x)
      → (t : Tree Span) × (rules : List (Candidate → Mark)) × IsNotOf word t
      × AreRulesOf (not_meant t ∷ []) rules × (map rule new ≡ map rule old ++ rules)
  pattern_added word left = (left.0, rule x ∷ [], left.1, (left.2, tt), rule_added)

  pub list_added : {Z : Type 0} (answers : FileAnswers Z) (file : List ℕ) (lines : List (Line Span))
      → IsListIn answers file lines → IsRuleOf (not_ignored lines) (rule x)
      → (lines : List (Line Span)) × (rules : List (Candidate → Mark)) × IsListIn answers file lines
      × AreRulesOf (not_ignored lines ∷ []) rules × (map rule new ≡ map rule old ++ rules)
  list_added answers file lines read is = (lines, rule x ∷ [], read, (is, tt), rule_added)

-- ---- what was asked for

module _ {Z A E : Type 0} (answers : FileAnswers Z) (word : List ℕ) (P : List (Candidate → Mark) → Type 0)
    (r : Result A E) where
  abbrev Adds : WalkOption → Type 0
  Adds o = (xs : List (Filter Span)) × (rules : List (Candidate → Mark)) × AreAskedBy answers o xs
      × AreRulesOf xs rules × P rules

  pub pattern_asked : OnOk r ((t : Tree Span) × (rules : List (Candidate → Mark)) × IsNotOf word t
      × AreRulesOf (not_meant t ∷ []) rules × P rules)
      → OnOk r (Adds (excluding word))
  pattern_asked added = map_on_ok (λ h. (not_meant h.0 ∷ [], h.1, h.2, h.3, h.4)) r added

  pub list_asked : OnOk r ((lines : List (Line Span)) × (rules : List (Candidate → Mark))
      × IsListIn answers word lines × AreRulesOf (not_ignored lines ∷ []) rules × P rules)
      → OnOk r (Adds (ignoring word))
  list_asked added = map_on_ok (λ h. (not_ignored h.0 ∷ [], h.1, h.2, h.3, h.4)) r added
