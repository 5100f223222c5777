-- Several patterns as one filter.
use Rattle.std.proofs.Common.{◌≡◌, ◌↔◌, ◌++◌, ◌∷◌, ℕ, Bool, IfOk, IsTrue, List, Result, [], inr, map, refl}
use Rattle.std.proofs.{Common.{sym, ap, true, ◌∙◌}, lemmas.List.append_assoc}
use Rattle.std.specs.List.{AllZip}
use Rattle.wax_token.specs.{Reads.Span, Syntax.Tree}
use Rattle.wax_exclude.proofs.Covered.{answers_filter, excludes_text}
use Rattle.wax_exclude.specs.{Candidates.{NoSlashAfterNames, folder_at}, GlobRequests.IsRuleOf}
use Rattle.wax_exclude.specs.{Marks.not_mark, Walked.ExcludesBelow, Wanted.{Filter, excludes}}
use Rattle.wax_tree.specs.Programs.{any_mark}
use Rattle.wax_walk.specs.{Candidates.Candidate, Given.{Mark, with_tree}}
use Rattle.wax_query.specs.Below.{IsBelow}
use Rattle.wax_walk.proofs.Collecting.{map_ok}
use Rattle.wax_rule.specs.declared.error.build_error.BuildError.{BuildError}
use Rattle.wax_set.specs.Patterns.{SpellEach}
use Rattle.wax.specs.Exclusions.{FitsAlone, IsAnyExclusionOf, IsExclusionOf, NoAnyExclusion, NoExclusion}

-- the first of those that are left is taken
pub pattern_taken : {P : Type 0} (before : List P) (p : P) (rest left all : List P) → left ≡ p ∷ rest →
    before ++ left ≡ all → (before ++ p ∷ []) ++ rest ≡ all
pattern_taken before p rest left all taken joined =
    append_assoc before (p ∷ []) rest ∙ ap (λ z. before ++ z) (sym taken) ∙ joined

module _ {P E : Type 0} (S : P → Tree Span → Type 0) (rule : E → Candidate → Mark) where
  -- each pattern has its exclusion
  abbrev pub Excluded : List P → List E → Type 0
  Excluded ps es = AllZip (λ p e. IsExclusionOf (S p) (rule e)) ps es

  pub one_more_excluded : (ps : List P) (es : List E) (p : P) (e : E) → Excluded ps es
      → IsExclusionOf (S p) (rule e) →
      Excluded (ps ++ p ∷ []) (es ++ e ∷ [])
  one_more_excluded [] [] p e h k = (k, tt)
  one_more_excluded [] (f ∷ es) p e h k = absurd h
  one_more_excluded (q ∷ ps) [] p e h k = absurd h
  one_more_excluded (q ∷ ps) (f ∷ es) p e h k = (h.0, one_more_excluded ps es p e h.1 k)

  -- the trees of their patterns
  abbrev Trees : List P → List E → Type 0
  Trees ps es = (ts : List (Tree Span)) × SpellEach (λ p. FitsAlone (S p)) ps ts
      × (map rule es ≡ map not_mark ts)

  trees_of : (ps : List P) (es : List E) → Excluded ps es → Trees ps es
  trees_of [] [] h = ([], tt, refl)
  trees_of [] (e ∷ es) h = absurd h
  trees_of (p ∷ ps) [] h = absurd h
  trees_of (p ∷ ps) (e ∷ es) h =
      let rest = trees_of ps es h.1 in
      let (t, fits, same) = h.0 in (
        t ∷ rest.0,
        ((fits, λ u k. fits.only.1 u k.only.0), rest.1),
        ap (λ r. r ∷ map rule es) same ∙ ap (λ rs. not_mark t ∷ rs) rest.2,
      )

  pub any_excluded : (ps : List P) (es : List E) (any : Candidate → Mark) → Excluded ps es
      → any ≡ any_mark (map rule es) →
      IsAnyExclusionOf S ps any
  any_excluded ps es any h same =
      let found = trees_of ps es h in (found.0, found.1, same ∙ ap any_mark found.2)

  pub first_refused : (R : P → BuildError → Type 0) (all before : List P) (es : List E) (p : P)
      (left after : List P)
      (e : BuildError) → Excluded before es → before ++ left ≡ all → left ≡ p ∷ after
      → NoExclusion (S p) (R p) e →
      NoAnyExclusion S R all e
  first_refused R all before es p left after e h joined taken refused =
      let found = trees_of before es h in
      inr (record {
        before = before;
        branches = found.0;
        each = found.1;
        pattern = p;
        refused = refused;
        after = after;
        all = sym joined ∙ ap (λ z. before ++ z) taken;
      })

-- what a rule says of a folder, for each filter whose rule it is
module _ {E : Type 0} (r : Result Bool E) (said rule : Candidate → Mark)
    (same : said ≡ rule) (folder : List ℕ)
    (says : IfOk r (λ answer. IsTrue answer ↔ (said (folder_at folder) ≡ with_tree))) where
  pub filter_covers : IfOk r (λ answer. (x : Filter Span) → IsRuleOf x rule
      → IsTrue answer ↔ ExcludesBelow x (folder_at folder))
  filter_covers = map_ok (λ answer asks x is. answers_filter answer said (folder_at folder) asks x
      (λ c. ap (λ f. f c) same ∙ is c)) r says

  pub filter_below : NoSlashAfterNames folder → IfOk r (λ answer. (x : Filter Span) → IsRuleOf x rule
      → IsTrue answer → (s : List ℕ) → IsBelow folder s → excludes x s ≡ true)
  filter_below ends = map_ok (λ answer covers x is yes s below.
      excludes_text folder s ends below x ((covers x is).0 yes)) r filter_covers
