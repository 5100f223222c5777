-- What filters say of candidates.
use Rattle.std.proofs.Common.{◌≡◌, Bool, false, ◌&&◌, not, List, [], ◌∷◌, refl, ap, ◌∙◌, chars}
use Rattle.wax_facts.specs.Alternatives.{alternatives}
use Rattle.wax_token.specs.Decided.{means_test}
use Rattle.wax_walk.specs.{Candidates.{Candidate, candidate_of}, Given.{Facts, with_tree}}
use Rattle.wax_exclude.proofs.Descending.{not_descends, not_keeps}
use Rattle.wax_exclude.proofs.{Ignored.{below_tested, ignore_descends, ignore_keeps}, Tests.covers_tested}
use Rattle.wax_exclude.specs.{Ignored.is_ignored, inner.Descents.Descends, inner.Stacks.{keeps, all_keep}}
use Rattle.wax_exclude.specs.{Marks.covered_mark, Walked.ExcludesBelow}
use Rattle.wax_exclude.specs.Wanted.{Filter, not_meant, not_ignored, excludes, none_excludes, filter_mark}
use Rattle.wax_exclude.specs.Wanted.{filter_rules}

module _ {A : Type 0} where
  pub filter_descends : (rooted : Bool) (x : Filter A) → Descends rooted (filter_mark x)
  filter_descends rooted (not_meant t) = not_descends rooted t
  filter_descends rooted (not_ignored lines) = ignore_descends rooted lines

  -- a filter keeps exactly what it doesn't leave out
  filter_keeps : (x : Filter A) (c : Candidate) → keeps (filter_mark x c) ≡ not (excludes x c.text)
  filter_keeps (not_meant t) c = not_keeps t c
  filter_keeps (not_ignored lines) c = ignore_keeps lines c

  pub filters_keep : (filters : List (Filter A)) (f : Facts)
      → all_keep (filter_rules filters) f ≡ none_excludes filters (chars f.candidate)
  filters_keep [] f = refl
  filters_keep (x ∷ filters) f =
      ap (λ b. b && all_keep (filter_rules filters) f) (filter_keeps x (candidate_of f))
      ∙ ap (λ b. not (excludes x (chars f.candidate)) && b) (filters_keep filters f)

  -- a filter marks what it excludes with everything below it in that way
  pub below_said : (x : Filter A) (c : Candidate) → ExcludesBelow x c → filter_mark x c ≡ with_tree
  below_said (not_meant t) c h =
      ap (λ b. covered_mark b (means_test t false false c.text)) ((covers_tested (alternatives t) c).1 h)
  below_said (not_ignored lines) c h =
      ap (λ b. covered_mark b (is_ignored lines c.text)) ((below_tested lines c).1 h)
