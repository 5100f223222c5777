-- Which folders a list of lines leaves unlisted.
use Rattle.std.proofs.Common.{◌≡◌, ℕ, false, ◌⊎◌, List, [], refl, subst}
use Rattle.std.specs.{List.Contains, Prelude.All}
use Rattle.wax_directory.specs.Shown.{Shown}
use Rattle.wax_tree.specs.{Begins.scope_in, Walking.entry_location, declared.steps.DepthRange.DepthRange}
use Rattle.wax_tree.specs.Plain.{WalkScope, start_location, plain}
use Rattle.wax_walk.specs.{Candidates.of_candidate, Forest.listings, Given.{Facts, Mark, with_tree}}
use Rattle.wax_exclude.proofs.{Descending.covered, Ignored.below_tested, Names.{at_sees, seen_at}}
use Rattle.wax_exclude.proofs.Staying.{OfNames, lie_at, stay_stacked}
use Rattle.wax_exclude.specs.Ignored.{Line, is_ignored, IgnoresBelow, below_test, ignore_mark}
use Rattle.wax_exclude.specs.{Premises.IsPlainShown, Unignored.{ignore_rules, IsIgnoredBelow}, Wanted.stacked}

module _ {A : Type 0} (lines : List (Line A)) (scope : WalkScope) (start : List ℕ) where
  abbrev rule : Facts → Mark
  rule = of_candidate (ignore_mark lines)

  -- what an entry that is excluded with everything below it covers is lost
  loses : (f : Facts) (path : List ℕ) → OfNames scope start false [] f path → rule f ≡ with_tree
      → IsIgnoredBelow lines start path
  loses f path (names, a, u) e =
      let at = entry_location f in (
        names,
        u.0,
        a.are_plain,
        u.2,
        subst (λ v. IgnoresBelow lines v) (at_sees false at names a)
            ((below_tested lines (seen_at at)).0
            (covered (below_test lines (seen_at at)) (is_ignored lines (seen_at at).text) e)),
      )

-- each folder of the plain walk is still listed, or it is or lies below what is ignored with all below it
pub loses_ignored : {A : Type 0} (lines : List (Line A)) (range : DepthRange) (start : List ℕ) (s : Shown)
    → IsPlainShown s → All (λ path. Contains (listings
    (stacked (ignore_rules lines) (plain (scope_in range) start s)))
    path ⊎ IsIgnoredBelow lines start path) (listings (plain (scope_in range) start s))
loses_ignored lines range start s h =
    let scope = scope_in range in
    stay_stacked (OfNames scope start false []) (IsIgnoredBelow lines start) (ignore_rules lines)
    (loses lines scope start, tt) (plain scope start s)
    (lie_at scope start false [] (start_location start) s refl
    (record { candidate_is = refl; depth_is = refl; are_plain = tt }) h)
