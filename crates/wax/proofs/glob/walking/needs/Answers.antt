use Rattle.std.proofs.Common.{MatchOption, subst}
use Rattle.wax_exclude.specs.Prefix.{HasEmptyName, PrefixSplitsInto}
use Rattle.wax_tree.specs.Prefix.{from_last}
use Rattle.wax.proofs.glob.walking.needs.Goals as goal

pub returns-in_ok-leading-in-Some-clause-plan : goal.returns-in_ok-leading-in-Some-clause-plan
returns-in_ok-leading-in-Some-clause-plan c = λ taken prefix p.
    let told = c.in_ok-prefix_names.ensures.names taken prefix p in (
      subst (λ o. MatchOption o (HasEmptyName prefix)
          (λ w. PrefixSplitsInto prefix w.is_rooted (from_last w.names.items))) c.in-Some.is told,
      c.in_ok-leading-in-Some.ensures,
    )

pub returns-in-None-clause-plan : goal.returns-in-None-clause-plan
returns-in-None-clause-plan c = λ taken prefix p.
    let told = c.in_ok-prefix_names.ensures.names taken prefix p in
    subst (λ o. MatchOption o (HasEmptyName prefix)
    (λ w. PrefixSplitsInto prefix w.is_rooted (from_last w.names.items))) c.in-None.is told
