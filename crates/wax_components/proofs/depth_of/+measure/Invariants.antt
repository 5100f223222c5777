use Rattle.std.proofs.Common.{◌≤◌, ◌<◌, drop, length}
use Rattle.wax_token.specs.{Syntax.{tree_size, trees_size}, Words.trees}
use Rattle.wax_components.specs.{inner.Saturation.ProfilesOf, inner.TreeProfiles.{each_profile, some_profile}}
use Rattle.wax_components.proofs.depth_of.+measure.Given as goal

abbrev pub decreases-token_profiles : goal.decreases-token_profiles
decreases-token_profiles g l = tree_size l.token.now

abbrev pub decreases-some_profiles : goal.decreases-some_profiles
decreases-some_profiles g l = trees_size (trees l.tokens.now)

abbrev pub decreases-each_profiles : goal.decreases-each_profiles
decreases-each_profiles g l = trees_size (trees l.tokens.now)

abbrev pub invariant-some_profiles-loop-index : goal.invariant-some_profiles-loop-index
invariant-some_profiles-loop-index g l = record {
  within : l.index ≤ length l.tokens;
  profiles : ProfilesOf l.all (some_profile (trees (drop l.index l.tokens)));
}

abbrev pub decreases-some_profiles-loop-index : goal.decreases-some_profiles-loop-index
decreases-some_profiles-loop-index g l = l.index

abbrev pub invariant-each_profiles-loop-index : goal.invariant-each_profiles-loop-index
invariant-each_profiles-loop-index g l = record {
  within : l.index < length l.tokens;
  profiles : ProfilesOf l.all (each_profile (trees (drop l.index l.tokens)));
}

abbrev pub decreases-each_profiles-loop-index : goal.decreases-each_profiles-loop-index
decreases-each_profiles-loop-index g l = l.index
