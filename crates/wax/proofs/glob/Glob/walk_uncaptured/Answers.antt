use Rattle.std.proofs.Common.{◌≡◌, ◌∙◌, List, MatchOption, ap, subst, sym, ℕ}
use Rattle.wax_facts.specs.Prefix.{Prefix}
use Rattle.wax_exclude.specs.Prefix.{HasEmptyName, PrefixSplitsInto}
use Rattle.wax_tree.specs.{Begins.behavior_range, Prefix.from_last, declared.steps.DepthRange.DepthRange}
use Rattle.wax_walk.proofs.Collecting.{map_ok}
use Rattle.wax.specs.{GlobView.IsKept, GlobWalks.within}
use Rattle.wax.proofs.{GoingAlong.{can_walk, none_match}, LeastWalks.{Selects, least_along, least_ended}}
use Rattle.wax.proofs.glob.Glob.walk_uncaptured.Goals as goal

pub returns-in-Some-clause-begins : goal.returns-in-Some-clause-begins
returns-in-Some-clause-begins g c =
    let glob = c.args.self.now in
    let token = c.token.result.now in
    let tree : token ≡ glob.tree = c.token.ensures.same in
    let start = c.args.start.now in
    let asked = behavior_range c.args.behavior in
    let w = c.within-asked.ensures in
    let kept : IsKept glob.tree = subst IsKept tree c.token.ensures.kept in
    let same : c.within-asked.result ≡ within asked w.0 = w.3 ∙ ap (λ r. within r w.0) c.range.ensures in
    let prefix_names = c.in-Some.prefix_names in
    map_ok (λ walk seen. least_along glob g.D.Directory.law c.args.directory start asked w.0 w.1
    (λ b filters plain. can_walk glob.tree kept w.0 w.2 start asked b filters plain)
    (none_match glob.tree kept)
    (subst (λ t. (taken : ℕ) × (prefix : List ℕ) × Prefix t taken prefix) tree
    c.in_ok-prefix_names.ensures.prefix)
    _ _ (subst (Selects glob _ _) same seen) _
    (ap (λ (r : DepthRange). record { min = 0; max = r.max; budget = r.budget }) same)
    prefix_names.is_rooted (from_last prefix_names.names.items)
    (λ taken prefix p. subst (λ o. MatchOption o (HasEmptyName prefix)
    (λ r. PrefixSplitsInto prefix r.is_rooted (from_last r.names.items))) c.in-Some.is
    (c.in_ok-prefix_names.ensures.names taken prefix (subst (λ t. Prefix t taken prefix) (sym tree) p)))
    c.walk_along-walk.ensures.begins)
    c.uncaptured_of.result c.uncaptured_of.ensures.view

pub returns-in-None-clause-begins : goal.returns-in-None-clause-begins
returns-in-None-clause-begins g c =
    let glob = c.args.self.now in
    let token = c.token.result.now in
    let tree : token ≡ glob.tree = c.token.ensures.same in
    let start = c.args.start.now in
    let asked = behavior_range c.args.behavior in
    let w = c.within-asked.ensures in
    let kept : IsKept glob.tree = subst IsKept tree c.token.ensures.kept in
    let same : c.within-asked.result ≡ within asked w.0 = w.3 ∙ ap (λ r. within r w.0) c.range.ensures in
    map_ok (λ walk seen. least_ended glob g.D.Directory.law c.args.directory start asked w.0 w.1
    (λ b filters plain. can_walk glob.tree kept w.0 w.2 start asked b filters plain)
    (none_match glob.tree kept)
    (subst (λ t. (taken : ℕ) × (prefix : List ℕ) × Prefix t taken prefix) tree
    c.in_ok-prefix_names.ensures.prefix)
    _ _ (subst (Selects glob _ _) same seen) _
    (λ taken prefix p. subst (λ o. MatchOption o (HasEmptyName prefix)
    (λ r. PrefixSplitsInto prefix r.is_rooted (from_last r.names.items))) c.in-None.is
    (c.in_ok-prefix_names.ensures.names taken prefix (subst (λ t. Prefix t taken prefix) (sym tree) p)))
    (ap (λ (r : DepthRange). record { min = 0; max = r.max; budget = r.budget }) same)
    c.ended-walk.ensures.ended)
    c.uncaptured_of-in-None.result c.uncaptured_of-in-None.ensures.view
