use Rattle.std.proofs.Common.{◌≡◌, ◌∙◌, List, MatchOption, ℕ, ap, subst, sym}
use Rattle.wax_facts.specs.Prefix.{Prefix}
use Rattle.wax_tree.specs.{Begins.behavior_range, Prefix.from_last, Programs.leading_mark}
use Rattle.wax_exclude.specs.{Leading.component_test, Prefix.HasEmptyName}
use Rattle.wax_token.specs.Reads.{Span}
use Rattle.wax.specs.{GlobView.IsKept, GlobWalks.{IsPlan, within}}
use Rattle.wax.proofs.GlobWalks.{begins_along, begins_ended, begins_refused, decides}
use Rattle.wax.proofs.GoingAlong.{can_walk, none_match}
use Rattle.wax.proofs.glob.walking.walk_in.Goals as goal

pub returns-in-Ok-Some-clause-begins : goal.returns-in-Ok-Some-clause-begins
returns-in-Ok-Some-clause-begins g c =
    let glob = c.args.glob.now in
    let token = c.token.result.now in
    let tree : token ≡ glob.tree = c.token.ensures.same in
    let start = c.args.start.now in
    let asked = behavior_range c.args.behavior in
    let w = c.within-range.ensures in
    let kept : IsKept glob.tree = subst IsKept tree c.token.ensures.kept in
    let same : c.within-range.result ≡ within asked w.0 = w.3 ∙ ap (λ r. within r w.0) c.range.ensures in
    let prefix_names = c.in-Ok-Some.prefix_names in
    begins_along glob g.D.Directory.law c.args.directory start asked w.0 w.1
    (λ b filters plain. can_walk glob.tree kept w.0 w.2 start asked b filters plain)
    (none_match glob.tree kept) _
    (subst (λ t. (taken : ℕ) × (prefix : List ℕ) × Prefix t taken prefix) tree c.in-Ok-Some.ensures.prefix)
    _ c.within-range.result same prefix_names.is_rooted (from_last prefix_names.names.items)
    c.in-Ok-Some.leading.items
    (λ taken prefix p. subst (λ t. IsPlan t prefix prefix_names.is_rooted
    (from_last prefix_names.names.items) c.in-Ok-Some.leading.items) tree
    (subst (λ o. MatchOption o (HasEmptyName prefix) (λ r.
    IsPlan token prefix r.0.is_rooted (from_last r.0.names.items) r.1.items)) c.in-Ok-Some.field-0-is
    (c.in-Ok-Some.ensures.plan taken prefix (subst (λ t. Prefix t taken prefix) (sym tree) p))))
    c.walk_along-walk.ensures.begins c.walk_of.ensures.view

pub returns-in-Ok-None-clause-begins : goal.returns-in-Ok-None-clause-begins
returns-in-Ok-None-clause-begins g c =
    let glob = c.args.glob.now in
    let token = c.token.result.now in
    let tree : token ≡ glob.tree = c.token.ensures.same in
    let start = c.args.start.now in
    let asked = behavior_range c.args.behavior in
    let w = c.within-range.ensures in
    let kept : IsKept glob.tree = subst IsKept tree c.token.ensures.kept in
    let same : c.within-range.result ≡ within asked w.0 = w.3 ∙ ap (λ r. within r w.0) c.range.ensures in
    begins_ended glob g.D.Directory.law c.args.directory start asked w.0 w.1
    (λ b filters plain. can_walk glob.tree kept w.0 w.2 start asked b filters plain)
    (none_match glob.tree kept) _
    (subst (λ t. (taken : ℕ) × (prefix : List ℕ) × Prefix t taken prefix) tree c.in-Ok-None.ensures.prefix)
    _ c.within-range.result (leading_mark (component_test {A = Span}) c.new.result.items decides glob)
    (λ taken prefix p. subst (λ o. MatchOption o (HasEmptyName prefix) (λ r.
    IsPlan token prefix r.0.is_rooted (from_last r.0.names.items) r.1.items)) c.in-Ok-None.field-0-is
    (c.in-Ok-None.ensures.plan taken prefix (subst (λ t. Prefix t taken prefix) (sym tree) p)))
    same c.ended-walk.ensures.ended c.walk_of-in-Ok-None.ensures.view

pub returns-in-Err-clause-begins : goal.returns-in-Err-clause-begins
returns-in-Err-clause-begins g c =
    let glob = c.args.glob.now in
    let start = c.args.start.now in
    let asked = behavior_range c.args.behavior in
    let w = c.within-range.ensures in
    let kept : IsKept glob.tree = subst IsKept c.token.ensures.same c.token.ensures.kept in
    let same : c.within-range.result ≡ within asked w.0 = w.3 ∙ ap (λ r. within r w.0) c.range.ensures in
    begins_refused glob g.D.Directory.law c.args.directory start asked w.0 w.1
    (λ b filters plain. can_walk glob.tree kept w.0 w.2 start asked b filters plain)
    (none_match glob.tree kept) _
    _ c.within-range.result c.new-in-Err.result.items c.new-in-Err.ensures.items same
    c.refused-walk.ensures.lacks c.walk_of-in-Err.ensures.view
