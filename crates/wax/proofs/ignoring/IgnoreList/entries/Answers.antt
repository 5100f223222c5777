use Rattle.std.proofs.Common.{◌≡◌, ◌∙◌, ◌∷◌, [], ap, arith, subst}
use Rattle.std.specs.{Iterator.size, Prelude.{◌≤◌, length}}
use Rattle.wax_tree.proofs.StartViews.{took_ruled}
use Rattle.wax_tree.specs.Begins.{behavior_range}
use Rattle.wax_walk.proofs.Collecting.{map_ok}
use Rattle.wax_walk.specs.Candidates.{of_candidate}
use Rattle.wax_exclude.proofs.{Keeping.keeps_unignored, Shown.well_named, Telling.answered_before}
use Rattle.wax_exclude.proofs.Wanting.{comes_by_rule, took_seen}
use Rattle.wax_exclude.specs.{GlobRequests.walk_for, Ignored.ignore_mark}
use Rattle.wax_exclude.specs.{Kept.{PlainRequest, unignored_request}, RuledWalks.with_rule}
use Rattle.wax_exclude.specs.{TreeRequests.tree_request, Wanted.not_ignored}
use Rattle.wax.proofs.IgnoreLines.{begins_so}
use Rattle.wax.proofs.ignoring.IgnoreList.entries.Goals as goal

pub returns-clause-took : goal.returns-clause-took
returns-clause-took g c =
    let law = g.D.Directory.law in
    let d = c.args.directory in
    let start = c.args.start.now in
    let e = c.walk_with_behavior-walk.ensures in
    let begins = begins_so law d start e.0 c.args.behavior _ e.1 e.2 in
    let budget : e.0.budget ≡ c.args.behavior.budget = ap (λ v. v.budget) e.1 in
    let most = e.3.gives in
    let ignoring = c.excluding_ignored.ensures in
    map_ok (λ r h. (
      h.0,
      let few = subst (λ n. length h.0 ≤ size n) ignoring.ends h.2 in omega (arith, few, most, budget),
      took_ruled law d start (behavior_range c.args.behavior) _ begins (λ i. ignore_mark c.args.self i) r.1
          h.0 (took_seen law _ _ r.1 h.0 ignoring.view h.1),
      h.3,
    ))
    c.collect.result c.collect.ensures.took

pub returns-clause-unignored : goal.returns-clause-unignored
returns-clause-unignored g c =
    let law = g.D.Directory.law in
    let laws = g.met.D.Directory in
    let d = c.args.directory in
    let start = c.args.start.now in
    let range = behavior_range c.args.behavior in
    let e = c.walk_with_behavior-walk.ensures in
    let begins = begins_so law d start e.0 c.args.behavior _ e.1 e.2 in
    let plain = c.law_of_plain_walks.ensures in
    let request : PlainRequest = record { lines = c.args.self; range = range; start = start } in
    map_ok (λ r h s listed shows told.
    let named = well_named law d start s (λ p l. laws.inner d p l) (λ p t. laws.distinct d p t) shows in
    keeps_unignored request s plain.wanted c.law_of_ignoring.ensures.lists named.plain
    (law.tells r.1) listed _ (h d (unignored_request request) s listed
    (c.excluding_ignored.ensures.comes d (tree_request range start) (plain.comes d range start begins))
    (plain.goes range start (not_ignored c.args.self ∷ [])) shows told))
    c.collect.result c.collect.ensures.wanted

pub returns-clause-answered : goal.returns-clause-answered
returns-clause-answered g c =
    let law = g.D.Directory.law in
    let d = c.args.directory in
    let start = c.args.start.now in
    let range = behavior_range c.args.behavior in
    let e = c.walk_with_behavior-walk.ensures in
    let begins = begins_so law d start e.0 c.args.behavior _ e.1 e.2 in
    let plain = c.law_of_plain_walks.ensures in
    let ignoring = c.excluding_ignored.ensures in
    map_ok (λ r h.
    answered_before law d _ r.1 _ (ignoring.view.directory ∙ begins.directory)
    (h d (unignored_request (record { lines = c.args.self; range = range; start = start }))
    (ignoring.comes d (tree_request range start) (plain.comes d range start begins))
    (plain.goes range start (not_ignored c.args.self ∷ []))))
    c.collect.result c.collect.ensures.answered

pub returns-clause-leaves : goal.returns-clause-leaves
returns-clause-leaves g c =
    let law = g.D.Directory.law in
    let d = c.args.directory in
    let start = c.args.start.now in
    let e = c.walk_with_behavior-walk.ensures in
    let begins = begins_so law d start e.0 c.args.behavior _ e.1 e.2 in
    let range = behavior_range c.args.behavior in
    let walk = walk_for (tree_request range start) in
    let seen = c.excluding_ignored.ensures.view in
    map_ok (λ r h.
    answered_before law d _ r.1 _ (seen.directory ∙ begins.directory)
    (h d (with_rule walk (of_candidate (λ i. ignore_mark c.args.self i)))
    (comes_by_rule law d walk (λ i. ignore_mark c.args.self i) _ _ seen
    (c.law_of_plain_walks.ensures.comes d range start begins))))
    c.collect.result c.collect.ensures.leaves
