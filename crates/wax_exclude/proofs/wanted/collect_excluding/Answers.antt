use Rattle.std.proofs.Common.{map, subst}
use Rattle.std.specs.{Prelude.{◌≤◌, length}, Iterator.size}
use Rattle.wax_walk.proofs.{Collecting.map_ok, Knowing.all_before}
use Rattle.wax_exclude.specs.GlobRequests.{request_excluding}
use Rattle.wax_exclude.proofs.{Telling.answered_before, Wanting.{filters_come, took_less}}
use Rattle.wax_exclude.proofs.wanted.collect_excluding.Goals as goal

pub returns-clause-took : goal.returns-clause-took
returns-clause-took g c =
    let law = g.I.Directory.Directory.law in
    let rules = map g.R.Exclude.rule c.args.rules.items in
    let seen = c.excluding-kept.ensures.view in
    map_ok (λ r h. (
      h.0,
      took_less law rules _ _ _ r.1 h.0 c.new.ensures seen h.1,
      subst (λ n. length h.0 ≤ size n) c.excluding-kept.ensures.ends h.2,
      h.3,
    ))
    c.collect.result c.collect.ensures.took

pub returns-clause-known : goal.returns-clause-known
returns-clause-known g c =
    map_ok
    (λ r h. all_before (g.I.FileIterator.known c.args.walk) _ r.0.items c.excluding-kept.ensures.known h)
    c.collect.result c.collect.ensures.known

pub returns-clause-wanted : goal.returns-clause-wanted
returns-clause-wanted g c =
    map_ok (λ r h d request filters s listed comes are can shows told.
    h d (request_excluding request filters) s listed
    (filters_come g.I.Directory.Directory.law d request filters
    (map g.R.Exclude.rule c.args.rules.items) _ _ _ are
    c.new.ensures comes c.excluding-kept.ensures.view)
    can shows told)
    c.collect.result c.collect.ensures.wanted

pub returns-clause-answered : goal.returns-clause-answered
returns-clause-answered g c =
    let law = g.I.Directory.Directory.law in
    let seen = c.excluding-kept.ensures.view in
    map_ok (λ r h d request filters comes are can.
    answered_before law _ _ r.1 _ seen.directory (h d (request_excluding request filters)
    (filters_come law d request filters (map g.R.Exclude.rule c.args.rules.items) _ _ _ are
    c.new.ensures comes seen)
    can))
    c.collect.result c.collect.ensures.answered
