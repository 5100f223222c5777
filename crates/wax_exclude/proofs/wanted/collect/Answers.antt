use Rattle.std.proofs.Common.{subst, sym}
use Rattle.wax_walk.proofs.Collecting.{map_ok}
use Rattle.wax_exclude.proofs.{Feeding.feeds_ruled, Shown.well_named}
use Rattle.wax_exclude.proofs.{Telling.{keeps_answered, leaves_answered}, Wanting.{all_gave, keeps_wanted}}
use Rattle.wax_exclude.specs.{GlobRequests.{KeepsWanted, walk_for}, Told.{KeepsAnswered, LeavesAnswered}}
use Rattle.wax_exclude.proofs.wanted.collect.Goals as goal

pub returns-clause-wanted : goal.returns-clause-wanted
returns-clause-wanted g c =
    let law = g.I.Directory.Directory.law in
    let laws = g.met.I.Directory.Directory in
    map_ok (λ r h d request s listed comes can shows told.
    let tells = law.tells r.1 in
    let named =
    well_named law d request.origin.path s (λ p l. laws.inner d p l) (λ p t. laws.distinct d p t) shows in
    let all = all_gave law d (walk_for request) _ tells s listed h.0 comes shows told h.1.all in
    subst (KeepsWanted tells request s listed) (sym h.3)
    (keeps_wanted c.law_of_walks.ensures tells request s listed h.0 can named all))
    c.collect.result c.collect.ensures.took

pub returns-clause-feed : goal.returns-clause-feed
returns-clause-feed g c =
    let law = g.I.Directory.Directory.law in
    map_ok (λ r h d ruled s listed comes shows told. (
      h.0,
      feeds_ruled (law.tells r.1) ruled s listed h.0
          (all_gave law d ruled _ (law.tells r.1) s listed h.0 comes shows told h.1.all),
      h.3,
    ))
    c.collect.result c.collect.ensures.took

pub returns-clause-answered : goal.returns-clause-answered
returns-clause-answered g c =
    let law = g.I.Directory.Directory.law in
    map_ok (λ r h d request comes can. subst (KeepsAnswered law _ r.1 request) (sym h.3)
    (keeps_answered c.law_of_walks.ensures request law _ r.1 h.0 can comes.takes h.1))
    c.collect.result c.collect.ensures.took

pub returns-clause-leaves : goal.returns-clause-leaves
returns-clause-leaves g c =
    let law = g.I.Directory.Directory.law in
    map_ok (λ r h d ruled comes. subst (LeavesAnswered law _ r.1 ruled) (sym h.3)
    (leaves_answered ruled law _ r.1 h.0 comes.takes h.1))
    c.collect.result c.collect.ensures.took
