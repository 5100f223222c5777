use Rattle.wax_walk.proofs.Collecting.{map_ok}
use Rattle.wax_exclude.proofs.{Feeding.feeds_ruled, Telling.feeds_answered, Wanting.all_gave}
use Rattle.wax_exclude.specs.GlobRequests.{walk_for}
use Rattle.wax_exclude.proofs.wanted.collect_feed.Goals as goal

pub returns-clause-wanted : goal.returns-clause-wanted
returns-clause-wanted g c =
    let law = g.I.Directory.Directory.law in
    map_ok (λ r h d request s listed comes shows told.
    all_gave law d (walk_for request) _ (law.tells r.1) s listed _ comes shows told h.all)
    c.collect_feed.result c.collect_feed.ensures.took

pub returns-clause-feed : goal.returns-clause-feed
returns-clause-feed g c =
    let law = g.I.Directory.Directory.law in
    map_ok (λ r h d ruled s listed comes shows told.
    feeds_ruled (law.tells r.1) ruled s listed _
    (all_gave law d ruled _ (law.tells r.1) s listed _ comes shows told h.all))
    c.collect_feed.result c.collect_feed.ensures.took

pub returns-clause-answered : goal.returns-clause-answered
returns-clause-answered g c =
    let law = g.I.Directory.Directory.law in
    map_ok (λ r h d ruled comes. feeds_answered ruled law _ r.1 _ comes.takes h)
    c.collect_feed.result c.collect_feed.ensures.took
