use Rattle.std.proofs.Common.{◌≡◌, ◌∙◌, [], ◌+◌, ◌++◌, ap, arith, length, map, subst, sym}
use Rattle.std.proofs.lemmas.List.{length-map}
use Rattle.wax_walk.proofs.Collecting.{map_ok}
use Rattle.wax_walk.specs.Collected.{AreOfFolders, SpendsWithin, Took, Yielded}
use Rattle.wax_walk.specs.{Entries.{facts_of, given_outcome}, View.is_above}
use Rattle.wax_tree.specs.{Begins.{IsPassed, behavior_range, start_view}, Whole.plain_pending}
use Rattle.wax_tree.proofs.{Answered.{all_kept, entries_answered}, InRange.{entries_are, untold}}
use Rattle.wax_tree.proofs.{Reaching.errors_passed, StartViews.took_start}
use Rattle.wax_tree.proofs.plain.entries.Goals as goal

pub returns-clause-items : goal.returns-clause-items
returns-clause-items g c =
    let law = g.D.Directory.law in
    let range = behavior_range c.args.behavior in
    let start = c.args.start.now in
    let b = c.walk_from.ensures.begins in
    map_ok (λ r h s shows.
    let listed = g.met.D.Directory.tells_some c.args.directory in
    let p = plain_pending range start s listed.0 in
    let same = h.3 ∙ all_kept range start _ h.1.told h.0 b.takes h.1.ends_there h.1.course in
    let all = subst (λ n. Yielded (law.tells r.1) n p h.0) b.listings
    (h.1.all p (b.shown s listed.0 shows listed.1)) in (
      listed.0,
      untold (law.tells r.1) (range.budget + 1) _ _
          (subst (Yielded (law.tells r.1) (range.budget + 1) p) (sym same) all),
    ))
    c.collect.result c.collect.ensures.took

pub returns-clause-entries : goal.returns-clause-entries
returns-clause-entries g c =
    let law = g.D.Directory.law in
    let range = behavior_range c.args.behavior in
    let start = c.args.start.now in
    let b = c.walk_from.ensures.begins in
    map_ok (λ r h s shows.
    let listed = g.met.D.Directory.tells_some c.args.directory in
    let p = plain_pending range start s listed.0 in
    let same = h.3 ∙ all_kept range start _ h.1.told h.0 b.takes h.1.ends_there h.1.course in
    let all = subst (λ n. Yielded (law.tells r.1) n p h.0) b.listings
    (h.1.all p (b.shown s listed.0 shows listed.1)) in
    entries_are range start s (law.tells r.1) listed.0 _
    (subst (Yielded (law.tells r.1) (range.budget + 1) p) (sym same) all))
    c.collect.result c.collect.ensures.took

pub returns-clause-folders : goal.returns-clause-folders
returns-clause-folders g c =
    let law = g.D.Directory.law in
    let range = behavior_range c.args.behavior in
    let start = c.args.start.now in
    let b = c.walk_from.ensures.begins in
    map_ok (λ r h s listed shows told.
    let p = plain_pending range start s listed in
    let same = h.3 ∙ all_kept range start _ h.1.told h.0 b.takes h.1.ends_there h.1.course in
    subst (Yielded (law.tells r.1) (range.budget + 1) p) (sym same)
    (subst (λ n. Yielded (law.tells r.1) n p h.0) b.listings (h.1.all p (b.shown s listed shows told))))
    c.collect.result c.collect.ensures.took

pub returns-clause-errors : goal.returns-clause-errors
returns-clause-errors g c =
    let range = behavior_range c.args.behavior in
    let start = c.args.start.now in
    let b = c.walk_from.ensures.begins in
    map_ok (λ r h.
    subst (AreOfFolders (IsPassed range.min start []) (is_above range.max))
    (sym (h.3 ∙ all_kept range start _ h.1.told h.0 b.takes h.1.ends_there h.1.course))
    (errors_passed range.min start [] range.max _ h.0 b.fails b.may_open h.1.of_folders))
    c.collect.result c.collect.ensures.took

pub returns-clause-took : goal.returns-clause-took
returns-clause-took g c =
    let law = g.D.Directory.law in
    let range = behavior_range c.args.behavior in
    let start = c.args.start.now in
    let b = c.walk_from.ensures.begins in
    map_ok (λ r h.
    subst (Took law (start_view law c.args.directory start range) r.1)
    (sym (h.3 ∙ all_kept range start _ h.1.told h.0 b.takes h.1.ends_there h.1.course))
    (took_start law c.args.directory start range _ b r.1 h.0 h.1))
    c.collect.result c.collect.ensures.took

pub returns-clause-few : goal.returns-clause-few
returns-clause-few g c =
    let range = behavior_range c.args.behavior in
    let b = c.walk_from.ensures.begins in
    let most = c.walk_from.ensures.gives.gives in
    map_ok (λ r h.
    let same = h.3 ∙ all_kept range c.args.start.now _ h.1.told h.0 b.takes h.1.ends_there h.1.course in
    let few = h.2 in
    let given = map (given_outcome facts_of facts_of) r.0.items in
    let long : length given ≡ length r.0.items = length-map r.0.items (given_outcome facts_of facts_of) in
    let many : length given ≡ length h.0 = ap length same in
    omega (arith, few, most, long, many))
    c.collect.result c.collect.ensures.took

pub returns-clause-answered : goal.returns-clause-answered
returns-clause-answered g c =
    let range = behavior_range c.args.behavior in
    let start = c.args.start.now in
    let b = c.walk_from.ensures.begins in
    map_ok (λ r h.
    let told = h.1.told in (
      told,
      subst (λ d. g.D.Directory.law.answered r.1 ≡ g.D.Directory.law.answered d ++ told)
          b.directory h.1.answered,
      entries_answered range start _ told h.0 _ b.takes h.1.ends_there h.1.course
          (subst (λ n. SpendsWithin n told h.0) b.listings h.1.spends)
          (h.3 ∙ all_kept range start _ told h.0 b.takes h.1.ends_there h.1.course),
    ))
    c.collect.result c.collect.ensures.took
