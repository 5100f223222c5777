use Rattle.std.proofs.Common.{[], ap, filter, map, refl, subst, ◌∙◌, inl, inr, arith}
use Rattle.wax_exclude.proofs.Telling.{answered_before}
use Rattle.wax_exclude.specs.{GlobRequests.goes, Pruned.by_components}
use Rattle.wax_tree.specs.{Programs.any_mark, Begins.behavior_range}
use Rattle.wax_walk.proofs.{Collecting.map_ok, Knowing.all_before}
use Rattle.wax_walk.specs.{Collected.Yielded, Forest.{nothing, pending}, Given.is_kept}
use Rattle.wax.specs.GlobWalks.{request_of}
use Rattle.wax.proofs.Kept.{fails_at_folders, gave_within, keeps_nothing, memory_only}
use Rattle.wax.proofs.glob.Glob.collect_excluding.Goals as goal

pub returns-clause-took : goal.returns-clause-took
returns-clause-took g c =
    let h = c.walk_in-walk.ensures.begins in
    let rule = any_mark (map g.R.Exclude.rule c.args.rules.items) in
    let ends = c.walk_in-walk.ensures.gives in
    map_ok (λ r k. (
      k.0,
      omega (arith, k.2, ends.gives),
      gave_within by_components c.args.self.now.tree g.D.Directory.law c.args.directory c.args.start.now
          (behavior_range c.args.behavior) _ rule r.1 k.0 h k.1,
      fails_at_folders c.args.self.now.tree g.D.Directory.law c.args.directory c.args.start.now
          (behavior_range c.args.behavior) _ rule r.1 k.0 h k.1,
      k.3,
    ))
    c.collect_excluding.result c.collect_excluding.ensures.took

pub returns-clause-begins : goal.returns-clause-begins
returns-clause-begins g c =
    let rule = any_mark (map g.R.Exclude.rule c.args.rules.items) in
    map_ok (λ r k. elim c.walk_in-walk.ensures.begins.begins [
      | inl b ↦ inl b
      | inr e ↦ elim e [
        | inl broken ↦ inr (inl broken)
        | inr lacks ↦ inr (inr (k.3 ∙ ap (filter is_kept) (memory_only _ rule r.1 k.0 lacks k.1)))
      ]
    ])
    c.collect_excluding.result c.collect_excluding.ensures.took

pub returns-clause-unmeant : goal.returns-clause-unmeant
returns-clause-unmeant g c =
    let law = g.D.Directory.law in
    let h = c.walk_in-walk.ensures.begins in
    map_ok (λ r k taken prefix path s listed is empty shows told.
    let all = k.1.all (pending nothing nothing listed 0) (
      refl,
      (pending nothing nothing listed 0, h.unmeant taken prefix is empty path s listed shows told, refl),
    ) in
    keeps_nothing (law.tells r.1) c.args.behavior.budget listed k.0 _
    (subst (λ n. Yielded (law.tells r.1) n (pending nothing nothing listed 0) k.0) h.listings all) k.3)
    c.collect_excluding.result c.collect_excluding.ensures.took

pub returns-clause-unasked : goal.returns-clause-unasked
returns-clause-unasked g c =
    let h = c.walk_in-walk.ensures.begins in
    map_ok (λ r k. (h.depth, h.depth_is, λ nowhere. k.1.unasked (inr (h.idle nowhere)) ∙ h.directory))
    c.collect_excluding.result c.collect_excluding.ensures.took

pub returns-clause-none_match : goal.returns-clause-none_match
returns-clause-none_match g c = λ taken prefix rooted is empty.
    c.walk_in-walk.ensures.begins.none_match taken prefix is empty rooted

pub returns-clause-matched : goal.returns-clause-matched
returns-clause-matched g c =
    map_ok (λ r h. all_before _ _ r.0.items c.walk_in-walk.ensures.known h)
    c.collect_excluding.result c.collect_excluding.ensures.known

pub returns-clause-wanted : goal.returns-clause-wanted
returns-clause-wanted g c =
    let law = g.D.Directory.law in
    let d = c.args.directory in
    let start = c.args.start.now in
    let asked = behavior_range c.args.behavior in
    let h = c.walk_in-walk.ensures.begins in
    map_ok
    (λ r k. (
      h.depth,
      h.depth_is,
      λ b filters s listed are plain shows told.
          k d (request_of start asked h.depth b []) filters s listed
          (h.comes b plain) are
          (goes (h.can b filters plain)) shows told,
    ))
    c.collect_excluding.result c.collect_excluding.ensures.wanted

pub returns-clause-answered : goal.returns-clause-answered
returns-clause-answered g c =
    let start = c.args.start.now in
    let asked = behavior_range c.args.behavior in
    let h = c.walk_in-walk.ensures.begins in
    map_ok
    (λ r k. (
      h.depth,
      h.depth_is,
      λ b filters are plain.
          answered_before g.D.Directory.law _ _ r.1 _ h.directory
          (k c.args.directory (request_of start asked h.depth b []) filters (h.comes b plain) are
          (goes (h.can b filters plain))),
    ))
    c.collect_excluding.result c.collect_excluding.ensures.answered
