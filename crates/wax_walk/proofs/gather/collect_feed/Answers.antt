use Rattle.std.proofs.{Common.{rules, arith}, lemmas.List.{map-append, length-map}}
use Rattle.std.proofs.lemmas.List.Elements.{All-nil}
use Rattle.std.specs.Prelude.{Some, None}
use Rattle.wax_walk.specs.Entries.{given_of}
use Rattle.wax_walk.proofs.{Collecting.{taking_none, taking_more, taking_end}, Knowing.all_fed}
use Rattle.wax_walk.proofs.gather.collect_feed.Goals as goal

pub loop-item-init : goal.loop-item-init
loop-item-init g c = record {
  can = search rules;
  ends = search rules;
  taking = rw c.new-items.ensures.items (taking_none g.I.Directory.Directory.law _ _);
  known = rw c.new-items.ensures.items (All-nil _, λ e h. h);
}

pub loop-item-preserved : goal.loop-item-preserved
loop-item-preserved g c =
    let s = c.loop-item.walk in
    let t = c.feed.new.self in
    let fed = c.in-Some.ensures.steps in
    let goes = c.in-Some.ensures.goes.on c.loop-item.invariant.ends in
    let known = c.loop-item.invariant.known in
    record {
      can = search rules;
      ends = search rules;
      taking = rw (c.in_ok-push.ensures.items, map-append)
          (taking_more g.I.Directory.Directory.law _ _ _ _ _ _ _
          (given_of g.I.Entry.Entry.facts g.I.Residue.Entry.facts c.in-Some.item)
          c.loop-item.invariant.taking (g.met.I.FileIterator.feeding s t (Some c.in-Some.item) fed) goes.2);
      known =
          all_fed _ _ _ c.in-Some.item known.1 (g.met.I.FileIterator.keeping s t (Some c.in-Some.item) fed)
          _ _ c.in_ok-push.ensures.items known.0;
    }

pub returns-clause-took : goal.returns-clause-took
returns-clause-took g c =
    let s = c.loop-item.walk in
    let t = c.feed.new.self in
    rw c.into_directory.ensures
    (taking_end g.I.Directory.Directory.law _ _ _ _ _ 0 _ c.loop-item.invariant.taking
    (g.met.I.FileIterator.feeding s t None c.in_default.ensures.steps)
    (λ q i. g.met.I.FileIterator.telling t q i))

pub returns-clause-few : goal.returns-clause-few
returns-clause-few g c =
    omega (
      arith,
      c.loop-item.invariant.taking.few,
      length-map c.loop-item.items.items
          (given_of g.I.Entry.Entry.facts g.I.Residue.Entry.facts),
    )

pub returns-clause-known : goal.returns-clause-known
returns-clause-known g c = c.loop-item.invariant.known.0
