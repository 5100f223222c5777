use Rattle.std.proofs.{Common.{rules, refl, arith, ◌≤◌, length}, lemmas.List.Elements.All-nil}
use Rattle.std.specs.{Prelude.{Some, None, []}, Iterator.size}
use Rattle.wax_walk.specs.Entries.{given_of}
use Rattle.wax_walk.proofs.{Collecting.{taking_none, taking_more, taking_end, kept_more}, Knowing.all_kept}
use Rattle.wax_walk.proofs.gather.collect.Goals as goal

pub loop-item-init : goal.loop-item-init
loop-item-init g c = record {
  can = search rules;
  ends = search rules;
  taking = rw c.new-items.ensures.items ([], taking_none g.I.Directory.Directory.law _ _, refl);
  known = rw c.new-items.ensures.items (All-nil _, λ e h. h);
}

pub loop-item-preserved : goal.loop-item-preserved
loop-item-preserved g c =
    let s = c.loop-item.walk in
    let t = c.feed.new.self in
    let fed = c.in-Some.ensures.steps in
    let x = given_of g.I.Entry.Entry.facts g.I.Residue.Entry.facts c.in-Some.item in
    let goes = c.in-Some.ensures.goes.on c.loop-item.invariant.ends in
    let taking = c.loop-item.invariant.taking in
    let known = c.loop-item.invariant.known in
    record {
      can = search rules;
      ends = search rules;
      taking = (
        _,
        taking_more g.I.Directory.Directory.law _ _ _ _ _ _ taking.0 x taking.1
            (g.met.I.FileIterator.feeding s t (Some c.in-Some.item) fed) goes.2,
        kept_more g.I.Entry.Entry.facts g.I.Residue.Entry.facts _ _ c.in-Some.item taking.0
            c.in_ok-keep.ensures taking.2,
      );
      known =
          all_kept _ _ _ c.in-Some.item known.1 (g.met.I.FileIterator.keeping s t (Some c.in-Some.item) fed)
          _ _ c.in_ok-keep.ensures known.0;
    }

pub returns-clause-took : goal.returns-clause-took
returns-clause-took g c =
    let s = c.loop-item.walk in
    let t = c.feed.new.self in
    let taking = c.loop-item.invariant.taking in
    let few : length taking.0 ≤ size (g.I.SeparatingFilter.left c.args.walk) = omega (arith, taking.1.few) in
    rw c.into_directory.ensures (
      taking.0,
      taking_end g.I.Directory.Directory.law _ _ _ _ _ 0 _ taking.1
          (g.met.I.FileIterator.feeding s t None c.in_default.ensures.steps)
          (λ q i. g.met.I.FileIterator.telling t q i),
      few,
      taking.2,
    )

pub returns-clause-known : goal.returns-clause-known
returns-clause-known g c = c.loop-item.invariant.known.0
