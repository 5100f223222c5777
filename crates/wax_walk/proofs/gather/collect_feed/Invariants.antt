use Rattle.std.proofs.Common.{map}
use Rattle.std.specs.{Prelude.All, Iterator.{IsFinite, size}}
use Rattle.wax_walk.specs.{Entries.given_of, Known.{KnownItem, StaysKnown}}
use Rattle.wax_walk.proofs.Collecting.{Taking}
use Rattle.wax_walk.proofs.gather.collect_feed.Given as goal

abbrev pub invariant-loop-item : goal.invariant-loop-item
invariant-loop-item g l =
    let left = g.I.SeparatingFilter.left in
    let view = g.I.FileIterator.view in
    let known = g.I.FileIterator.known in
    record {
      can : g.I.SeparatingFilter.can_feed l.walk;
      ends : IsFinite (left l.walk);
      taking : Taking g.I.Directory.Directory.law (view l.fn.walk) (view l.walk) (size (left l.fn.walk))
          (size (left l.walk)) (map (given_of g.I.Entry.Entry.facts g.I.Residue.Entry.facts) l.items.items);
      known : All (KnownItem (known l.fn.walk)) l.items.items × StaysKnown (known l.fn.walk) (known l.walk);
    }

abbrev pub decreases-loop-item : goal.decreases-loop-item
decreases-loop-item g l = size (g.I.SeparatingFilter.left l.walk)
