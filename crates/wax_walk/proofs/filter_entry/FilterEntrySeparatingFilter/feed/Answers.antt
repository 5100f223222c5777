use Rattle.std.specs.Prelude.{Some, None}
use Rattle.wax_walk.specs.Entries.{given_of}
use Rattle.wax_walk.proofs.ClosureSteps.{closure_ends, closure_cuts, closure_passes}
use Rattle.wax_walk.proofs.Knowing.{keeps_passed, keeps_cut}
use Rattle.wax_walk.proofs.filter_entry.FilterEntrySeparatingFilter.feed.Goals.{then-cuts, else-cuts}
use Rattle.wax_walk.proofs.filter_entry.FilterEntrySeparatingFilter.feed.Goals as goal

pub returns-in_err-separation-clause-steps : goal.returns-in_err-separation-clause-steps
returns-in_err-separation-clause-steps g c =
    let view = g.I.FileIterator.view in
    let f = c.args.self.now.f in
    let fed = g.met.I.FileIterator.feeding c.args.self.now.input c.feed.new.self None
    c.in_err-separation.ensures.steps in
    rw c.from_residual.ensures (
      closure_ends g.I.Directory.Directory.law _ (view c.args.self.now.input) (view c.feed.new.self) f fed,
      g.met.I.FileIterator.keeping c.args.self.now.input c.feed.new.self None
          c.in_err-separation.ensures.steps,
    )

pub returns-clause-steps : goal.returns-clause-steps
returns-clause-steps g c =
    let view = g.I.FileIterator.view in
    let law = g.I.Directory.Directory.law in
    let x = given_of g.I.Entry.Entry.facts g.I.Residue.Entry.facts c.in_ok-separation.separation in
    let y = given_of g.I.Entry.Entry.facts g.I.Residue.Entry.facts c.separated.result in
    let fed = g.met.I.FileIterator.feeding c.args.self.now.input c.feed.new.self
    (Some c.in_ok-separation.separation) c.in_ok-separation.ensures.steps in
    let keeps = g.met.I.FileIterator.keeping c.args.self.now.input c.feed.new.self
    (Some c.in_ok-separation.separation) c.in_ok-separation.ensures.steps in
    elim c.if-cuts.branch [
      | then-cuts w ↦ rw w.self-is (
        closure_cuts law _ (view c.args.self.now.input) (view c.feed.new.self)
            (view w.cancel_walk_tree.new.self) c.args.self.now.f c.said_by-residue.new.f x y _ fed
            c.said_by-residue.ensures.says c.separated.ensures.given w.if-cuts.ensures
            (g.met.I.FileIterator.cancelling c.feed.new.self w.cancel_walk_tree.new.self
            w.cancel_walk_tree.ensures),
        keeps_cut _ _ _ _ _ keeps c.separated.ensures.kept
            (g.met.I.FileIterator.staying c.feed.new.self w.cancel_walk_tree.new.self
            w.cancel_walk_tree.ensures),
      )
      | else-cuts w ↦ rw w.self-is (
        closure_passes law _ (view c.args.self.now.input) (view c.feed.new.self) c.args.self.now.f
            c.said_by-residue.new.f x y _ fed c.said_by-residue.ensures.says c.separated.ensures.given
            w.if-cuts.ensures,
        keeps_passed _ _ _ _ keeps c.separated.ensures.kept,
      )
    ]
