use Rattle.std.proofs.Common.{sym, ◌∙◌}
use Rattle.std.specs.Prelude.{Some, None}
use Rattle.wax_walk.specs.Entries.{given_of}
use Rattle.wax_walk.proofs.PrunedSteps.{selected_cuts, selected_ends, selected_lacks, selected_passes}
use Rattle.wax_walk.proofs.{PrunedSteps.selected_stays, Knowing.{keeps_passed, keeps_cut}}
use Rattle.wax_walk.proofs.selecting.SelectingSeparatingFilter.feed.Goals.{then-selected, else-selected}
use Rattle.wax_walk.proofs.selecting.SelectingSeparatingFilter.feed.Goals as goal

pub returns-in_err-separation-clause-steps : goal.returns-in_err-separation-clause-steps
returns-in_err-separation-clause-steps g c =
    let view = g.I.FileIterator.view in
    let s = c.args.self.now in
    let fed = g.met.I.FileIterator.feeding s.input c.feed.new.self None
    c.in_err-separation.ensures.steps in
    rw c.from_residual.ensures (
      selected_ends g.I.Directory.Directory.law (g.S.Select.keeps s.selection)
          (g.S.Select.goes_on s.selection)
          (view s.input) (view c.feed.new.self) s.has_ended c.if-self.false fed,
      g.met.I.FileIterator.keeping s.input c.feed.new.self None c.in_err-separation.ensures.steps,
    )

pub returns-clause-steps : goal.returns-clause-steps
returns-clause-steps g c =
    let view = g.I.FileIterator.view in
    let law = g.I.Directory.Directory.law in
    let s = c.args.self.now in
    let keeps = g.S.Select.keeps s.selection in
    let goes_on = g.S.Select.goes_on s.selection in
    let x = given_of g.I.Entry.Entry.facts g.I.Residue.Entry.facts c.in_ok-separation.separation in
    let y = given_of g.I.Entry.Entry.facts g.I.Residue.Entry.facts c.separated.result in
    let fed = g.met.I.FileIterator.feeding s.input c.feed.new.self
    (Some c.in_ok-separation.separation) c.in_ok-separation.ensures.steps in
    let known = g.met.I.FileIterator.keeping s.input c.feed.new.self
    (Some c.in_ok-separation.separation) c.in_ok-separation.ensures.steps in
    elim c.if-selected.branch [
      | then-selected w ↦ rw (w.self-is, c.select_item.ensures.same_kept, c.select_item.ensures.same_opened) (
        selected_cuts law keeps goes_on (view s.input) (view c.feed.new.self)
            (view w.cancel_walk_tree.new.self) s.has_ended c.if-self.false x y _ fed
            c.in-Ok.ensures.keeps c.separated.ensures.given
            (sym w.if-selected.true ∙ c.in-Ok.ensures.closes)
            (g.met.I.FileIterator.cancelling c.feed.new.self w.cancel_walk_tree.new.self
            w.cancel_walk_tree.ensures),
        keeps_cut _ _ _ _ _ known c.separated.ensures.kept
            (g.met.I.FileIterator.staying c.feed.new.self w.cancel_walk_tree.new.self
            w.cancel_walk_tree.ensures),
      )
      | else-selected w ↦ rw (w.self-is, c.select_item.ensures.same_kept, c.select_item.ensures.same_opened) (
        selected_passes law keeps goes_on (view s.input) (view c.feed.new.self)
            s.has_ended c.if-self.false x y _ fed c.in-Ok.ensures.keeps
            c.separated.ensures.given (sym w.if-selected.false ∙ c.in-Ok.ensures.closes),
        keeps_passed _ _ _ _ known c.separated.ensures.kept,
      )
    ]

pub returns-in_default-clause-steps : goal.returns-in_default-clause-steps
returns-in_default-clause-steps g c =
    let view = g.I.FileIterator.view in
    let s = c.args.self.now in
    let x = given_of g.I.Entry.Entry.facts g.I.Residue.Entry.facts c.in_ok-separation.separation in
    let fed = g.met.I.FileIterator.feeding s.input c.feed.new.self
    (Some c.in_ok-separation.separation) c.in_ok-separation.ensures.steps in
    let known = g.met.I.FileIterator.keeping s.input c.feed.new.self
    (Some c.in_ok-separation.separation) c.in_ok-separation.ensures.steps in
    rw (c.new.ensures, c.select_item.ensures.same_kept, c.select_item.ensures.same_opened) (
      selected_lacks g.I.Directory.Directory.law (g.S.Select.keeps s.selection)
          (g.S.Select.goes_on s.selection) (view s.input) (view c.feed.new.self) s.has_ended
          c.if-self.false x c.in_default.ensures.asks fed,
      record { answer = tt; stays = known.stays },
    )

pub returns-then-self-clause-steps : goal.returns-then-self-clause-steps
returns-then-self-clause-steps g c =
    let s = c.args.self.now in (
      selected_stays g.I.Directory.Directory.law (g.S.Select.keeps s.selection)
          (g.S.Select.goes_on s.selection) (g.I.FileIterator.view s.input) s.has_ended c.if-self.true,
      record { answer = tt; stays = λ e k. k },
    )
