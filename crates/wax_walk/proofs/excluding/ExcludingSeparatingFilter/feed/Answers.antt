use Rattle.std.specs.Prelude.{Some, None}
use Rattle.wax_walk.specs.Entries.{given_of}
use Rattle.wax_walk.proofs.RuleSteps.{ruled_ends, ruled_cuts, ruled_lacks, ruled_passes, ruled_stays}
use Rattle.wax_walk.proofs.Knowing.{keeps_passed, keeps_cut}
use Rattle.wax_walk.proofs.excluding.ExcludingSeparatingFilter.feed.Goals.{then-cuts, else-cuts}
use Rattle.wax_walk.proofs.excluding.ExcludingSeparatingFilter.feed.Goals as goal

pub returns-in_err-separation-clause-steps : goal.returns-in_err-separation-clause-steps
returns-in_err-separation-clause-steps g c =
    let view = g.I.FileIterator.view in
    let fed = g.met.I.FileIterator.feeding c.args.self.now.input c.feed.new.self None
    c.in_err-separation.ensures.steps in
    rw c.from_residual.ensures (
      ruled_ends g.I.Directory.Directory.law (g.P.Exclude.rule c.args.self.now.rule)
          (view c.args.self.now.input) (view c.feed.new.self) c.args.self.now.has_ended c.if-self.false fed,
      g.met.I.FileIterator.keeping c.args.self.now.input c.feed.new.self None
          c.in_err-separation.ensures.steps,
    )

pub returns-clause-steps : goal.returns-clause-steps
returns-clause-steps g c =
    let view = g.I.FileIterator.view in
    let law = g.I.Directory.Directory.law in
    let rule = g.P.Exclude.rule c.args.self.now.rule in
    let x = given_of g.I.Entry.Entry.facts g.I.Residue.Entry.facts c.in_ok-separation.separation in
    let y = given_of g.I.Entry.Entry.facts g.I.Residue.Entry.facts c.separated.result in
    let fed = g.met.I.FileIterator.feeding c.args.self.now.input c.feed.new.self
    (Some c.in_ok-separation.separation) c.in_ok-separation.ensures.steps in
    let keeps = g.met.I.FileIterator.keeping c.args.self.now.input c.feed.new.self
    (Some c.in_ok-separation.separation) c.in_ok-separation.ensures.steps in
    elim c.if-cuts.branch [
      | then-cuts w ↦ rw (w.self-is, c.residue_of.ensures.same) (
        ruled_cuts law rule (view c.args.self.now.input) (view c.feed.new.self)
            (view w.cancel_walk_tree.new.self) c.args.self.now.has_ended c.if-self.false x y _ fed
            c.in-Ok.ensures.says c.separated.ensures.given w.if-cuts.ensures
            (g.met.I.FileIterator.cancelling c.feed.new.self w.cancel_walk_tree.new.self
            w.cancel_walk_tree.ensures),
        keeps_cut _ _ _ _ _ keeps c.separated.ensures.kept
            (g.met.I.FileIterator.staying c.feed.new.self w.cancel_walk_tree.new.self
            w.cancel_walk_tree.ensures),
      )
      | else-cuts w ↦ rw (w.self-is, c.residue_of.ensures.same) (
        ruled_passes law rule (view c.args.self.now.input) (view c.feed.new.self)
            c.args.self.now.has_ended c.if-self.false x y _ fed c.in-Ok.ensures.says
            c.separated.ensures.given w.if-cuts.ensures,
        keeps_passed _ _ _ _ keeps c.separated.ensures.kept,
      )
    ]

pub returns-in_default-clause-steps : goal.returns-in_default-clause-steps
returns-in_default-clause-steps g c =
    let view = g.I.FileIterator.view in
    let law = g.I.Directory.Directory.law in
    let x = given_of g.I.Entry.Entry.facts g.I.Residue.Entry.facts c.in_ok-separation.separation in
    let fed = g.met.I.FileIterator.feeding c.args.self.now.input c.feed.new.self
    (Some c.in_ok-separation.separation) c.in_ok-separation.ensures.steps in
    let keeps = g.met.I.FileIterator.keeping c.args.self.now.input c.feed.new.self
    (Some c.in_ok-separation.separation) c.in_ok-separation.ensures.steps in
    rw c.new.ensures (
      ruled_lacks law (g.P.Exclude.rule c.args.self.now.rule) (view c.args.self.now.input)
          (view c.feed.new.self) (g.P.Exclude.rule c.residue_of.new.rule) c.args.self.now.has_ended
          c.if-self.false x c.in_default.ensures.asks fed,
      record { answer = tt; stays = keeps.stays },
    )

pub returns-then-self-clause-steps : goal.returns-then-self-clause-steps
returns-then-self-clause-steps g c =
    let s = c.args.self.now in (
      ruled_stays g.I.Directory.Directory.law (g.P.Exclude.rule s.rule) (g.I.FileIterator.view s.input)
          s.has_ended c.if-self.true,
      record { answer = tt; stays = λ e k. k },
    )
