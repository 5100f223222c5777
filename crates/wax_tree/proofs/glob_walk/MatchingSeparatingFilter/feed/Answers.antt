use Rattle.std.specs.Prelude.{Some, None, ◌≡◌}
use Rattle.std.proofs.Common.{refl, sym, subst, ◌∙◌}
use Rattle.wax_walk.specs.{Candidates.of_candidate, Entries.{facts_of, given_of}}
use Rattle.wax_walk.specs.Given.{mark_by, changed_by, cut_by}
use Rattle.wax_walk.proofs.RuleSteps.{ruled_ends, ruled_cuts, ruled_lacks, ruled_passes, ruled_stays}
use Rattle.wax_tree.specs.{Matches.glob_facts, Programs.leading_mark}
use Rattle.wax_tree.proofs.glob_walk.MatchingSeparatingFilter.feed.Goals.{then-cuts, else-cuts}
use Rattle.wax_tree.proofs.glob_walk.MatchingSeparatingFilter.feed.Goals as goal

pub returns-in_err-separation-clause-steps : goal.returns-in_err-separation-clause-steps
returns-in_err-separation-clause-steps g c =
    let view = g.I.FileIterator.view in
    let s = c.args.self.now in
    let rule = leading_mark g.C.NameTest.decides s.leading.items g.P.Program.decides s.program.now in
    let fed = g.met.I.FileIterator.feeding s.input c.feed.new.self None c.in_err-separation.ensures.steps in
    rw c.from_residual.ensures (
      ruled_ends g.I.Directory.Directory.law rule (view s.input) (view c.feed.new.self) s.has_ended
          c.if-self.false fed,
      record { answer = tt; stays = λ e k. k },
    )

pub returns-clause-steps : goal.returns-clause-steps
returns-clause-steps g c =
    let view = g.I.FileIterator.view in
    let law = g.I.Directory.Directory.law in
    let s = c.args.self.now in
    let rule = leading_mark g.C.NameTest.decides s.leading.items g.P.Program.decides s.program.now in
    let x = given_of facts_of facts_of c.in_ok-separation.separation in
    let y = given_of glob_facts facts_of c.in-Ok.separation in
    let fed = g.met.I.FileIterator.feeding s.input c.feed.new.self (Some c.in_ok-separation.separation)
    c.in_ok-separation.ensures.steps in
    let gives = subst (λ cs. y ≡ changed_by
    (of_candidate (leading_mark g.C.NameTest.decides cs g.P.Program.decides s.program.now)) x)
    c.deref.ensures.value c.in-Ok.ensures.gives in
    let cuts = subst (λ cs. c.in-Ok.cuts
    ≡ cut_by (of_candidate (leading_mark g.C.NameTest.decides cs g.P.Program.decides s.program.now)) x)
    c.deref.ensures.value c.in-Ok.ensures.cuts in
    elim c.if-cuts.branch [
      | then-cuts w ↦ rw w.self-is (
        ruled_cuts law rule (view s.input) (view c.feed.new.self) (view w.cancel_walk_tree.new.self)
            s.has_ended c.if-self.false x y (mark_by (of_candidate rule) x) fed refl gives
            (sym w.if-cuts.true
            ∙ cuts) (g.met.I.FileIterator.cancelling c.feed.new.self w.cancel_walk_tree.new.self
            w.cancel_walk_tree.ensures),
        record { answer = c.in-Ok.ensures.matches; stays = λ e k. k },
      )
      | else-cuts w ↦ rw w.self-is (
        ruled_passes law rule (view s.input) (view c.feed.new.self) s.has_ended
            c.if-self.false x y (mark_by (of_candidate rule) x) fed refl gives (sym w.if-cuts.false ∙ cuts),
        record { answer = c.in-Ok.ensures.matches; stays = λ e k. k },
      )
    ]

pub returns-then-self-clause-steps : goal.returns-then-self-clause-steps
returns-then-self-clause-steps g c =
    let s = c.args.self.now in
    let rule = leading_mark g.C.NameTest.decides s.leading.items g.P.Program.decides s.program.now in (
      ruled_stays g.I.Directory.Directory.law rule (g.I.FileIterator.view s.input) s.has_ended c.if-self.true,
      record { answer = tt; stays = λ e k. k },
    )

pub returns-in_default-clause-steps : goal.returns-in_default-clause-steps
returns-in_default-clause-steps g c =
    let view = g.I.FileIterator.view in
    let s = c.args.self.now in
    let rule = leading_mark g.C.NameTest.decides s.leading.items g.P.Program.decides s.program.now in
    let x = given_of facts_of facts_of c.in_ok-separation.separation in
    let fed = g.met.I.FileIterator.feeding s.input c.feed.new.self (Some c.in_ok-separation.separation)
    c.in_ok-separation.ensures.steps in
    rw c.new.ensures (
      ruled_lacks g.I.Directory.Directory.law rule (view s.input) (view c.feed.new.self) rule s.has_ended
          c.if-self.false x c.in_default.ensures.asks fed,
      record { answer = tt; stays = λ e k. k },
    )
