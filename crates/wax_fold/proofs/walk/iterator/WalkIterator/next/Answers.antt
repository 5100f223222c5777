use Rattle.std.proofs.Common.{◌≡◌, ◌∙◌, ◌∷◌, ap, sym}
use Rattle.wax_fold.specs.Walking.{walk_entry, roots, walking}
use Rattle.wax_fold.proofs.Walks.{given, fewer, none_left}
use Rattle.wax_fold.proofs.walk.iterator.WalkIterator.next.Goals as goal

pub returns-in_ok-give-in-Ok-clause-steps : goal.returns-in_ok-give-in-Ok-clause-steps
returns-in_ok-give-in-Ok-clause-steps g c =
    let chosen = g.S.Sequencer.chosen g.row.A.Denot in
    let old = walking c.args.self.now in
    let new = walking c.give.new.self in
    let entry = walk_entry c.in_ok-give-in-Ok.field-0 in
    let first : roots chosen old ≡ entry ∷ new.rest =
    sym (ap (λ w. w.rest) c.in-Ok.ensures) ∙ c.in_ok-give-in-Ok.ensures.0 in
    (given chosen old new entry first c.in_ok-give-in-Ok.ensures.1, first, c.in_ok-give-in-Ok.ensures.1)

pub returns-in_ok-give-in-Ok-clause-goes : goal.returns-in_ok-give-in-Ok-clause-goes
returns-in_ok-give-in-Ok-clause-goes g c =
    let chosen = g.S.Sequencer.chosen g.row.A.Denot in
    let old = walking c.args.self.now in
    let new = walking c.give.new.self in
    let entry = walk_entry c.in_ok-give-in-Ok.field-0 in
    let first : roots chosen old ≡ entry ∷ new.rest =
    sym (ap (λ w. w.rest) c.in-Ok.ensures) ∙ c.in_ok-give-in-Ok.ensures.0 in
    record {
      on = λ _. (tt, tt, fewer chosen old new entry first c.in_ok-give-in-Ok.ensures.1);
      keeps = tt;
      rests = λ _. tt;
    }

pub returns-in-Err-clause-goes : goal.returns-in-Err-clause-goes
returns-in-Err-clause-goes g c =
    let chosen = g.S.Sequencer.chosen g.row.A.Denot in
    record {
      on = λ _.
          (tt, tt, none_left chosen (walking c.args.self.now) (walking c.go_below.new.self) c.in-Err.ensures);
      keeps = tt;
      rests = λ _. tt;
    }
