use Rattle.std.proofs.Common.{◌≡◌, ◌∙◌, ◌<◌, List, Bool, Some, ap, length, subst, sym}
use Rattle.wax_program.specs.Onward.{AreLevelsOf, AreOthers, LevelFlags}
use Rattle.wax_program.proofs.Limits.{some_same}
use Rattle.wax_program.proofs.levels.Levels.find.Goals.{in-Some, in-None+in_ok-others-in-None}
use Rattle.wax_program.proofs.levels.Levels.find.Goals as goal

pub returns-clause-levels : goal.returns-clause-levels
returns-clause-levels c =
    let code = c.args.program.now.0 in
    let i = c.self-2.inside in
    let old : LevelFlags =
    record { levels = i.levels.items; is_complete = i.is_complete; others = i.others } in
    let held : AreLevelsOf code old =
    subst (AreLevelsOf code) (sym c.self-2.view_is) c.add_up_to-result.ensures.levels in
    let others : List Bool = c.match-take.others in
    let are : (length code < length others) × AreOthers code others = elim c.match-take.branch [
      | in-Some w ↦
          let was : c.args.self.now.others ≡ Some w.in-Some.others =
          sym (ap (λ (l : LevelFlags). l.others) c.self.view_is) ∙ sym c.take.ensures.value ∙ w.in-Some.is in
          subst (λ (z : List Bool). (length code < length z) × AreOthers code z) (sym w.others-is)
          (c.requires.others w.in-Some.others was)
      | in-None+in_ok-others-in-None w ↦
          subst (λ (z : List Bool). (length code < length z) × AreOthers code z) (sym w.others-is)
          (w.in_ok-others-in-None.ensures.room, w.in_ok-others-in-None.ensures.others)
    ] in
    record {
      each = held.each;
      beyond = held.beyond;
      others = λ flags e.
          subst (λ (z : List Bool). (length code < length z) × AreOthers code z) (some_same e) are;
    }
