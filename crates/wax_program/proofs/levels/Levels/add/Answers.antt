use Rattle.std.proofs.Common.{subst, sym}
use Rattle.wax_program.specs.Onward.{AreLevelsOf, LevelFlags, PlaceFlags}
use Rattle.wax_program.specs.inner.Leads.{HoldLast, IsNextLevel}
use Rattle.wax_program.proofs.Limits.{one_level_more}
use Rattle.wax_program.proofs.levels.Levels.add.Goals as goal

pub returns-clause-levels : goal.returns-clause-levels
returns-clause-levels c =
    let code = c.args.program.now.0 in
    let i = c.self.inside in
    let old : LevelFlags =
    record { levels = i.levels.items; is_complete = i.is_complete; others = i.others } in
    let f : PlaceFlags = c.in_ok-next.next in
    let held : AreLevelsOf code old = subst (AreLevelsOf code) (sym c.self.view_is) c.requires.levels in
    let next : IsNextLevel code old.levels f =
    subst (λ (l : LevelFlags). IsNextLevel code l.levels f) (sym c.self.view_is) c.in_ok-next.ensures.level in
    subst (λ xs. AreLevelsOf code
    (record { levels = xs; is_complete = c.is_last-is_last.result; others = i.others }))
    (sym c.in_ok-push.ensures.items)
    (one_level_more code old f c.is_last-is_last.result held next
    (λ t. subst (λ (l : LevelFlags). HoldLast l.levels f) (sym c.self.view_is) (c.is_last-is_last.ensures t)))
