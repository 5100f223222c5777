use Rattle.std.proofs.Common.{◌↔◌, ◌++◌, ◌∷◌, [], IsTrue, false, subst, sym}
use Rattle.wax_compare.specs.Selected.{HasOddLast}
use Rattle.wax_program.specs.{Closed.IsClosed, Machine.{Accepts, mark}}
use Rattle.wax_exclude.proofs.Numbering.{numbers_select}
use Rattle.wax_exclude.specs.inner.Listed.{ignored_by}
use Rattle.wax_exclude.proofs.numbers.NumberedLines.selector.Goals as goal

pub returns-clause-can_select : goal.returns-clause-can_select
returns-clause-can_select c = subst IsClosed (sym c.holder.ensures) c.requires

pub returns-clause-selects : goal.returns-clause-selects
returns-clause-selects c = λ lines knows s.
    subst (λ code. HasOddLast (λ k. Accepts code 0 (s ++ mark k ∷ [])) ↔ IsTrue (ignored_by false lines s))
    (sym c.holder.ensures) (numbers_select lines c.args.self.now s knows)
