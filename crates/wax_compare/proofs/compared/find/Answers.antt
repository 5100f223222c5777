use Rattle.wax_compare.proofs.Answering.{answer_as}
use Rattle.wax_compare.specs.Selected.{IsSelected}
use Rattle.wax_program.specs.Machine.{Accepts}
use Rattle.wax_compare.proofs.compared.find.Goals as goal

pub returns-clause-answer : goal.returns-clause-answer
returns-clause-answer g c =
    let first = c.selector-first.result in
    let second = c.selector-second.result in
    answer_as c.args.texts (IsSelected first.criterion (Accepts first.program.now.0 0))
    (IsSelected second.criterion (Accepts second.program.now.0 0)) (g.A.Compared.selects c.args.first.now)
    (g.B.Compared.selects c.args.second.now) c.selector-first.ensures.selects
    c.selector-second.ensures.selects c.args.wanted c.in_ok-found.found c.in_ok-found.ensures.answer

pub returns-clause-limit : goal.returns-clause-limit
returns-clause-limit g c = (
  c.selector-first.result.program.now.0,
  c.selector-second.result.program.now.0,
  record {
    criterion = c.selector-first.result.criterion;
    can_select = c.selector-first.ensures.can_select;
    selects = c.selector-first.ensures.selects;
  },
  record {
    criterion = c.selector-second.result.criterion;
    can_select = c.selector-second.ensures.can_select;
    selects = c.selector-second.ensures.selects;
  },
  c.in_ok-found.ensures.limit,
)
