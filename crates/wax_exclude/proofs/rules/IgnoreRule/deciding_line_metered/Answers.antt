use Rattle.std.proofs.{Common.{◌∙◌, ◌≤◌, ◌+◌, ap, chars, length, subst}, lemmas.Result.IfOk-weaker}
use Rattle.std.specs.Prelude.{IfOk}
use Rattle.wax_exclude.proofs.DecidingLine.{deciding_line_decides}
use Rattle.wax_exclude.specs.{Deciding.IsDecidingLine, Length.list_length}
use Rattle.wax_lazy.specs.Cost.{path_visits}
use Rattle.wax_exclude.proofs.rules.IgnoreRule.deciding_line_metered.Goals as goal

found : (c : goal.After-deciding_line)
    → IfOk c.deciding_line.result (IsDecidingLine c.args.self.now c.args.path.now)
found c =
    subst (λ s. IfOk c.deciding_line.result (IsDecidingLine c.args.self.now s)) c.as_str.ensures
    (subst (λ ls. IfOk c.deciding_line.result (IsDecidingLine ls (chars c.as_str.result.now)))
    (c.as_slice.ensures.value ∙ c.self.view_is) c.deciding_line.ensures.line)

pub returns-clause-line : goal.returns-clause-line
returns-clause-line c = found c

pub returns-clause-decides : goal.returns-clause-decides
returns-clause-decides c =
    IfOk-weaker c.deciding_line.result _ _ (deciding_line_decides c.args.self.now c.args.path.now) (found c)

pub returns-clause-above : goal.returns-clause-above
returns-clause-above c =
    let new = c.deciding_line.new.meter in
    let old = c.args.meter.now in
    subst (λ ls. new ≤ old + path_visits (list_length ls) (length c.args.path.now) + list_length ls)
    (c.as_slice.ensures.value ∙ c.self.view_is)
    (subst (λ n. new ≤ old + path_visits (list_length c.as_slice.result.now) n
    + list_length c.as_slice.result.now) (ap length c.as_str.ensures) c.deciding_line.ensures.above)
