use Rattle.std.proofs.{Common.{◌<◌, ◌+◌, ◌≤◌, ap, chars, length, subst, sym}, lemmas.Result.IfOk-weaker}
use Rattle.wax_exclude.proofs.{DecidingLine.deciding_by, ListLengths.list_within}
use Rattle.wax_lazy.specs.Cost.{path_visits}
use Rattle.wax_exclude.specs.Deciding.{IsDecidingLine, SaysLines}
use Rattle.wax_exclude.proofs.deciding.DecidingLines.deciding_line_metered.Goals as goal

pub returns-clause-line : goal.returns-clause-line
returns-clause-line c =
    IfOk-weaker c.last_number_metered.result _ _ (λ found last lines says.
    subst (λ s. IsDecidingLine lines s found) c.as_str.ensures
    (deciding_by lines c.self.inside.numbered (chars c.as_str.result.now) found
    (subst (SaysLines lines) (sym c.self.view_is) says) last)) c.last_number_metered.ensures.last

pub returns-clause-above : goal.returns-clause-above
returns-clause-above c = λ size shorter.
    let m = c.last_number_metered in
    let code = c.self.inside.numbered in
    let within = list_within code size (subst (λ z. length z < size) (sym c.self.view_is) shorter)
    (length (chars c.as_str.result.now)) c.args.meter.now m.new.meter m.ensures.above in
    subst (λ n. m.new.meter ≤ c.args.meter.now + path_visits size n + size) (ap length c.as_str.ensures)
    within
