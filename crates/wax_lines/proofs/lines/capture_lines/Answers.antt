use Rattle.std.proofs.{Common.{sym, subst}, lemmas.Result.{IfOk-weaker, IfErr-weaker}}
use Rattle.wax_lines.specs.Lines.{Stopped, WritesCaptures}
use Rattle.wax_lines.proofs.{Runs.stopped_at_once, Same.{filtered_as, short_as, stopped_as, captured_as}}
use Rattle.wax_lines.proofs.Sifting.{if_err}
use Rattle.wax_lines.proofs.lines.capture_lines.Goals as goal

pub returns-in_err-matcher-clause-stopped : goal.returns-in_err-matcher-clause-stopped
returns-in_err-matcher-clause-stopped g c =
    let left = g.R.Read.remaining c.args.input.now.inner in
    let held = g.W.Write.contents c.args.output.now.inner in
    let Writes =
    WritesCaptures (g.P.Program.means c.args.program.now) (g.P.Program.captured c.args.program.now) in
    if_err _ c.from_residual.result c.from_residual.ensures.1
    (λ e q. subst (Stopped Writes left left held held) (sym q) (stopped_at_once Writes left held 65536))

pub returns-in_err-matcher-clause-of_last_read : goal.returns-in_err-matcher-clause-of_last_read
returns-in_err-matcher-clause-of_last_read g c _ =
    stopped_at_once (WritesCaptures (g.P.Program.means c.args.program.now)
    (g.P.Program.captured c.args.program.now))
    (g.R.Read.remaining c.args.input.now.inner) (g.W.Write.contents c.args.output.now.inner)
    c.args.input.now.last_len

pub returns-clause-done : goal.returns-clause-done
returns-clause-done g c =
    let alike = captured_as _ _ (g.P.Program.means c.args.program.now) c.in_ok-matcher.ensures.decides
    (g.met.P.Program.is_decided c.args.program.now) (g.P.Program.captured c.args.program.now) in
    IfOk-weaker c.filter_lines_by.result _ _ (λ answer h. filtered_as _ _ alike _ _ _ _ answer h)
    c.filter_lines_by.ensures.done

pub returns-clause-stopped : goal.returns-clause-stopped
returns-clause-stopped g c =
    let alike = captured_as _ _ (g.P.Program.means c.args.program.now) c.in_ok-matcher.ensures.decides
    (g.met.P.Program.is_decided c.args.program.now) (g.P.Program.captured c.args.program.now) in
    IfErr-weaker c.filter_lines_by.result _ _ (λ error h. stopped_as _ _ alike _ _ _ _ error h)
    c.filter_lines_by.ensures.stopped

pub returns-clause-of_last_read : goal.returns-clause-of_last_read
returns-clause-of_last_read g c is_memory =
    let alike = captured_as _ _ (g.P.Program.means c.args.program.now) c.in_ok-matcher.ensures.decides
    (g.met.P.Program.is_decided c.args.program.now) (g.P.Program.captured c.args.program.now) in
    short_as _ _ alike _ _ _ _ _ (c.filter_lines_by.ensures.of_last_read is_memory)
