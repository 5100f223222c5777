use Rattle.std.proofs.Common.{◌∙◌, sym, ap, subst, Err, arith}
use Rattle.wax_lines.specs.Lines.{Stopped}
use Rattle.wax_lines.proofs.{Counting.{grew_after, grew_before}, Sifting.{if_err, same_err}}
use Rattle.wax_lines.proofs.Runs.{stopped_at_once, Ended-writing, Halted-short, Halted-written}
use Rattle.wax_lines.proofs.Runs.{Finished-written}
use Rattle.wax_lines.proofs.lines.filter_lines_by.Goals as goal

pub returns-in_err-chunk-clause-stopped : goal.returns-in_err-chunk-clause-stopped
returns-in_err-chunk-clause-stopped g c =
    let left = g.R.Read.remaining c.args.input.now.inner in
    let held = g.W.Write.contents c.args.output.now.inner in
    if_err _ c.from_residual.result c.from_residual.ensures.1 (λ e q. subst (Stopped
    (g.L.LineWriter.writes (g.L.LineWriter.view c.args.line_writer.now)) left left held held) (sym q)
    (stopped_at_once (g.L.LineWriter.writes (g.L.LineWriter.view c.args.line_writer.now)) left held 65536))

pub returns-in_err-chunk-clause-of_last_read : goal.returns-in_err-chunk-clause-of_last_read
returns-in_err-chunk-clause-of_last_read g c _ =
    stopped_at_once (g.L.LineWriter.writes (g.L.LineWriter.view c.args.line_writer.now))
    (g.R.Read.remaining c.args.input.now.inner) (g.W.Write.contents c.args.output.now.inner)
    c.args.input.now.last_len

pub returns-in_err-write_out-clause-stopped : goal.returns-in_err-write_out-clause-stopped
returns-in_err-write_out-clause-stopped g c =
    let left = g.R.Read.remaining c.args.input.now.inner in
    let left' = g.R.Read.remaining c.take_all-taken.new.input.inner in
    let held = g.W.Write.contents c.args.output.now.inner in
    let held' = g.W.Write.contents c.write_out.new.output.inner in
    let (is_write, part) = c.in_err-write_out.ensures.err in
    if_err _ c.from_residual-in_err-write_out.result c.from_residual-in_err-write_out.ensures.1 (λ e q. subst
    (Stopped (g.L.LineWriter.writes (g.L.LineWriter.view c.args.line_writer.now)) left left' held held')
    (sym (q ∙ is_write))
    (Ended-writing (g.L.LineWriter.writes (g.L.LineWriter.view c.args.line_writer.now)) left left'
    held _ held' c.take_all-taken.new.input.last_len c.take_all-taken.new.sieve c.take_all-taken.result
    c.take_all-taken.ensures.done
    c.take_all-taken.ensures.stopped part))

pub returns-in_err-write_out-clause-write_failed : goal.returns-in_err-write_out-clause-write_failed
returns-in_err-write_out-clause-write_failed g c _ =
    grew_after _ c.take_all-taken.new.output.failures _ c.take_all-taken.ensures.steady
    c.in_err-write_out.ensures.failed

pub returns-in_err-taken-clause-stopped : goal.returns-in_err-taken-clause-stopped
returns-in_err-taken-clause-stopped g c =
    let left = g.R.Read.remaining c.args.input.now.inner in
    let left' = g.R.Read.remaining c.take_all-taken.new.input.inner in
    let held = g.W.Write.contents c.args.output.now.inner in
    let held' = g.W.Write.contents c.write_out.new.output.inner in
    if_err _ c.from_residual-in_err-taken.result c.from_residual-in_err-taken.ensures.1 (λ e q. subst (Stopped
    (g.L.LineWriter.writes (g.L.LineWriter.view c.args.line_writer.now)) left left' held held') (sym q)
    (Halted-written (g.L.LineWriter.writes (g.L.LineWriter.view c.args.line_writer.now)) left left'
    held _ held' c.take_all-taken.new.input.last_len c.take_all-taken.new.sieve c.in_err-taken.field-0.0
    c.in_err-taken.ensures.stopped c.in_ok-write_out.ensures.ok))

pub returns-in_err-taken-clause-of_last_read : goal.returns-in_err-taken-clause-of_last_read
returns-in_err-taken-clause-of_last_read g c is_memory =
    Halted-short (g.L.LineWriter.writes (g.L.LineWriter.view c.args.line_writer.now))
    (g.R.Read.remaining c.args.input.now.inner) (g.R.Read.remaining c.take_all-taken.new.input.inner)
    (g.W.Write.contents c.args.output.now.inner) _ (g.W.Write.contents c.write_out.new.output.inner)
    c.take_all-taken.new.input.last_len c.take_all-taken.new.sieve c.in_err-taken.field-0.0
    c.in_err-taken.ensures.stopped (same_err c.from_residual-in_err-taken.result c.in_err-taken.field-0.0 _
    c.from_residual-in_err-taken.ensures.1 is_memory) c.in_ok-write_out.ensures.ok

pub returns-in_err-taken-clause-read_failed : goal.returns-in_err-taken-clause-read_failed
returns-in_err-taken-clause-read_failed g c is_read =
    c.in_err-taken.ensures.read_failed (ap Err (same_err c.from_residual-in_err-taken.result
    c.in_err-taken.field-0.0 _ c.from_residual-in_err-taken.ensures.1 is_read))

pub returns-in_err-taken-clause-write_failed : goal.returns-in_err-taken-clause-write_failed
returns-in_err-taken-clause-write_failed g c is_write =
    grew_before _ c.take_all-taken.new.output.failures _
    (c.in_err-taken.ensures.write_failed (ap Err (same_err c.from_residual-in_err-taken.result
    c.in_err-taken.field-0.0 _ c.from_residual-in_err-taken.ensures.1 is_write)))
    c.in_ok-write_out.ensures.steady
    (omega (arith, c.write_out.new.output.at_most_calls, c.write_out.new.output.fit))

pub returns-clause-done : goal.returns-clause-done
returns-clause-done g c =
    Finished-written (g.L.LineWriter.writes (g.L.LineWriter.view c.args.line_writer.now)) _ _ _ _ _
    c.take_all-taken.new.sieve c.not_text.result c.in_ok-taken.ensures.done c.in_ok-write_out.ensures.ok
    (c.not_text.ensures ∙ c.in_ok-write_out.ensures.not_text)
