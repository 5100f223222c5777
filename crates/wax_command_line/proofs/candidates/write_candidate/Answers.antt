use Rattle.std.proofs.Common.{rules, subst, ◌≡◌}
use Rattle.std.specs.Io.KnownBytes.{Appends}
use Rattle.wax_lines.specs.Written.{WritesPart}
use Rattle.wax_command_line.proofs.Lines.{err_holds, stops_whole, stops_writing}
use Rattle.wax_command_line.proofs.candidates.write_candidate.Goals as goal

pub returns-in_err-write_whole-clause-err : goal.returns-in_err-write_whole-clause-err
returns-in_err-write_whole-clause-err g c =
    let contents = g.W.Write.contents in
    let same : c.deref.result.now ≡ c.args.lines.now.items = search rules in
    let (is_write, written) = c.in_err-write_whole.ensures.err in
    let part = subst (WritesPart (contents c.args.output.now.inner)
    (contents c.write_whole.new.output.inner)) same written in
    err_holds _ c.from_residual.result _ c.from_residual.ensures.1 (stops_writing _ _ _ _ is_write part)

pub returns-in_default-clause-err : goal.returns-in_default-clause-err
returns-in_default-clause-err g c =
    let contents = g.W.Write.contents in
    let same : c.deref.result.now ≡ c.args.lines.now.items = search rules in
    stops_whole _ _ _ (subst (Appends (contents c.args.output.now.inner)
    (contents c.write_whole.new.output.inner)) same c.in_ok-write_whole.ensures.ok)
