use Rattle.std.proofs.Common.{subst}
use Rattle.wax_lines.specs.Lines.{WritesNothingBefore}
use Rattle.wax_lines.proofs.Skips.{gives_nothing}
use Rattle.wax_lines.proofs.lines.sieve.pass_over.Goals as goal

pub returns-in_default : goal.returns-in_default
returns-in_default g c =
    let writes = g.L.LineWriter.writes (g.L.LineWriter.view c.args.line_writer.now) in
    let (front, splits, few, ends, utf8) = c.after_lines.ensures in (
      front,
      splits,
      gives_nothing writes front c.after_lines.result.now c.earliest_end.result ends utf8
          (subst (λ s. WritesNothingBefore writes s c.earliest_end.result) splits c.earliest_end.ensures) few,
    )
