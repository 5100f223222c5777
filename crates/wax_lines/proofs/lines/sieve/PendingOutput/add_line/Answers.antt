use Rattle.std.proofs.Common.{[], append-nil, arith, refl, sym}
use Rattle.wax_lines.specs.Lines.{no_text}
use Rattle.wax_lines.proofs.lines.sieve.PendingOutput.add_line.Goals as goal

pub returns-in_default-clause-ok : goal.returns-in_default-clause-ok
returns-in_default-clause-ok g c =
    ([], 1, no_text c.in_default.ensures.cases.0 refl refl, sym (append-nil _), λ n e. omega arith)
