use Rattle.std.proofs.Common.{◌≡◌, ◌≤◌, false}
use Rattle.std.specs.Iterator.{IsFinite, size}
use Rattle.wax_command_line.proofs.Lines.{Writing}
use Rattle.wax_command_line.proofs.candidates.write_candidates.Given as goal

abbrev pub invariant-loop-item : goal.invariant-loop-item
invariant-loop-item g l =
    let left = g.I.SeparatingFilter.left in
    let view = g.I.FileIterator.view in
    let contents = g.W.Write.contents in
    record {
      can : g.I.SeparatingFilter.can_feed l.walk;
      ends : IsFinite (left l.walk);
      writing : Writing g.I.Directory.Directory.law (view l.fn.walk) (view l.walk)
          (size (left l.fn.walk)) (size (left l.walk))
          (contents l.fn.output.inner) (contents l.output.inner) l.lines.items l.has_errors;
      quiet : l.has_errors ≡ false → l.faults ≡ l.fn.faults;
      steady : l.fn.output.failures ≤ l.output.failures;
    }

abbrev pub decreases-loop-item : goal.decreases-loop-item
decreases-loop-item g l = size (g.I.SeparatingFilter.left l.walk)
