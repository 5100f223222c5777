use Rattle.std.proofs.Common.{Ok, ◌++◌, take, drop, sym, ap, ◌∙◌, arith, append_assoc, take-append-drop}
use Rattle.std.proofs.KnownBytes.{Appends-trans}
use Rattle.std.specs.declared.io.Error.{Error}
use Rattle.wax_lines.specs.Counts.{is_failed_write}
use Rattle.wax_lines.proofs.Counting.{one_more_if-above, slice_to_end}
use Rattle.wax_lines.proofs.writing.write_whole.Goals as goal

pub loop-rest-preserved : goal.loop-rest-preserved
loop-rest-preserved g c =
    let (front, splits, written, steady) = c.loop-rest.invariant in
    let rest = c.loop-rest.rest.now in
    let n = c.in-Ok.taken in
    let above = one_more_if-above (is_failed_write {E = Error} (Ok n) rest)
    c.loop-rest.output.failures (omega arith) in (
      front ++ take n rest,
      splits ∙ ap (λ z. front ++ z) (sym (take-append-drop n rest))
          ∙ sym (append_assoc front (take n rest) (drop n rest))
          ∙ ap (λ z. (front ++ take n rest) ++ z) (sym (slice_to_end rest n)),
      Appends-trans _ _ _ _ _ written c.in-Ok.ensures.bytes,
      omega (arith, above, c.in-Ok.ensures.failures),
    )
