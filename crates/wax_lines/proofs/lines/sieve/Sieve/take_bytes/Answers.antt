use Rattle.std.proofs.Common.{[], ◌∷◌, ◌++◌, ap, ◌∙◌, subst, append_assoc}
use Rattle.wax_lines.specs.inner.Progress.{TakesIn}
use Rattle.wax_lines.proofs.Sifting.{TakesIn-then, on_err}
use Rattle.wax_lines.proofs.lines.sieve.Sieve.take_bytes.Goals as goal

pub returns-in_err-take_line-clause-err : goal.returns-in_err-take_line-clause-err
returns-in_err-take_line-clause-err g c =
    let (front, splits, taken, same) = c.loop-line.invariant in
    let (part, rest, parts, more) = c.in_err-take_line.ensures.err in
    let (cut, _) = c.in-Some.ensures in
    on_err c.from_residual.result (
      front ++ part,
      rest ++ 10 ∷ c.in-Some.after.now,
      splits ∙ ap (λ z. front ++ z) (cut ∙ ap (λ z. z ++ 10 ∷ c.in-Some.after.now) parts) ∙ simp append_assoc,
      TakesIn-then (g.L.LineWriter.writes (g.L.LineWriter.view c.args.line_writer.now)) c.args.self.now
          c.loop-line.self c.take_line.new.self front part taken
          (subst (λ v. TakesIn (g.L.LineWriter.writes v) part c.loop-line.self c.take_line.new.self) same
          more),
    )

pub loop-line-preserved : goal.loop-line-preserved
loop-line-preserved g c =
    let (front, splits, taken, same) = c.loop-line.invariant in
    let (cut, _) = c.in-Some.ensures in (
      front ++ (c.in-Some.line.now ++ 10 ∷ []),
      splits ∙ ap (λ z. front ++ z) cut ∙ simp append_assoc,
      TakesIn-then (g.L.LineWriter.writes (g.L.LineWriter.view c.args.line_writer.now)) c.args.self.now
          c.loop-line.self c.take_line.new.self front (c.in-Some.line.now ++ 10 ∷ []) taken
          (subst (λ v. TakesIn (g.L.LineWriter.writes v) (c.in-Some.line.now ++ 10 ∷ []) c.loop-line.self
          c.take_line.new.self) same c.in_ok-take_line.ensures.ok),
      c.take_line.ensures.same ∙ same,
    )

pub returns-in_err-take_line-clause-same : goal.returns-in_err-take_line-clause-same
returns-in_err-take_line-clause-same g c =
    let (front, splits, taken, same) = c.loop-line.invariant in
    c.take_line.ensures.same ∙ same

pub returns-in_err-extend_from_slice-clause-same : goal.returns-in_err-extend_from_slice-clause-same
returns-in_err-extend_from_slice-clause-same g c =
    let (front, splits, taken, same) = c.loop-line.invariant in
    same

pub returns-clause-same : goal.returns-clause-same
returns-clause-same g c =
    let (front, splits, taken, same) = c.loop-line.invariant in
    same
