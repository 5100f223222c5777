use Rattle.std.proofs.{Common.{[], ◌∷◌, ◌++◌, ap, ◌∙◌, subst, append_assoc}, lemmas.Result.on_err_weaker}
use Rattle.wax_lines.specs.inner.Progress.{TakesIn}
use Rattle.wax_lines.proofs.Sifting.{TakesIn-then, on_err}
use Rattle.wax_lines.proofs.lines.sieve.Sieve.take.Goals as goal

pub returns-in_err-take_line-clause-err : goal.returns-in_err-take_line-clause-err
returns-in_err-take_line-clause-err g c =
    let (part, rest, parts, more) = c.in_err-take_line.ensures.err in
    let (cut, _) = c.in-Some.ensures in
    on_err c.from_residual-in_err-take_line.result (
      part,
      rest ++ 10 ∷ c.in-Some.after.now,
      cut ∙ ap (λ z. z ++ 10 ∷ c.in-Some.after.now) parts ∙ append_assoc part rest (10 ∷ c.in-Some.after.now),
      more,
    )

pub returns-clause-err : goal.returns-clause-err
returns-clause-err g c =
    let (cut, _) = c.in-Some.ensures in
    let end = c.in-Some.end.now in
    on_err_weaker c.take_lines.result (λ (part, rest, parts, more). (
      (end ++ 10 ∷ []) ++ part,
      rest,
      cut ∙ ap (λ z. end ++ 10 ∷ z) parts ∙ simp append_assoc,
      TakesIn-then (g.L.LineWriter.writes (g.L.LineWriter.view c.args.line_writer.now)) c.args.self.now
          c.take_line.new.self c.take_lines.new.self
          (end ++ 10 ∷ []) part c.in_ok-take_line.ensures.ok
          (subst (λ v. TakesIn (g.L.LineWriter.writes v) part c.take_line.new.self c.take_lines.new.self)
          c.take_line.ensures.same more),
    )) c.take_lines.ensures.err
