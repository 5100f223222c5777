use Rattle.std.proofs.Common.{[], ◌∷◌, ◌++◌, ap, ◌∙◌, sym, subst, append_assoc, rules}
use Rattle.std.proofs.lemmas.Result.{on_ok_weaker, on_err_weaker}
use Rattle.wax_lines.specs.inner.Progress.{GivesNothing, TakesIn}
use Rattle.wax_lines.proofs.Sifting.{TakesIn-then, TakesIn-still, on_err}
use Rattle.wax_lines.proofs.lines.sieve.Sieve.take_text.Goals as goal

pub returns-in_err-take_text_line-clause-err : goal.returns-in_err-take_text_line-clause-err
returns-in_err-take_text_line-clause-err g c =
    let (front, splits, utf8, empty, taken, same) = c.loop-line.invariant in
    on_err c.from_residual.result (
      front,
      c.loop-line.rest.now ++ 10 ∷ [],
      ap (λ z. z ++ 10 ∷ []) splits ∙ append_assoc front c.loop-line.rest.now (10 ∷ []),
      TakesIn-still (g.L.LineWriter.writes (g.L.LineWriter.view c.args.line_writer.now)) c.args.self.now
          c.loop-line.self c.take_text_line.new.self front taken
          (subst (λ v. TakesIn (g.L.LineWriter.writes v) [] c.loop-line.self c.take_text_line.new.self) same
          c.in_err-take_text_line.ensures.err),
    )

pub loop-line-preserved : goal.loop-line-preserved
loop-line-preserved g c =
    let writes = g.L.LineWriter.writes (g.L.LineWriter.view c.args.line_writer.now) in
    let (front, splits, utf8, empty, taken, same) = c.loop-line.invariant in
    let (cut, _) = c.in-Some.ensures in
    let (passed, parted, nothing) = c.pass_over-rest-in-Some.ensures in
    let line = c.in-Some.line.now ++ 10 ∷ [] in
    let here : TakesIn writes line c.loop-line.self c.take_text_line.new.self =
    subst (λ v. TakesIn (g.L.LineWriter.writes v) line c.loop-line.self c.take_text_line.new.self) same
    c.in_ok-take_text_line.ensures.ok in
    let none : GivesNothing writes passed = subst (λ v. GivesNothing (g.L.LineWriter.writes v) passed)
    (c.take_text_line.ensures.same ∙ same) nothing in (
      (front ++ line) ++ passed,
      splits ∙ ap (λ z. front ++ z) (cut ∙ ap (λ z. c.in-Some.line.now ++ 10 ∷ z) parted) ∙ simp append_assoc,
      search rules,
      c.take_text_line.ensures.carry,
      TakesIn-then writes c.args.self.now c.take_text_line.new.self c.take_text_line.new.self
          (front ++ line) passed
          (TakesIn-then writes c.args.self.now c.loop-line.self c.take_text_line.new.self
          front line taken here)
          (none c.take_text_line.new.self c.take_text_line.ensures.carry),
      c.take_text_line.ensures.same ∙ same,
    )

pub returns-clause-ok : goal.returns-clause-ok
returns-clause-ok g c =
    let (front, splits, utf8, empty, taken, same) = c.loop-line.invariant in
    on_ok_weaker c.take_text_line-2.result (λ more.
    subst (λ z. TakesIn (g.L.LineWriter.writes (g.L.LineWriter.view c.args.line_writer.now))
    (z ++ 10 ∷ []) c.args.self.now c.take_text_line-2.new.self) (sym splits)
    (subst (λ z. TakesIn (g.L.LineWriter.writes (g.L.LineWriter.view c.args.line_writer.now)) z
    c.args.self.now c.take_text_line-2.new.self)
    (sym (append_assoc front c.loop-line.rest.now (10 ∷ [])))
    (TakesIn-then (g.L.LineWriter.writes (g.L.LineWriter.view c.args.line_writer.now)) c.args.self.now
    c.loop-line.self c.take_text_line-2.new.self front
    (c.loop-line.rest.now ++ 10 ∷ []) taken
    (subst (λ v. TakesIn (g.L.LineWriter.writes v) (c.loop-line.rest.now ++ 10 ∷ []) c.loop-line.self
    c.take_text_line-2.new.self) same more))))
    c.take_text_line-2.ensures.ok

pub returns-clause-err : goal.returns-clause-err
returns-clause-err g c =
    let (front, splits, utf8, empty, taken, same) = c.loop-line.invariant in
    on_err_weaker c.take_text_line-2.result (λ none. (
      front,
      c.loop-line.rest.now ++ 10 ∷ [],
      ap (λ z. z ++ 10 ∷ []) splits ∙ append_assoc front c.loop-line.rest.now (10 ∷ []),
      TakesIn-still (g.L.LineWriter.writes (g.L.LineWriter.view c.args.line_writer.now)) c.args.self.now
          c.loop-line.self c.take_text_line-2.new.self front taken
          (subst (λ v. TakesIn (g.L.LineWriter.writes v) [] c.loop-line.self c.take_text_line-2.new.self) same
          none),
    )) c.take_text_line-2.ensures.err

pub returns-in_err-take_text_line-clause-same : goal.returns-in_err-take_text_line-clause-same
returns-in_err-take_text_line-clause-same g c =
    let (front, splits, utf8, empty, taken, same) = c.loop-line.invariant in
    c.take_text_line.ensures.same ∙ same

pub returns-clause-same : goal.returns-clause-same
returns-clause-same g c =
    let (front, splits, utf8, empty, taken, same) = c.loop-line.invariant in
    c.take_text_line-2.ensures.same ∙ same
