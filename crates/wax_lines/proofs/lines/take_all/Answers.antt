use Rattle.std.proofs.{Common.{[], refl, sym, ◌∙◌, take, subst, arith, rules}, lemmas.List.length-take}
use Rattle.std.specs.Io.KnownBytes.{Consumes, IsAtEnd}
use Rattle.wax_lines.specs.inner.Progress.{TakesLast, Halted, TakesIn, TakesInPart}
use Rattle.wax_lines.proofs.Sifting.{if_err}
use Rattle.wax_lines.proofs.Runs.{Came-finished, Came-chunk, Came-part, Came-written, Short-writing}
use Rattle.wax_lines.proofs.Runs.{came_short}
use Rattle.wax_lines.proofs.lines.take_all.Goals as goal

pub returns-in_err-take_last-clause-stopped : goal.returns-in_err-take_last-clause-stopped
returns-in_err-take_last-clause-stopped g c =
    let none = subst (λ n. Consumes (g.R.Read.remaining c.loop-input.input.inner) (g.R.Read.remaining
    c.read.new.self.inner) (take n c.read.new.buf)) c.if-count-eq0.true c.in-Ok.ensures.bytes.0 in
    if_err _ c.from_residual.result c.from_residual.ensures.1 (λ e q. subst (Halted (g.L.LineWriter.writes
    (g.L.LineWriter.view c.args.line_writer.now)) _ _ _ _ _ c.take_last.new.self) (sym q)
    (came_short (g.L.LineWriter.writes (g.L.LineWriter.view c.args.line_writer.now)) _ _ _
    _ _ c.take_last.new.self
    (Came-chunk (g.L.LineWriter.writes (g.L.LineWriter.view c.args.line_writer.now)) _ _ _ _ _
    c.loop-input.sieve c.take_last.new.self [] c.loop-input.invariant.0 none
    (subst (λ v. TakesIn (g.L.LineWriter.writes v) [] c.loop-input.sieve c.take_last.new.self)
    c.loop-input.invariant.4 c.in_err-take_last.ensures.err))))

pub returns-in_err-take-clause-stopped : goal.returns-in_err-take-clause-stopped
returns-in_err-take-clause-stopped g c =
    if_err _ c.from_residual-in_err-take.result c.from_residual-in_err-take.ensures.1 (λ e q. subst (Halted
    (g.L.LineWriter.writes (g.L.LineWriter.view c.args.line_writer.now)) _ _ _ _ _ c.take.new.self) (sym q)
    (Came-part (g.L.LineWriter.writes (g.L.LineWriter.view c.args.line_writer.now)) _ _ _ _ _ _
    c.loop-input.sieve c.take.new.self (take c.in-Ok.count c.read.new.buf)
    (omega (arith, length-take c.in-Ok.count c.read.new.buf, c.in-Ok.ensures.last_len))
    (omega (arith, length-take c.in-Ok.count c.read.new.buf, c.read.auto.buf)) c.loop-input.invariant.0
    c.in-Ok.ensures.bytes.0
    (subst (λ v. TakesInPart (g.L.LineWriter.writes v) (take c.in-Ok.count c.read.new.buf) c.loop-input.sieve
    c.take.new.self) c.loop-input.invariant.4 c.in_err-take.ensures.err)))

pub loop-input-preserved-in-Continue-branch-3 : goal.loop-input-preserved-in-Continue-branch-3
loop-input-preserved-in-Continue-branch-3 g c =
    let w = c.in_ok-write_out.ensures in
    let came = Came-chunk (g.L.LineWriter.writes (g.L.LineWriter.view c.args.line_writer.now)) _ _ _ _ _
    c.loop-input.sieve c.take.new.self (take c.in-Ok.count c.read.new.buf) c.loop-input.invariant.0
    c.in-Ok.ensures.bytes.0
    (subst (λ v. TakesIn (g.L.LineWriter.writes v) (take c.in-Ok.count c.read.new.buf) c.loop-input.sieve
    c.take.new.self) c.loop-input.invariant.4 c.in_ok-take.ensures.ok) in (
      Came-written (g.L.LineWriter.writes (g.L.LineWriter.view c.args.line_writer.now)) _ _ _ _ _
          c.take.new.self c.write_out.new.self came w.ok w.carry w.empty w.not_text,
      search rules,
      omega (arith, c.in-Ok.ensures.failures),
      omega (arith, w.steady),
      c.take.ensures.same ∙ c.loop-input.invariant.4,
    )

pub returns-in_err-write_out-clause-stopped : goal.returns-in_err-write_out-clause-stopped
returns-in_err-write_out-clause-stopped g c =
    let came = Came-chunk (g.L.LineWriter.writes (g.L.LineWriter.view c.args.line_writer.now)) _ _ _ _ _
    c.loop-input.sieve c.take.new.self (take c.in-Ok.count c.read.new.buf) c.loop-input.invariant.0
    c.in-Ok.ensures.bytes.0
    (subst (λ v. TakesIn (g.L.LineWriter.writes v) (take c.in-Ok.count c.read.new.buf) c.loop-input.sieve
    c.take.new.self) c.loop-input.invariant.4 c.in_ok-take.ensures.ok) in
    let (is_write, part) = c.in_err-write_out.ensures.err in
    if_err _ c.from_residual-in_err-write_out.result
    c.from_residual-in_err-write_out.ensures.1 (λ e q. subst (Halted (g.L.LineWriter.writes
    (g.L.LineWriter.view c.args.line_writer.now)) _ _ _ _ _ c.write_out.new.self) (sym (q ∙ is_write)) (
      Short-writing (g.L.LineWriter.writes (g.L.LineWriter.view c.args.line_writer.now)) _ _ _ _ _ 0
          c.take.new.self (came_short (g.L.LineWriter.writes (g.L.LineWriter.view c.args.line_writer.now)) _ _
          _ _ 0 c.take.new.self came) part,
      c.in_err-write_out.ensures.empty,
    ))

pub loop-input-preserved : goal.loop-input-preserved
loop-input-preserved g c = (
  Came-chunk (g.L.LineWriter.writes (g.L.LineWriter.view c.args.line_writer.now)) _ _ _ _ _ c.loop-input.sieve
      c.take.new.self (take c.in-Ok.count c.read.new.buf) c.loop-input.invariant.0
      c.in-Ok.ensures.bytes.0
      (subst (λ v. TakesIn (g.L.LineWriter.writes v) (take c.in-Ok.count c.read.new.buf) c.loop-input.sieve
      c.take.new.self) c.loop-input.invariant.4 c.in_ok-take.ensures.ok),
  search rules,
  omega (arith, c.in-Ok.ensures.failures),
  omega arith,
  c.take.ensures.same ∙ c.loop-input.invariant.4,
)

pub returns-in_default-clause-same : goal.returns-in_default-clause-same
returns-in_default-clause-same g c = c.loop-input.invariant.4

pub returns-in_err-take_last-clause-same : goal.returns-in_err-take_last-clause-same
returns-in_err-take_last-clause-same g c = c.take_last.ensures.same ∙ c.loop-input.invariant.4

pub returns-then-count-eq0-clause-same : goal.returns-then-count-eq0-clause-same
returns-then-count-eq0-clause-same g c = c.take_last.ensures.same ∙ c.loop-input.invariant.4

pub returns-in_err-take-clause-same : goal.returns-in_err-take-clause-same
returns-in_err-take-clause-same g c = c.take.ensures.same ∙ c.loop-input.invariant.4

pub returns-in_err-write_out-clause-same : goal.returns-in_err-write_out-clause-same
returns-in_err-write_out-clause-same g c = c.take.ensures.same ∙ c.loop-input.invariant.4

pub returns-clause-same : goal.returns-clause-same
returns-clause-same g c = c.loop-input.invariant.4

pub returns-then-count-eq0-clause-done : goal.returns-then-count-eq0-clause-done
returns-then-count-eq0-clause-done g c =
    let none = subst (λ n. Consumes (g.R.Read.remaining c.loop-input.input.inner) (g.R.Read.remaining
    c.read.new.self.inner) (take n c.read.new.buf)) c.if-count-eq0.true c.in-Ok.ensures.bytes.0 in
    let ends : IsAtEnd (g.R.Read.remaining c.read.new.self.inner) =
    c.in-Ok.ensures.bytes.1 (search rules) (omega (arith, c.loop-input.invariant.1, c.read.auto.buf)) in
    Came-finished (g.L.LineWriter.writes (g.L.LineWriter.view c.args.line_writer.now)) _ _ _ _ _
    c.loop-input.sieve c.take_last.new.self [] c.loop-input.invariant.0 refl none ends
    (subst (λ v. TakesLast (g.L.LineWriter.writes v) c.loop-input.sieve c.take_last.new.self)
    c.loop-input.invariant.4 c.in_ok-take_last.ensures.ok)
