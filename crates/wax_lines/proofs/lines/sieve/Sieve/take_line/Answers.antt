use Rattle.std.proofs.{Common.{◌≡◌, [], ◌++◌, append-nil, refl, sym, ◌∙◌, subst}, lemmas.Result.on_ok_weaker}
use Rattle.wax_lines.proofs.Sifting.{TakesIn-more, TakesIn-none, TakesIn-line, on_err, empty_items}
use Rattle.wax_lines.specs.Lines.{Gives}
use Rattle.wax_lines.proofs.lines.sieve.Sieve.take_line.Goals as goal

pub returns-then-is_empty-clause-ok : goal.returns-then-is_empty-clause-ok
returns-then-is_empty-clause-ok g c =
    let empty : c.args.self.now.carry.items ≡ [] =
    empty_items _ c.args.self.now.carry.items c.args.self.now.carry.ok.0 c.if-is_empty.ensures in
    on_ok_weaker c.add_line.result (λ (out, bad, gives, bytes, counts).
    TakesIn-line (g.L.LineWriter.writes (g.L.LineWriter.view c.args.line_writer.now)) c.args.self.now
    (record { carry = c.args.self.now.carry; kept = c.add_line.new.self })
    c.args.end.now out bad c.requires
    (subst (λ z. Gives (g.L.LineWriter.writes (g.L.LineWriter.view c.args.line_writer.now))
    (z ++ c.args.end.now) out bad) (sym empty) gives) empty bytes counts) c.add_line.ensures.ok

pub returns-in_err-extend_from_slice-clause-err : goal.returns-in_err-extend_from_slice-clause-err
returns-in_err-extend_from_slice-clause-err g c =
    on_err c.from_residual.result (
      [],
      c.args.end.now,
      refl,
      TakesIn-none (g.L.LineWriter.writes (g.L.LineWriter.view c.args.line_writer.now)) c.args.self.now
          (record { carry = c.extend_from_slice.new.self; kept = c.args.self.now.kept })
          c.in_err-extend_from_slice.ensures.items refl refl,
    )

pub returns-in_err-add_line-clause-err : goal.returns-in_err-add_line-clause-err
returns-in_err-add_line-clause-err g c =
    on_err c.from_residual-in_err-add_line.result (
      c.args.end.now,
      [],
      sym (append-nil c.args.end.now),
      TakesIn-more (g.L.LineWriter.writes (g.L.LineWriter.view c.args.line_writer.now)) c.args.self.now
          (record { carry = c.extend_from_slice.new.self; kept = c.add_line-2.new.self })
          c.args.end.now c.requires
          c.in_ok-extend_from_slice.ensures.items c.in_err-add_line.ensures.bytes
          c.in_err-add_line.ensures.not_text,
    )

pub returns-clause-ok : goal.returns-clause-ok
returns-clause-ok g c =
    let (out, bad, gives, bytes, counts) = c.in_ok-add_line.ensures.ok in
    let line : c.deref.result.now ≡ c.args.self.now.carry.items ++ c.args.end.now =
    c.deref.ensures.value ∙ c.in_ok-extend_from_slice.ensures.items in
    TakesIn-line (g.L.LineWriter.writes (g.L.LineWriter.view c.args.line_writer.now)) c.args.self.now
    (record { carry = c.clear.new.self; kept = c.add_line-2.new.self }) c.args.end.now out bad c.requires
    (subst (λ z. Gives (g.L.LineWriter.writes (g.L.LineWriter.view c.args.line_writer.now)) z out bad) line
    gives) c.clear.ensures.items bytes counts
