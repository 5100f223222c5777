use Rattle.std.proofs.Common.{[], ◌∷◌, ◌++◌, refl, ap, ◌∙◌, sym, append_assoc}
use Rattle.wax_lines.specs.declared.lines.sieve.Sieve.{Sieve}
use Rattle.wax_lines.proofs.Sifting.{TakesIn-none, TakesIn-still, on_err}
use Rattle.wax_lines.proofs.lines.sieve.Sieve.take_lines.Goals as goal

pub returns-in_err-take_text-clause-err : goal.returns-in_err-take_text-clause-err
returns-in_err-take_text-clause-err g c =
    let (part, rest, parts, more) = c.in_err-take_text.ensures.err in
    let (cut, _) = c.in-Some.ensures in
    on_err c.from_residual.result (
      part,
      rest ++ c.in-Some.open.now,
      cut ∙ sym (append_assoc c.in-Some.text.now (10 ∷ []) c.in-Some.open.now)
          ∙ ap (λ z. z ++ c.in-Some.open.now) parts ∙ append_assoc part rest c.in-Some.open.now,
      more,
    )

pub returns-in_err-extend_from_slice-clause-err : goal.returns-in_err-extend_from_slice-clause-err
returns-in_err-extend_from_slice-clause-err g c =
    let (cut, _) = c.in-Some.ensures in
    let mid : Sieve = c.take_text.new.self in
    let last : Sieve = record { carry = c.extend_from_slice.new.self; kept = mid.kept } in
    on_err c.from_residual-in_err-extend_from_slice.result (
      c.in-Some.text.now ++ 10 ∷ [],
      c.in-Some.open.now,
      cut ∙ sym (append_assoc c.in-Some.text.now (10 ∷ []) c.in-Some.open.now),
      TakesIn-still (g.L.LineWriter.writes (g.L.LineWriter.view c.args.line_writer.now)) c.args.self.now mid
          last (c.in-Some.text.now ++ 10 ∷ [])
          c.in_ok-take_text.ensures.ok
          (TakesIn-none (g.L.LineWriter.writes (g.L.LineWriter.view c.args.line_writer.now)) mid last
          c.in_err-extend_from_slice.ensures.items refl refl),
    )
