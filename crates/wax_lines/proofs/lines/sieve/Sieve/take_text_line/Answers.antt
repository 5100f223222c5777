use Rattle.std.proofs.{Common.refl, lemmas.Result.on_ok_weaker}
use Rattle.wax_lines.proofs.Sifting.{TakesIn-text}
use Rattle.wax_lines.proofs.lines.sieve.Sieve.take_text_line.Goals as goal

pub returns-clause-ok : goal.returns-clause-ok
returns-clause-ok g c =
    let old = c.args.self.now in
    on_ok_weaker c.write_line.result (λ (out, writes, bytes).
    TakesIn-text (g.L.LineWriter.writes (g.L.LineWriter.view c.args.line_writer.now)) old
    (record {
      carry = old.carry;
      kept = record { bytes = c.write_line.new.out; not_text = old.kept.not_text };
    })
    c.args.line.now out c.requires.carry c.requires.line c.utf8.line writes c.requires.carry bytes refl)
    c.write_line.ensures.ok
