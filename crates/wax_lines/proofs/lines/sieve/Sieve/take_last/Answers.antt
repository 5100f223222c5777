use Rattle.std.proofs.{Common.{◌≢◌, [], refl, subst}, lemmas.Result.on_ok_weaker}
use Rattle.wax_lines.specs.Lines.{Gives}
use Rattle.wax_lines.proofs.Sifting.{TakesLast-none, TakesLast-line, empty_items, filled_items}
use Rattle.wax_lines.proofs.lines.sieve.Sieve.take_last.Goals as goal

pub returns-then-is_empty-clause-ok : goal.returns-then-is_empty-clause-ok
returns-then-is_empty-clause-ok g c =
    TakesLast-none (g.L.LineWriter.writes (g.L.LineWriter.view c.args.line_writer.now))
    c.args.self.now c.args.self.now
    (empty_items _ c.args.self.now.carry.items c.args.self.now.carry.ok.0 c.if-is_empty.ensures) refl refl

pub returns-clause-ok : goal.returns-clause-ok
returns-clause-ok g c =
    let some : c.args.self.now.carry.items ≢ [] =
    filled_items _ c.args.self.now.carry.items c.args.self.now.carry.ok.0 c.if-is_empty.ensures in
    on_ok_weaker c.add_line.result (λ (out, bad, gives, bytes, counts). TakesLast-line
    (g.L.LineWriter.writes (g.L.LineWriter.view c.args.line_writer.now)) c.args.self.now _ out bad some
    (subst (λ z. Gives (g.L.LineWriter.writes (g.L.LineWriter.view c.args.line_writer.now)) z out bad)
    c.deref.ensures.value gives) bytes counts) c.add_line.ensures.ok
