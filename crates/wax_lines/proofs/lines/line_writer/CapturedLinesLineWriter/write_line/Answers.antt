use Rattle.std.proofs.Common.{◌++◌, ◌∷◌, [], ap, subst, ◌∙◌, rules}
use Rattle.wax_query.specs.Matched.{texts}
use Rattle.wax_lines.specs.Lines.{captured, tabbed}
use Rattle.wax_lines.proofs.lines.line_writer.CapturedLinesLineWriter.write_line.Goals as goal

pub returns-clause-ok : goal.returns-clause-ok
returns-clause-ok g c =
    let same = c.from-path.ensures in
    let (is_meant, of_it, captures) = rw c.in-Some.is at c.in_ok-matched.ensures in
    let m = c.in-Some.matched in (
      tabbed (texts m) ++ 10 ∷ [],
      captured m.captures
          (search rules, subst (g.P.Program.means c.args.self.now.program.now) same is_meant)
          (subst (λ z. g.P.Program.captured c.args.self.now.program.now z m.captures) same captures)
          (ap (λ z. tabbed (z ∷ m.captures) ++ 10 ∷ []) (of_it ∙ same)),
      c.in_ok-add_matched.ensures.ok,
    )
