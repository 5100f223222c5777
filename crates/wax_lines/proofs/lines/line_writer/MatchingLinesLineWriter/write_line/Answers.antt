use Rattle.std.proofs.Common.{IsTrue, ◌∷◌, ◌++◌, [], chars, encode_utf8_all, ap, sym, refl, ◌∙◌, subst, rules}
use Rattle.std.proofs.lemmas.Str.{encodes-chars}
use Rattle.wax_lines.specs.Lines.{meant}
use Rattle.wax_lines.proofs.lines.line_writer.MatchingLinesLineWriter.write_line.Goals as goal

pub returns-in_ok-push_line-clause-ok : goal.returns-in_ok-push_line-clause-ok
returns-in_ok-push_line-clause-ok g c =
    let path = c.from.ensures in (
      encode_utf8_all (chars c.args.line.now) ++ 10 ∷ [],
      meant (subst (λ s. IsTrue (g.M.PathMatcher.decides c.args.self.now.matcher s)) path (search rules))
          refl,
      c.in_ok-push_line.ensures.ok
          ∙ ap (λ z. c.args.out.now.items ++ (z ++ 10 ∷ []))
          (sym (encodes-chars c.args.line.now c.utf8.line)),
    )
