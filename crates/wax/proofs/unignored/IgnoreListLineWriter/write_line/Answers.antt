use Rattle.std.proofs.Common.{◌≡◌, ◌∷◌, ◌++◌, [], ◌∙◌, ap, chars, encode_utf8_all, false, refl, subst, sym}
use Rattle.std.proofs.lemmas.Str.{encodes-chars}
use Rattle.wax_exclude.specs.Ignored.{is_ignored}
use Rattle.wax_lines.specs.Lines.{meant}
use Rattle.wax.proofs.unignored.IgnoreListLineWriter.write_line.Goals as goal

pub returns-in_ok-push_line-clause-ok : goal.returns-in_ok-push_line-clause-ok
returns-in_ok-push_line-clause-ok c = (
  encode_utf8_all (chars c.args.line.now) ++ 10 ∷ [],
  (let said = sym c.in_ok-is_ignored_cached.ensures.decides ∙ c.if-not-branch.true in
      meant (subst (λ s. is_ignored c.args.self.now s ≡ false) c.from.ensures said) refl),
  c.in_ok-push_line.ensures.ok
      ∙ ap (λ z. c.args.out.now.items ++ (z ++ 10 ∷ [])) (sym (encodes-chars c.args.line.now c.utf8.line)),
)
