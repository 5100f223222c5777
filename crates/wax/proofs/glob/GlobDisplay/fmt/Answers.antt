use Rattle.std.proofs.{Common.{◌≡◌, encode_utf8_all, sym, ap, ◌∙◌}, lemmas.Str.encodes-chars}
use Rattle.wax.proofs.glob.GlobDisplay.fmt.Goals as goal

pub returns-clause-writes : goal.returns-clause-writes
returns-clause-writes g c =
    let e : encode_utf8_all c.args.self.now.expression ≡ c.expression.result.now = ap encode_utf8_all
    (sym c.expression.ensures) ∙ encodes-chars c.expression.result.now c.expression.utf8 in
    rw e c.fmt.ensures.writes
