use Rattle.std.proofs.{Common.{◌≡◌, ◌∙◌, ap, encode_utf8_all, sym}, lemmas.Str.encodes-chars}
use Rattle.wax.proofs.glob.values.GlobDebug.fmt.Goals as goal

pub returns : goal.returns
returns g c =
    let e : encode_utf8_all c.args.self.now.expression ≡ c.expression.result.now = ap encode_utf8_all
    (sym c.expression.ensures) ∙ encodes-chars c.expression.result.now c.expression.utf8 in
    record { writes = rw e c.write.ensures.writes }
