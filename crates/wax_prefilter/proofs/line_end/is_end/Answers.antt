use Rattle.std.proofs.{Common.{rules, ◌≡◌, true}, lemmas.Bool.Decides.Decides-eqb, lemmas.Slice.Eq.ends_is}
use Rattle.wax_prefilter.proofs.line_end.is_end.Goals as goal

pub returns : goal.returns
returns c = λ x e.
    let found : c.ends_with.result ≡ true =
    (ends_is Decides-eqb c.args.bytes.now c.args.end.now c.ends_with.result c.ends_with.ensures.value).1 x
    e in
    search (rules, found)
