use Rattle.std.proofs.lemmas.Result.{IfOk-weaker}
use Rattle.wax_set.proofs.Numbers.{compiled_alike, marked_compiled}
use Rattle.wax_set.proofs.set.shared.Goals as goal

pub with_numbered-requires-clause-same : goal.with_numbered-requires-clause-same
with_numbered-requires-clause-same c =
    marked_compiled c.args.token.now c.args.numbered.now.0 c.args.compiled c.requires.alternates
    c.requires.numbers c.requires.compiled

pub returns : goal.returns
returns c = IfOk-weaker c.with_numbered.result _ _
    (λ new alike. compiled_alike c.args.token.now c.args.compiled new c.requires.compiled alike)
    c.with_numbered.ensures
