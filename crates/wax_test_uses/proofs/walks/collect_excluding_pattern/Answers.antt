use Rattle.std.proofs.lemmas.Result.{IfOk-weaker}
use Rattle.wax_test_uses.proofs.Filtered.{keeps_one_more}
use Rattle.wax_test_uses.proofs.walks.collect_excluding_pattern.Goals as goal

pub returns-in-Ok : goal.returns-in-Ok
returns-in-Ok g c =
    let law = g.I.Directory.Directory.law in
    let less = c.in-Ok.ensures.excludes in
    IfOk-weaker c.collect_unignored.result _ _ (λ r h. (
      less.0.0,
      less.0.1.only,
      h.0,
      h.1,
      keeps_one_more law _ _ _ _ r.1 _ (c.in-Ok.ensures.comes less.0.0 less.0.1.only.0) h.2,
    )) c.collect_unignored.ensures
