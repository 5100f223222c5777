use Rattle.std.proofs.{Common.refl, lemmas.Result.IfOk-weaker}
use Rattle.wax.specs.Walks.{not_meant}
use Rattle.wax_test_uses.proofs.Filtered.{keeps_one_more}
use Rattle.wax_test_uses.proofs.walks.collect_excluding_patterns.Goals as goal

pub returns-in-Ok : goal.returns-in-Ok
returns-in-Ok g c =
    let law = g.I.Directory.Directory.law in
    let less = c.in-Ok.ensures.excludes in
    IfOk-weaker c.collect_excluding_pattern.result _ _ (λ r h. (
      _,
      record {
        first = less.0.0;
        first_only = less.0.1.only;
        second = h.0;
        second_only = h.1;
        lines = h.2;
        are_read = h.3;
        all = refl;
      },
      keeps_one_more law (not_meant less.0.0) _ _ _ r.1 _
          (c.in-Ok.ensures.comes less.0.0 less.0.1.only.0) h.4,
    )) c.collect_excluding_pattern.ensures
