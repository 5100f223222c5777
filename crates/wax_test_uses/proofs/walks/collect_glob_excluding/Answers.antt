use Rattle.std.proofs.lemmas.Result.{IfOk-weaker}
use Rattle.wax_test_uses.proofs.Filtered.{keeps_filtered}
use Rattle.wax_test_uses.proofs.walks.collect_glob_excluding.Goals as goal

pub returns : goal.returns
returns g c =
    IfOk-weaker c.collect_excluding_patterns.result _ _ (λ r h. (
      h.0,
      h.1,
      λ known.
          keeps_filtered c.args.glob.now g.D.Directory.law c.args.directory c.args.start.now h.0 r.1 _ _
          c.walk-walk.ensures.begins h.2 known,
    )) c.collect_excluding_patterns.ensures
