use Rattle.std.proofs.{Common.arith, lemmas.Grind.common_steps}
use Rattle.wax_fold.proofs.Bares.{means_combined}
use Rattle.wax_fold.proofs.combined.any.Goals as goal

pub returns-clause-means : goal.returns-clause-means
returns-clause-means g c = means_combined g.T.TokenTree.token c.args.all.items c.new_branch.result
    (grind (arith, common_steps))
