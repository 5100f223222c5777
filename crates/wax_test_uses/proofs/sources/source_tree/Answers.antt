use Rattle.std.proofs.{Common.{[], ◌∙◌, sym}, lemmas.Result.IfOk-weaker}
use Rattle.wax.specs.Walks.{tree_inner, tree_law}
use Rattle.wax_test_uses.proofs.{Planted.shows_all, SourceTree.{source_holds, source_paths}}
use Rattle.wax_test_uses.specs.Sources.{source_items}
use Rattle.wax_test_uses.proofs.sources.source_tree.Goals as goal

pub returns-clause-shows : goal.returns-clause-shows
returns-clause-shows c =
    IfOk-weaker c.from_paths.result _ _ (λ t h. shows_all (tree_law.shows t) (λ path s u a b. sym a.2 ∙ b.2)
    (tree_inner t) source_paths h [] source_items source_holds) c.from_paths.ensures.shows
