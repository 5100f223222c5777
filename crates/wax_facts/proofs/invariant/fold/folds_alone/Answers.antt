use Rattle.std.proofs.{Common.rules, lemmas.List.Sorted.answers_always}
use Rattle.wax_facts.proofs.FoldTable.{searched_alone}
use Rattle.wax_facts.proofs.invariant.fold.folds_alone.Goals as goal

pub returns : goal.returns
returns c =
    let facts = c.binary_search_by_key.ensures in
    let found = facts.position (λ pair. pair.0) (answers_always _ _ _ (λ f a r g called. search rules)) in
    searched_alone c.fold_pairs.result.now c.args.c c.binary_search_by_key.result c.is_err.result
    c.fold_pairs.ensures.table c.fold_pairs.ensures.meaning facts.bound found c.is_err.ensures.value
