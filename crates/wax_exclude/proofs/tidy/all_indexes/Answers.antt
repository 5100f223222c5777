use Rattle.std.proofs.Common.{◌≡◌, ◌∙◌, ◌++◌, ◌∷◌, [], ap, arith}
use Rattle.std.specs.List.{range_with_len}
use Rattle.wax_exclude.proofs.Dropped.{range_more}
use Rattle.wax_exclude.proofs.tidy.all_indexes.Goals as goal

pub loop-index-preserved : goal.loop-index-preserved
loop-index-preserved c =
    let index = c.loop-index.index in
    c.in_ok-push.ensures.items ∙ ap (λ ks. ks ++ index ∷ []) c.loop-index.invariant ∙ range_more index

pub returns : goal.returns
returns c =
    let all : c.loop-index.index ≡ c.args.count =
    omega (arith, c.loop-index-test.false, c.loop-index.auto.index-end) in
    c.loop-index.invariant ∙ ap (range_with_len 0) all
