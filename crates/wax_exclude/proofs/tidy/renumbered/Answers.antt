use Rattle.std.proofs.{Common.{◌<◌, ◌+◌, get_or, length, subst, sym, take}, lemmas.List.Elements.all_zip_more}
use Rattle.std.proofs.lemmas.Option.{slice_get-get_or}
use Rattle.std.specs.List.{AllZip}
use Rattle.wax_exclude.specs.inner.Tidy.{IsRenumbered}
use Rattle.wax_exclude.proofs.tidy.renumbered.Goals as goal

pub loop-line-preserved : goal.loop-line-preserved
loop-line-preserved c =
    let known = c.args.known.now in
    let indexes = c.args.indexes.now in
    let i = c.loop-line.line-index in
    let line = c.line-item.result in
    let low : line.index < length indexes =
    subst (λ x. x.index < length indexes) (sym c.line-item.is) (c.requires i line c.loop-line-test.true) in
    subst (AllZip (IsRenumbered indexes) (take (i + 1) known)) (sym c.in_ok-push.ensures.items)
    (all_zip_more (IsRenumbered indexes) known c.loop-line.found.items i line
    (record { index = get_or indexes line.index 0; reason = c.in_ok-reason.reason })
    c.loop-line-test.true c.line-item.is c.loop-line.invariant (record {
      index = slice_get-get_or indexes line.index 0 low;
      reason = c.in_ok-reason.ensures;
    }))
