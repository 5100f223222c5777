use Rattle.std.proofs.{Common.{◌≡◌, ◌<◌, length, slice_index, arith, subst, ◌∙◌}, lemmas.List.get_or_default}
use Rattle.wax_compare.specs.inner.Distinctions.{GoesOnIn}
use Rattle.wax_compare.proofs.Closures.{closing_more}
use Rattle.wax_compare.proofs.closure.Closure.list.Goals as goal

pub loop-at-preserved : goal.loop-at-preserved
loop-at-preserved c =
    let listed = c.loop-at.self.places.items in
    let new = c.go_on.new.self.places.items in
    let at = c.loop-at.at in
    let told = c.in_ok-go_on.ensures in
    let within : at < length listed =
    omega (arith, c.if-at-len.false, c.len.ensures, c.loop-at.self.places.ok.0) in
    let is : c.index-place.result.now ≡ slice_index listed at =
    c.index-place.ensures ∙ get_or_default listed at c.index-place.result.now 0 within in (
      told.room,
      closing_more c.args.program.now.0 c.args.places.now listed new at within told.extends
          c.loop-at.invariant.1 (subst (GoesOnIn c.args.program.now.0 new) is told.leads),
    )
