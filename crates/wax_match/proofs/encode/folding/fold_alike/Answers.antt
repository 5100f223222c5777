use Rattle.std.proofs.Common.{◌<◌, ◌∙◌, length, arith, sym, true≢false}
use Rattle.wax_match.proofs.Folding.{alike_length, agrees_step, agrees_not}
use Rattle.wax_match.proofs.encode.folding.fold_alike.Goals as goal

pub returns-then-left-right : goal.returns-then-left-right
returns-then-left-right c = (
  (λ h. absurd (true≢false (sym h))),
  (λ h. absurd (omega (arith, alike_length c.args.left.now c.args.right.now h, c.if-left-right.true))),
)

pub returns-then-simple_fold : goal.returns-then-simple_fold
returns-then-simple_fold c =
    let i = c.loop-index.index in
    let xi : i < length c.args.left.now = omega arith in
    let yi : i < length c.args.right.now = omega arith in (
      (λ h. absurd (true≢false (sym h))),
      (λ h. absurd (agrees_not c.args.left.now c.args.right.now i c.index-left-index.result
          c.index-right-index.result xi yi c.index-left-index.is c.index-right-index.is
          (λ q. c.if-simple_fold.true (c.simple_fold.ensures ∙ q ∙ sym c.simple_fold-in-loop-index.ensures))
          c.loop-index.invariant h)),
    )

pub loop-index-preserved : goal.loop-index-preserved
loop-index-preserved c =
    let i = c.loop-index.index in
    let xi : i < length c.args.left.now = omega arith in
    let yi : i < length c.args.right.now = omega arith in
    agrees_step c.args.left.now c.args.right.now i c.index-left-index.result c.index-right-index.result xi yi
    c.index-left-index.is c.index-right-index.is
    (sym c.simple_fold.ensures ∙ c.if-simple_fold.false ∙ c.simple_fold-in-loop-index.ensures)
    c.loop-index.invariant
