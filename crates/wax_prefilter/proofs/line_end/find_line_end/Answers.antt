use Rattle.std.proofs.Common.{◌+◌, ◌∙◌, arith, sym, true≢false}
use Rattle.wax_prefilter.proofs.Ends.{none_first, none_past, none_to}
use Rattle.wax_prefilter.specs.inner.Ends.{NoneEndsBefore}
use Rattle.wax_prefilter.proofs.line_end.find_line_end.Goals as goal

pub loop-at-init : goal.loop-at-init
loop-at-init c = (omega arith, none_first c.args.end c.args.needles.now c.args.bytes.now c.requires)

pub returns-then-bytes-position-clause-before : goal.returns-then-bytes-position-clause-before
returns-then-bytes-position-clause-before c = λ k below.
    none_to c.args.end c.args.needles.now c.args.bytes.now c.loop-at.at c.find.result c.requires
    c.loop-at.invariant.0 c.loop-at.invariant.1
    c.find.ensures.before k (omega (arith, below))

pub returns-then-is_line_end-clause-before : goal.returns-then-is_line_end-clause-before
returns-then-is_line_end-clause-before c =
    none_to c.args.end c.args.needles.now c.args.bytes.now c.loop-at.at c.find.result c.requires
    c.loop-at.invariant.0 c.loop-at.invariant.1
    c.find.ensures.before

pub loop-at-preserved : goal.loop-at-preserved
loop-at-preserved c =
    let position = c.loop-at.at + c.find.result in
    let before : NoneEndsBefore c.args.needles.now c.args.bytes.now (position + c.args.end.back) =
    none_to c.args.end c.args.needles.now c.args.bytes.now c.loop-at.at c.find.result c.requires
    c.loop-at.invariant.0 c.loop-at.invariant.1 c.find.ensures.before in (
      omega arith,
      none_past c.args.needles.now c.args.bytes.now (position + c.args.end.back)
          (position + 1 + c.args.end.back) (omega arith) before
          (λ is ends. true≢false (sym (c.is_line_end.ensures is ends) ∙ c.if-is_line_end.false)),
    )

pub returns-clause-before : goal.returns-clause-before
returns-clause-before c = λ k below. c.loop-at.invariant.1 k (omega (arith, below))
