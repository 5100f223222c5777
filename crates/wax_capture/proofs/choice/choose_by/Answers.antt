use Rattle.std.proofs.Common.{◌+◌, ℕ, List, drop, arith, rules}
use Rattle.wax_capture.specs.inner.Rows.{IsFilled}
use Rattle.wax_capture.proofs.Choosing.{empty, left_best, left_fits, left_less, left_start}
use Rattle.wax_capture.proofs.choice.choose_by.Goals as goal

pub loop-n-init : goal.loop-n-init
loop-n-init c = record {
  left = left_start c.args.form.now c.args.text.now c.args.next.now c.args.at c.in_ok-span.span
      c.requires.within c.in_ok-span.ensures.end c.in_ok-span.ensures.lengths;
  end = c.in_ok-span.ensures.end;
  looked = c.in_ok-span.ensures.looked;
  steady = c.lengths_of.ensures.steady;
}

pub returns-then-is_some-clause-best : goal.returns-then-is_some-clause-best
returns-then-is_some-clause-best c =
    let s : List ℕ = drop c.args.at c.args.text.now in
    let filled : IsFilled c.args.next.now (c.args.at + c.in-Some.n) = search rules in (
      left_fits c.args.form.now s c.args.next.now c.args.at c.loop-n.span c.pick.new.span c.args.is_lazy
          c.in-Some.n c.loop-n.invariant.left c.in-Some.ensures.picked c.pick.ensures.narrowed filled,
      left_best c.args.form.now s c.args.next.now c.args.at c.loop-n.span c.pick.new.span c.args.is_lazy
          c.in-Some.n c.loop-n.invariant.left c.in-Some.ensures.picked c.pick.ensures.narrowed,
    )

pub loop-n-preserved : goal.loop-n-preserved
loop-n-preserved c =
    let s : List ℕ = drop c.args.at c.args.text.now in
    record {
      left = left_less c.args.form.now s c.args.next.now c.args.at c.loop-n.span c.pick.new.span
          c.args.is_lazy c.in-Some.n c.loop-n.invariant.left c.in-Some.ensures.picked c.pick.ensures.narrowed
          (empty c.args.next.now (c.args.at + c.in-Some.n) (search rules));
      end = omega (arith, c.pick.ensures.end, c.loop-n.invariant.end);
      looked = omega (arith, c.pick.ensures.looked, c.loop-n.invariant.looked);
      steady = omega (arith, c.pick.ensures.steady, c.loop-n.invariant.steady);
    }

pub returns-clause-best : goal.returns-clause-best
returns-clause-best c = λ m f. c.in_default.ensures.picked m (c.loop-n.invariant.left.fits m f)
