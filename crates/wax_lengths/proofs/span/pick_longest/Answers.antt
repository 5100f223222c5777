use Rattle.std.proofs.Common.{drop, arith}
use Rattle.wax_lengths.proofs.Picking.{left_none, left_whole}
use Rattle.wax_lengths.proofs.span.pick_longest.Goals as goal

pub loop-span-init : goal.loop-span-init
loop-span-init c = record {
  left = left_whole c.args.span.now (drop c.args.at c.args.text.now);
  end = omega arith;
  fewer = omega arith;
  looked = omega arith;
  steady = omega arith;
}

pub returns-clause-picked : goal.returns-clause-picked
returns-clause-picked c = left_none c.args.span.now c.loop-span.span (drop c.args.at c.args.text.now)
    c.loop-span-test.false c.loop-span.invariant.left

pub returns-clause-narrowed : goal.returns-clause-narrowed
returns-clause-narrowed c = c.loop-span.invariant.left.from
