use Rattle.std.proofs.Common.{◌≤◌, ◌+◌, ap, arith, length, length-append, ◌∷◌, [], subst, sum_by}
use Rattle.std.proofs.lemmas.List.{take_all}
use Rattle.wax_match.proofs.{Joining.{left_all, left_more, left_none}, LeftCosts.patterns_fit}
use Rattle.wax_match.specs.{Numbered.numbered_length, inner.LeftCost.left_cost}
use Rattle.wax_match.proofs.encode.ends.all_of.Goals as goal

pub loop-numbered-init : goal.loop-numbered-init
loop-numbered-init c = record {
  len = ap length c.new-lefts.ensures.items;
  fits = omega (arith, ap (sum_by left_cost) c.new-lefts.ensures.items);
  left = left_none c.new-lefts.result.items c.args.patterns.now c.new-lefts.ensures.items;
}

pub loop-numbered-preserved : goal.loop-numbered-preserved
loop-numbered-preserved c = record {
  len = omega (
    arith,
    c.loop-numbered.invariant.len,
    ap length c.in_ok-push.ensures.items,
    length-append c.loop-numbered.lefts.items (c.new.result ∷ []),
  );
  fits = patterns_fit c.loop-numbered.lefts.items c.push.new.self.items c.args.patterns.now
      c.loop-numbered.numbered-index c.numbered-item.result c.new.result c.concatenation-tokens.result.now
      c.loop-numbered-test.true c.numbered-item.is c.in_ok-push.ensures.items c.concatenation-tokens.ensures
      c.new.ensures.cost c.loop-numbered.invariant.fits;
  left = left_more c.loop-numbered.lefts.items c.push.new.self.items c.args.patterns.now
      c.loop-numbered.numbered-index c.numbered-item.result c.new.result c.concatenation-tokens.result.now
      c.loop-numbered-test.true c.numbered-item.is c.in_ok-push.ensures.items c.new.ensures.number
      c.concatenation-tokens.ensures c.new.ensures.means c.loop-numbered.invariant.left;
}

pub returns-clause-means : goal.returns-clause-means
returns-clause-means c =
    left_all c.loop-numbered.lefts.items c.args.patterns.now c.loop-numbered.numbered-index
    c.loop-numbered-test.false c.loop-numbered.invariant.left

pub returns-clause-cost : goal.returns-clause-cost
returns-clause-cost c =
    subst (λ ps. sum_by left_cost c.loop-numbered.lefts.items + 1 ≤ numbered_length ps)
    (take_all c.loop-numbered.numbered-index c.args.patterns.now c.loop-numbered-test.false)
    c.loop-numbered.invariant.fits
