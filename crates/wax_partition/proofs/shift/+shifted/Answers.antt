use Rattle.std.proofs.Common.{◌≡◌, ◌∙◌, [], ap, map, reverse, rules, arith}
use Rattle.wax_token.specs.{Syntax.trees_size, Words.trees}
use Rattle.wax_rule.specs.Shifted.{shifted_tree}
use Rattle.wax_partition.proofs.ShiftSteps.{each_shifted, popped_smaller, shifted_step}
use Rattle.wax_partition.proofs.shift.+shifted.Goals as goal

pub shifted_each-loop-token-preserved : goal.shifted_each-loop-token-preserved
shifted_each-loop-token-preserved t c = record {
  fewer = (popped_smaller c.loop-token.tokens.items c.pop.new.self.items c.in-Some.token
      (trees_size (trees c.args.tokens.items)) c.in-Some.ensures.items c.loop-token.invariant.fewer).1;
  done = shifted_step (shifted_tree c.args.bytes) c.loop-token.tokens.items c.pop.new.self.items
      c.in-Some.token c.loop-token.done.items c.push.new.self.items c.in_ok-shifted.field-0
      (map (shifted_tree c.args.bytes) c.args.tokens.items) c.in-Some.ensures.items
      (search rules) c.in_ok-shifted.ensures c.loop-token.invariant.done;
}

pub shifted_each-returns : goal.shifted_each-returns
shifted_each-returns t c =
    let n : c.loop-token.tokens.items ≡ [] = search rules in
    let d : reverse c.loop-token.done.items ≡ map (shifted_tree c.args.bytes) c.args.tokens.items =
    rw n at c.loop-token.invariant.done in
    ap trees (c.reverse.ensures.items ∙ d) ∙ each_shifted c.args.bytes c.args.tokens.items

pub shifted_each-shifted-requires : goal.shifted_each-shifted-requires
shifted_each-shifted-requires t c =
    let k = (popped_smaller c.loop-token.tokens.items c.pop.new.self.items c.in-Some.token
    (trees_size (trees c.args.tokens.items)) c.in-Some.ensures.items c.loop-token.invariant.fewer).0 in
    (omega (arith, k, c.decreases), tt)
