use Rattle.std.proofs.Common.{◌≡◌, ◌++◌, ◌∷◌, ◌∙◌, [], ap, arith, length, length-append}
use Rattle.wax_match.proofs.Joining.{led_begins, led_more}
use Rattle.wax_match.proofs.encode.joining.led_by.Goals as goal

pub loop-next-init : goal.loop-next-init
loop-next-init c =
    let e : c.push.new.self.items ≡ [] ++ c.args.after ∷ [] =
    c.in_ok-push.ensures.items ∙ ap (λ z. z ++ c.args.after ∷ []) c.new-led.ensures.items in
    record {
      at = omega (arith, ap length e);
      led = led_begins c.args.lead c.args.lefts.now c.args.start c.args.after c.push.new.self.items
          c.requires.start c.requires.after e;
    }

pub loop-next-preserved : goal.loop-next-preserved
loop-next-preserved c =
    let e = c.in_ok-push-2.ensures.items in
    record {
      at = omega (
        arith,
        c.loop-next.invariant.at,
        ap length e,
        length-append c.loop-next.led.items (c.in-Some.after ∷ []),
      );
      led = led_more c.args.lead c.args.lefts.now c.args.start c.loop-next.led.items
          c.push-in-loop-next.new.self.items c.loop-next.next c.index-lefts-next.result c.in-Some.after
          c.loop-next.invariant.led c.loop-next.invariant.at c.loop-next-test.true
          c.index-lefts-next.is c.in-Some.ensures e;
    }
