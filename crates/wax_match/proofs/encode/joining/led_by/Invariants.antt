use Rattle.std.proofs.Common.{◌≡◌, ◌+◌, ◌-◌, length}
use Rattle.wax_match.specs.inner.Left.{IsLed}
use Rattle.wax_match.proofs.encode.joining.led_by.Given as goal

abbrev pub invariant-loop-next : goal.invariant-loop-next
invariant-loop-next l = record {
  at : l.next ≡ l.start + length l.led.items;
  led : IsLed l.lead l.lefts l.start l.led.items;
}

abbrev pub decreases-loop-next : goal.decreases-loop-next
decreases-loop-next l = length l.lefts - l.next
