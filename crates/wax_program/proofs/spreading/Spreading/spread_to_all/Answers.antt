use Rattle.std.proofs.Common.{◌≡◌, ◌+◌, ◌-◌, Contains, arith, subst, sym}
use Rattle.std.specs.Option.{option_copied}
use Rattle.wax_program.specs.inner.Spreads.{AreSpreadFrom}
use Rattle.wax_program.proofs.Settling.{spread_before, spreads_both}
use Rattle.wax_program.proofs.spreading.Spreading.spread_to_all.Goals as goal

pub loop-at-preserved : goal.loop-at-preserved
loop-at-preserved c =
    let code = c.args.basis.now.program.now.0 in
    let o = option_copied c.args.basis.now.earlier in
    let held = c.loop-at.invariant in
    let old = c.loop-at.self in
    let new = c.spread_to.new.self in
    let one = c.in_ok-spread_to.ensures.spreads in
    let at = c.loop-at.at - 1 in
    let after : at + 1 ≡ c.loop-at.at = omega (arith, c.loop-at-test.true) in
    record {
      within = omega (arith, held.within);
      few = c.spread_to.ensures.few;
      spreads = spreads_both code o c.args.self.now.onward c.args.self.now.due.items old.onward old.due.items
          new.onward new.due.items held.spreads one;
      spread = spread_before code o at old.onward new.onward old.due.items new.due.items
          (subst (λ n. AreSpreadFrom code o n old.onward (Contains old.due.items)) (sym after) held.spread)
          one
          c.spread_to.ensures.reached;
      above = omega (arith, held.above, c.spread_to.ensures.above, after);
      steady = omega (arith, held.steady, c.spread_to.ensures.steady);
    }
