use Rattle.std.proofs.Common.{◌≡◌, ◌<◌, ◌≤◌, ◌+◌, ◌-◌, ◌*◌, ℕ, Contains, length}
use Rattle.std.specs.Option.{option_copied}
use Rattle.wax_program.specs.declared.onward.Ahead.TheVariants.{Rest}
use Rattle.wax_program.specs.{inner.Leads.{AreSoundAfter, Holds, flag_count}, inner.Spreads.AreSpread}
use Rattle.wax_program.proofs.onward.Onward.find.Given as goal

abbrev pub invariant-loop-at : goal.invariant-loop-at
invariant-loop-at l =
    let code = l.basis.program.now.0 in
    let o = option_copied l.basis.earlier in
    let onward = l.spreading.onward in
    let due = l.spreading.due.items in
    record {
      size : onward.size ≡ length code;
      few : flag_count onward ≤ 3 * (onward.size + 1);
      sound : AreSoundAfter code o onward;
      end : Holds onward Rest (length code);
      spread : AreSpread code o onward (Contains due);
      below : (k : ℕ) → Contains due k → k < length code;
      above : l.meter + 2 * length due ≤ l.fn.meter + 2 * length code + 3 * flag_count onward;
      steady : l.fn.meter ≤ l.meter;
    }

abbrev pub decreases-loop-at : goal.decreases-loop-at
decreases-loop-at l =
    let onward = l.spreading.onward in
    length l.spreading.due.items + 3 * (onward.size + 1) - flag_count onward
