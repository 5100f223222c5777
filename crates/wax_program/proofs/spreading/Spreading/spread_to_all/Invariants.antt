use Rattle.std.proofs.Common.{◌+◌, ◌*◌, ◌≤◌, Contains, length}
use Rattle.std.specs.Option.{option_copied}
use Rattle.wax_program.specs.{inner.Leads.flag_count, inner.Spreads.{AreSpreadFrom, Spreads}}
use Rattle.wax_program.proofs.spreading.Spreading.spread_to_all.Given as goal

abbrev pub invariant-loop-at : goal.invariant-loop-at
invariant-loop-at l =
    let code = l.basis.program.now.0 in
    let o = option_copied l.basis.earlier in
    record {
      within : l.at ≤ length code;
      few : flag_count l.self.onward ≤ 3 * (l.self.onward.size + 1);
      spreads : Spreads code o l.fn.self.onward l.fn.self.due.items l.self.onward l.self.due.items;
      spread : AreSpreadFrom code o l.at l.self.onward (Contains l.self.due.items);
      above : l.meter + l.at ≤ l.fn.meter + length code;
      steady : l.fn.meter ≤ l.meter;
    }

abbrev pub decreases-loop-at : goal.decreases-loop-at
decreases-loop-at l = l.at
