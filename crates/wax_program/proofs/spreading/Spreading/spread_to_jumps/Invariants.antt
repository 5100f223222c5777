use Rattle.std.proofs.Common.{◌≡◌, ◌+◌, ◌*◌, ◌≤◌, ℕ, Some}
use Rattle.std.specs.Option.{option_copied}
use Rattle.wax_program.specs.{declared.onward.Ahead.Ahead, inner.Jumps.{IsJump, IsUpTo}}
use Rattle.wax_program.specs.{inner.Leads.{Holds, flag_count}, inner.Spreads.Spreads}
use Rattle.wax_program.proofs.Jumping.{link_rank}
use Rattle.wax_program.proofs.spreading.Spreading.spread_to_jumps.Given as goal

abbrev pub invariant-loop-next : goal.invariant-loop-next
invariant-loop-next l =
    let code = l.basis.program.now.0 in
    let o = option_copied l.basis.earlier in
    record {
      few : flag_count l.self.onward ≤ 3 * (l.self.onward.size + 1);
      spreads : Spreads code o l.fn.self.onward l.fn.self.due.items l.self.onward l.self.due.items;
      jump : (j : ℕ) → l.next ≡ Some j → IsJump code j l.at;
      reached : (m : Ahead) (j : ℕ) → IsJump code j l.at → (IsUpTo j l.next → ⊥)
          → Holds l.fn.self.onward m l.at → Holds l.self.onward m j;
      above : l.meter + flag_count l.fn.self.onward ≤ l.fn.meter + flag_count l.self.onward;
      steady : l.fn.meter ≤ l.meter;
    }

abbrev pub decreases-loop-next : goal.decreases-loop-next
decreases-loop-next l = link_rank l.next
