use Rattle.std.proofs.Common.{◌+◌, ◌-◌, ◌*◌, ◌≤◌, ℕ, List, length, length-drop, drop, arith}
use Rattle.std.proofs.Math.Nat.{le-max_left, mul-le-mul_right}
use Rattle.wax_program.specs.declared.instruction.Instruction.{Instruction}
use Rattle.wax_lengths.specs.{Ends.MarksBeginnings, Forms.program_size}
use Rattle.wax_lengths.proofs.FormLengths.{has_within}
use Rattle.wax_lengths.proofs.lengths.lengths_of_program.Goals as goal

-- the program reads no more than its size at each place
few : (p : List Instruction × ℕ) (n : ℕ) → length p.0 * n ≤ program_size p * n
few p n = mul-le-mul_right n (le-max_left (length p.0) (p.1 - 1))

pub returns-clause-found : goal.returns-clause-found
returns-clause-found c =
    let p = c.args.program.now in
    let text : List ℕ = c.args.text.now in
    let at : ℕ = c.args.at in
    let flags = c.run_ends.new.ends.items in
    let marked : MarksBeginnings p.0 (drop at text) flags (length (drop at text) + 1) =
    c.in_ok-run_ends.ensures.marked in
    record {
      lengths = λ n le. let m = marked n (omega (arith, le)) in (
        (λ h. (omega arith, omega (arith, has_within flags n (m.1 h), c.len.ensures), m.1 h)),
        (λ h. m.0 h.2),
      );
      end = omega (arith, c.in_ok-run_ends.ensures.few, c.len.ensures, c.requires, length-drop at text);
      looked = omega (arith, c.run_ends.ensures.above, few p (length text + 1));
      steady = c.run_ends.ensures.steady;
    }

pub returns-in_err-run_ends-clause-above : goal.returns-in_err-run_ends-clause-above
returns-in_err-run_ends-clause-above c =
    omega (arith, c.run_ends.ensures.above, few c.args.program.now (length c.args.text.now + 1))

pub returns-clause-above : goal.returns-clause-above
returns-clause-above c =
    omega (arith, c.run_ends.ensures.above, few c.args.program.now (length c.args.text.now + 1))
