use Rattle.std.specs.Option.{option_copied}
use Rattle.wax_program.proofs.{Marking.gains_both, Settling.reached_thrice}
use Rattle.wax_program.proofs.onward.Onward.settle.Goals as goal

pub returns-then-path-clause-gains : goal.returns-then-path-clause-gains
returns-then-path-clause-gains c =
    let code = c.args.basis.now.program.now.0 in
    let o = option_copied c.args.basis.now.earlier in
    gains_both code o _ _ _ (gains_both code o _ _ _ c.mark-rest.ensures.gains c.mark-path.ensures.gains)
    c.mark-below.ensures.gains

pub returns-then-path-clause-reached : goal.returns-then-path-clause-reached
returns-then-path-clause-reached c =
    reached_thrice c.args.basis.now.program.now.0 (option_copied c.args.basis.now.earlier) c.args.at
    c.read-instruction.result.now c.args.self.now c.mark-rest.new.self c.mark-path.new.self
    c.mark-below.new.self c.read-instruction.ensures.instruction c.mark-rest.ensures.gains
    c.mark-path.ensures.gains c.mark-below.ensures.gains c.mark-rest.ensures.reached
    c.mark-path.ensures.reached c.mark-below.ensures.reached
