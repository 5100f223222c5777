use Rattle.std.specs.Option.{option_copied}
use Rattle.wax_program.proofs.Marking.{gains_mark}
use Rattle.wax_program.proofs.onward.Onward.mark.Goals as goal

pub returns-clause-gains : goal.returns-clause-gains
returns-clause-gains c =
    let code = c.args.basis.now.program.now.0 in
    let o = option_copied c.args.basis.now.earlier in
    gains_mark code o c.args.self.now c.insert.new.self c.args.m c.args.at c.insert.ensures.marks
    c.args.instruction.now c.requires.is (c.leads.ensures.0 c.if-not-leads.false)
