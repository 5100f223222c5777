use Rattle.std.proofs.Common.{arith, true≢false, sym, ◌∙◌}
use Rattle.std.specs.Option.{option_copied}
use Rattle.wax_program.proofs.Settling.{has_more}
use Rattle.wax_program.proofs.spreading.Spreading.spread_to_jump.Goals as goal

pub returns-clause-above : goal.returns-clause-above
returns-clause-above c =
    let more = has_more c.args.basis.now.program.now.0 (option_copied c.args.basis.now.earlier)
    c.args.self.now.onward c.spread_to.new.self.onward c.args.jump c.args.at c.requires.jump
    c.spread_to.ensures.reached
    (λ each. true≢false (sym (c.has_flags_of.ensures.1 each) ∙ c.if-has_flags_of.false))
    c.spread_to.ensures.fresh in
    omega (arith, more, c.spread_to.ensures.above)
