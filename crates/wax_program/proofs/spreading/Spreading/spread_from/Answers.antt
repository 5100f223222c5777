use Rattle.std.specs.Option.{option_copied}
use Rattle.wax_program.proofs.Settling.{spread_on, spreads_thrice}
use Rattle.wax_program.proofs.spreading.Spreading.spread_from.Goals as goal

pub returns-clause-spreads : goal.returns-clause-spreads
returns-clause-spreads c =
    let code = c.args.basis.now.program.now.0 in
    let o = option_copied c.args.basis.now.earlier in
    spreads_thrice code o c.args.at _ _ _ _ _ _ _ _
    c.in_ok-spread_to.ensures.spreads c.spread_to.ensures.reached c.in_ok-spread_to_previous.ensures.spreads
    c.spread_to_previous.ensures.reached c.in_ok-spread_to_jumps.ensures.spreads
    (λ m jump leads h. c.in_ok-spread_to_jumps.ensures.reached m jump leads h)

pub returns-clause-spread : goal.returns-clause-spread
returns-clause-spread c =
    let code = c.args.basis.now.program.now.0 in
    let o = option_copied c.args.basis.now.earlier in
    spread_on code o c.args.at _ _ _ _ _ _ _ _
    c.in_ok-spread_to.ensures.spreads c.spread_to.ensures.reached c.in_ok-spread_to_previous.ensures.spreads
    c.spread_to_previous.ensures.reached c.in_ok-spread_to_jumps.ensures.spreads
    (λ m jump leads h. c.in_ok-spread_to_jumps.ensures.reached m jump leads h) c.requires.spread
