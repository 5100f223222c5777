use Rattle.std.proofs.Common.{◌≡◌, ◌∙◌, ◌%◌, arith}
use Rattle.wax_components.proofs.Saturation.{power_even, power_odd}
use Rattle.wax_components.proofs.profile.Profile.+power.Goals as goal

pub returns-then-copies-eq0-2 : goal.returns-then-copies-eq0-2
returns-then-copies-eq0-2 t c =
    c.then-even.ensures ∙ power_even c.args.copies c.args.self c.power-half.result
    (omega (arith, c.if-copies-eq0.false)) c.if-copies-eq0-2.true c.power-half.ensures

pub returns-else-copies-eq0-2 : goal.returns-else-copies-eq0-2
returns-else-copies-eq0-2 t c =
    let odd : c.args.copies % 2 ≡ 1 = omega (arith, c.if-copies-eq0-2.false) in
    c.then.ensures ∙ power_odd c.args.copies c.args.self c.power-half.result c.then-even.result
    (omega (arith, c.if-copies-eq0.false)) odd c.power-half.ensures c.then-even.ensures
