use Rattle.std.proofs.{Common.{◌-◌, ◌<◌, ◌≤◌, length, rules, arith}, Math.Nat.max-le}
use Rattle.wax_token.specs.Cost.{cost}
use Rattle.wax_capture.proofs.ways.form_of.Goals as goal

pub returns-in-Ok-clause-few : goal.returns-in-Ok-clause-few
returns-in-Ok-clause-few g c =
    let t = c.args.token.now in
    let program = c.in-Ok.program in
    let fewer : length program.0 < program.1 = search rules in
    let read : length program.0 ≤ cost t = omega (arith, fewer, c.in-Ok.ensures.length.0) in
    let rest : program.1 - 1 ≤ cost t = omega (arith, c.in-Ok.ensures.length.0) in
    max-le read rest
