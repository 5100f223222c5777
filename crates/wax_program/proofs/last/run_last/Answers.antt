use Rattle.std.proofs.Common.{◌+◌, length, arith, chars}
use Rattle.wax_program.proofs.{Advancing.fewer_within, LastNames.{counted_name, name_decides, same_answer}}
use Rattle.wax_program.proofs.last.run_last.Goals as goal

pub returns-clause-decides : goal.returns-clause-decides
returns-clause-decides c =
    same_answer c.run_at.result _ _
    (name_decides c.args.program.now.0 (chars c.args.text.now) (chars c.last_name-name.result.now)
    c.requires.last c.last_name-name.ensures.name)
    c.run_at.ensures.decides

pub returns-clause-fewer : goal.returns-clause-fewer
returns-clause-fewer c =
    let cut = c.last_name-name.ensures.cut in
    counted_name (length c.args.program.now.0 + 1) c.args.meter.now c.skip.new.self c.run_at.new.meter
    (length c.args.text.now) (length c.last_name-name.result.now)
    (length (chars c.args.text.now)) (length (chars c.last_name-name.result.now))
    (omega (arith, c.size.ensures.size, c.if-size-le3.false)) cut.bytes cut.most
    (omega (arith, c.skip.ensures.counted)) c.run_at.ensures.above

pub returns-clause-above : goal.returns-clause-above
returns-clause-above c = fewer_within (length c.args.program.now.0) c.args.program.now.1
    (length (chars c.args.text.now)) c.args.meter.now c.run_at.new.meter
    c.size.ensures.few (returns-clause-fewer c)
