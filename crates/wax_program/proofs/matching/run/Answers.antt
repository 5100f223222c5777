use Rattle.std.proofs.Common.{length, chars}
use Rattle.wax_program.proofs.Advancing.{fewer_within}
use Rattle.wax_program.proofs.matching.run.Goals as goal

pub returns-clause-above : goal.returns-clause-above
returns-clause-above c = fewer_within (length c.args.program.now.0) c.args.program.now.1
    (length (chars c.args.text.now)) c.args.meter.now c.run_at.new.meter
    c.run_at.ensures.few c.run_at.ensures.above
