use Rattle.std.proofs.Common.{chars, length}
use Rattle.wax_exclude.proofs.{DecidingLine.deciding_by, ListLengths.list_within}
use Rattle.wax_exclude.specs.Length.{list_length}
use Rattle.wax_exclude.proofs.deciding.deciding_line.Goals as goal

pub returns-clause-line : goal.returns-clause-line
returns-clause-line c =
    deciding_by c.args.lines.now c.in_ok-program.program.0 (chars c.args.path.now) c.in_ok-found.found
    c.in_ok-program.ensures.matches.means c.in_ok-found.ensures.last

pub returns-in_err-found-clause-above : goal.returns-in_err-found-clause-above
returns-in_err-found-clause-above c =
    list_within c.in_ok-program.program.0 (list_length c.args.lines.now) c.in_ok-program.ensures.length
    (length (chars c.args.path.now)) c.args.meter.now c.last_number_metered.new.meter
    c.last_number_metered.ensures.above

pub returns-clause-above : goal.returns-clause-above
returns-clause-above c =
    list_within c.in_ok-program.program.0 (list_length c.args.lines.now) c.in_ok-program.ensures.length
    (length (chars c.args.path.now)) c.args.meter.now c.last_number_metered.new.meter
    c.last_number_metered.ensures.above
