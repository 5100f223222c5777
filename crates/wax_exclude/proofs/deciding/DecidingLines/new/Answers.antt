use Rattle.std.proofs.Common.{subst, sym}
use Rattle.wax_exclude.specs.Deciding.{SaysLines}
use Rattle.wax_exclude.proofs.deciding.DecidingLines.new.Goals as goal

pub returns-clause-says : goal.returns-clause-says
returns-clause-says c =
    subst (SaysLines c.args.lines.now) (sym c.in_ok-numbered.ensures) c.in_ok-program.ensures.matches.means
