use Rattle.std.proofs.Common.{chars}
use Rattle.wax_lazy.proofs.Costs.{name_shorter}
use Rattle.wax_lazy.proofs.dfa.followed.Goals as goal

pub returns-then-reads_last-clause-shorter : goal.returns-then-reads_last-clause-shorter
returns-then-reads_last-clause-shorter c =
    name_shorter (chars c.args.text.now) (chars c.last_name.result.now) c.last_name.ensures.name
