use Rattle.std.specs.Fn.{FnReturnsAt}
use Rattle.wax_commands.proofs.Adding.{list_added}
use Rattle.wax_commands.proofs.building.add_list.Goals as goal

pub returns-clause-ok : goal.returns-clause-ok
returns-clause-ok g c =
    list_added _ _ _ c.ignore.result c.in_ok-push.ensures.items (FnReturnsAt g.B.Fn c.args.read.now)
    c.args.file.now c.in_ok-list.list c.in_ok-list.ensures.ok c.ignore.ensures
