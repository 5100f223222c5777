use Rattle.std.proofs.{Common.{[], sym}, lemmas.List.append-nil}
use Rattle.std.specs.Fn.{FnReturnsAt}
use Rattle.wax_commands.proofs.Adding.{list_asked, pattern_asked}
use Rattle.wax_commands.proofs.building.add_filter.Goals as goal

pub returns-in-Not-clause-ok : goal.returns-in-Not-clause-ok
returns-in-Not-clause-ok g c =
    rw c.in-Not.is (pattern_asked (FnReturnsAt g.B.Fn c.args.read.now) c.in-Not.expression.now _
    c.add_pattern.result c.add_pattern.ensures.ok)

pub returns-in-Ignore-clause-ok : goal.returns-in-Ignore-clause-ok
returns-in-Ignore-clause-ok g c =
    rw c.in-Ignore.is (list_asked (FnReturnsAt g.B.Fn c.args.read.now) c.in-Ignore.file.now _
    c.add_list.result c.add_list.ensures.ok)

pub returns-in-Ignore-clause-err : goal.returns-in-Ignore-clause-err
returns-in-Ignore-clause-err g c = rw c.in-Ignore.is c.add_list.ensures.err

pub returns-in-Min-clause-ok : goal.returns-in-Min-clause-ok
returns-in-Min-clause-ok g c = rw c.in-Min.is ([], [], tt, tt, sym (append-nil _))

pub returns-in-Max-clause-ok : goal.returns-in-Max-clause-ok
returns-in-Max-clause-ok g c = rw c.in-Max.is ([], [], tt, tt, sym (append-nil _))
