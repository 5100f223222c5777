use Rattle.wax_query.proofs.Ends.{open_some}
use Rattle.wax_directory.proofs.path.is_open.Goals as goal

pub returns-in-Some : goal.returns-in-Some
returns-in-Some c = open_some c.args.path.now c.in-Some.last.now
    (rw c.as_bytes.ensures.value at c.in-Some.ensures.value)
