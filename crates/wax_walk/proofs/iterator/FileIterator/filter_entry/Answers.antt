use Rattle.wax_walk.proofs.Seen.{seen_itself}
use Rattle.wax_walk.proofs.iterator.FileIterator.filter_entry.Goals as goal

pub returns-clause-view : goal.returns-clause-view
returns-clause-view g c = rw c.new.ensures (seen_itself _)
