use Rattle.std.proofs.Common.{◌≡◌, length}
use Rattle.wax_directory.proofs.Listing.{Taken}
use Rattle.wax_directory.proofs.directory.Directory.list.Given as goal

abbrev pub invariant-loop : goal.invariant-loop
invariant-loop g l = record {
  taken : Taken g.Self.Directory.law l.fn.path l.fn.self l.self l.cursor l.items.items;
  turns : length l.items.items ≡ l.counter;
}
