use Rattle.std.proofs.Common.{◌≡◌, true, drop}
use Rattle.std.specs.List.{filter_map}
use Rattle.wax_directory.specs.{Names.are_distinct, Nodes.names_of}
use Rattle.wax_directory.specs.PathTails.{first_name, with_new, names_by}
use Rattle.wax_directory.proofs.Planting.{total, AreGrown}
use Rattle.wax_directory.proofs.paths.+grown.Given as goal

abbrev pub decreases-grown : goal.decreases-grown
decreases-grown l = total l.tails.now

abbrev pub invariant-loop-tail : goal.invariant-loop-tail
invariant-loop-tail l = record {
  names : with_new (names_of l.items.items) (filter_map first_name (drop l.tail-index l.tails)) ≡ names_by
      l.tails;
  distinct : are_distinct (names_of l.items.items) ≡ true;
  grown : AreGrown l.tails l.items.items;
}
