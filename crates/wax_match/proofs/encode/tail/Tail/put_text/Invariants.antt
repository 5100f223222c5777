use Rattle.std.proofs.Common.{◌≡◌, ◌≤◌, ◌++◌, drop, length}
use Rattle.wax_match.specs.inner.Code.{literal_code}
use Rattle.wax_match.proofs.encode.tail.Tail.put_text.Given as goal

abbrev pub invariant-loop-index : goal.invariant-loop-index
invariant-loop-index l = record {
  within : l.index ≤ length l.characters.items;
  written : l.self ≡ literal_code l.is_case_insensitive (drop l.index l.characters.items) ++ l.fn.self;
}

abbrev pub decreases-loop-index : goal.decreases-loop-index
decreases-loop-index l = l.index
