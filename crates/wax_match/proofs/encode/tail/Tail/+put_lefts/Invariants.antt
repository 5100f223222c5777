use Rattle.std.proofs.Common.{◌≤◌, ◌-◌, ◌+◌, ◌*◌, All, length}
use Rattle.wax_match.proofs.{Joining.IsBegun, LeftCosts.BegunFits}
use Rattle.wax_match.specs.inner.Ends.{IsIn}
use Rattle.wax_match.proofs.encode.tail.Tail.+put_lefts.Given as goal

abbrev pub decreases-put_first : goal.decreases-put_first
decreases-put_first l = 2 * l.most

abbrev pub decreases-put_lefts : goal.decreases-put_lefts
decreases-put_lefts l = 2 * l.most + 1

abbrev pub invariant-put_lefts-loop-start : goal.invariant-put_lefts-loop-start
invariant-put_lefts-loop-start l = record {
  within : l.start ≤ length l.lefts;
  begun : IsBegun l.lefts l.fn.self l.self l.start;
  fits : BegunFits l.lefts l.fn.self l.self l.start;
  kept : All (IsIn l.self) l.ends;
}

abbrev pub decreases-put_lefts-loop-start : goal.decreases-put_lefts-loop-start
decreases-put_lefts-loop-start l = length l.lefts - l.start
