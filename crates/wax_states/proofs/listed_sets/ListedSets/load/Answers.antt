use Rattle.std.proofs.Common.{arith}
use Rattle.wax_states.proofs.listed_sets.ListedSets.load.Goals as goal

pub returns-clause-loaded : goal.returns-clause-loaded
returns-clause-loaded c =
    let held = c.loop-place.invariant in
    let end = c.loop-place.auto.place-index-end in
    record {
      only = λ k h. (let found = held.only k h in (found.0, omega (arith, found.1, end), found.2));
      all = λ k h small. held.all h.0 k (omega (arith, h.1, c.loop-place-test.false)) h.2 small;
    }
