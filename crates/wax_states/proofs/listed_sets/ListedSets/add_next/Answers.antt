use Rattle.std.proofs.Common.{inl, inr, arith}
use Rattle.wax_states.proofs.listed_sets.ListedSets.add_next.Goals as goal

pub returns-clause-added : goal.returns-clause-added
returns-clause-added c =
    let held = c.loop-place.invariant in
    let end = c.loop-place.auto.place-index-end in
    record {
      only = λ k h. elim (held.only k h) [
        | inl was ↦ inl was
        | inr found ↦ inr (found.0, omega (arith, found.1, end), found.2)
      ];
      keeps = held.keeps;
      all = λ k h small. held.all h.0 k (omega (arith, h.1, c.loop-place-test.false)) h.2 small;
    }
