use Rattle.std.proofs.{Common.{rules, subst, sym}, lemmas.List.Sorted.IsNonDecreasingBy-from_sort_by_key}
use Rattle.std.specs.List.Sorted.{IsNonDecreasingBy}
use Rattle.wax_program.specs.inner.Ranges.{IsLeastOutside, NumberRange}
use Rattle.wax_program.proofs.Sweeping.{least_left, leaves_least}
use Rattle.wax_program.proofs.ranges.leaves_other.Goals as goal

pub least_outside-requires : goal.least_outside-requires
least_outside-requires c =
    let rises = IsNonDecreasingBy-from_sort_by_key (λ (r : NumberRange). r.0) _
    c.sort_unstable_by_key.ensures.sorted (λ a r q k. search rules) in
    subst (IsNonDecreasingBy (λ (r : NumberRange). r.0)) (sym c.deref.ensures.value) rises

pub returns : goal.returns
returns c =
    let xs = c.args.archetypes.now in
    let n = c.least_outside.result in
    let least = subst (λ l. IsLeastOutside l n) c.deref.ensures.value c.least_outside.ensures in
    let same = c.sort_unstable_by_key.ensures.permutation in (
      (λ h. leaves_least xs _ _ c.in_ok-ranges.ensures same n least (search (rules, h))),
      (λ h. (let le = least_left xs _ _ c.in_ok-ranges.ensures same n least h in search (rules, le))),
    )
