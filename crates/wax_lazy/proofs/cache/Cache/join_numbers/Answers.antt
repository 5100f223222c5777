use Rattle.std.proofs.Common.{◌∙◌, ap, subst, sym}
use Rattle.std.specs.List.Sorted.{IsStrictlyIncreasing}
use Rattle.wax_lazy.proofs.Joining.{AreEither, joined_numbers, sorted_ascends, sorted_same}
use Rattle.wax_lazy.specs.inner.Table.{AreNumbersOf, numbers_in}
use Rattle.wax_states.specs.States.{places_at}
use Rattle.wax_lazy.proofs.cache.Cache.join_numbers.Goals as goal

pub merge-requires-clause-one : goal.merge-requires-clause-one
merge-requires-clause-one c =
    subst IsStrictlyIncreasing (sym c.deref.ensures.value)
    (sorted_ascends c.sort_unstable.new.self.items c.dedup.new.self.items c.sort_unstable.ensures.sorted
    c.dedup.ensures.filtered)

pub keep_numbers-requires-clause-listed : goal.keep_numbers-requires-clause-listed
keep_numbers-requires-clause-listed c =
    let code = c.args.program.now.0 in
    let states = c.args.self.now.table.states.items in
    let left = c.dedup.new.self.items in
    let others = c.numbers_of-others.result.now in
    let known = subst (AreNumbersOf code (places_at states c.args.rest))
    (ap numbers_in c.state.ensures ∙ c.numbers_of-others.ensures) c.requires.known in
    let all = subst (λ z. AreEither z others c.merge.new.merged.items) c.deref.ensures.value
    c.in_ok-merge.ensures.all in
    joined_numbers code states c.args.state c.args.own.items left others c.merge.new.merged.items c.args.rest
    c.requires.joined
    (sorted_same c.args.own.items c.sort_unstable.new.self.items left c.sort_unstable.ensures.permutation
    c.dedup.ensures.filtered)
    known all c.in_ok-merge.ensures.ascending
