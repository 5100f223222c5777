use Rattle.std.proofs.Common.{◌≡◌, ◌∙◌, ap, sym, subst, length, arith}
use Rattle.wax_lazy.specs.inner.Table.{IsJoinOf, own_in}
use Rattle.wax_states.specs.States.{places_at}
use Rattle.wax_lazy.proofs.Tables.{only_item, failure_at}
use Rattle.wax_lazy.proofs.cache.Cache.chain.Goals as goal

pub returns-in-len1-clause-chain : goal.returns-in-len1-clause-chain
returns-in-len1-clause-chain c =
    let code = c.args.program.now.0 in
    let states = c.args.self.now.table.states.items in
    let held = failure_at code states c.args.self.now.table.cells.items c.args.state c.state-kept.result.now
    c.in-Some.failure c.requires.here.cache.table c.state-kept.ensures c.in-Some.is in
    let one : length c.as_slice.result.now ≡ 1 = omega (arith, c.in-len1.len_at_least, c.in-len1.len_below) in
    let own = ap own_in c.state-kept.ensures ∙ sym c.as_slice.ensures.value
    ∙ only_item c.as_slice.result.now one in
    record {
      has_state = held.has_state;
      union = subst
          (IsJoinOf code (places_at states c.args.state) (places_at states c.in-Some.failure)) own held.union;
    }
