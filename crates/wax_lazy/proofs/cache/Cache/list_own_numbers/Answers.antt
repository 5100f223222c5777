use Rattle.std.proofs.Common.{arith, refl, subst, sym, ◌∙◌}
use Rattle.wax_lazy.proofs.{Joining.{joined_more, joined_none}, Tables.failure_at}
use Rattle.wax_lazy.specs.inner.Table.{AreJoined, own_at}
use Rattle.wax_states.specs.States.{HasState}
use Rattle.wax_lazy.proofs.cache.Cache.list_own_numbers.Goals as goal

pub loop-part-init : goal.loop-part-init
loop-part-init c =
    let states = c.args.self.now.table.states.items in
    record {
      cache = c.requires.here.cache;
      start = refl;
      table = refl;
      above = omega (arith, c.saturating_add-most.ensures, c.ticks.ensures, c.ticks.type_inv);
      steady = omega arith;
      has_state = c.requires.here.has_state;
      joined = joined_none c.args.program.now.0 states c.args.state c.args.own.now.items c.requires.none;
    }

pub loop-part-preserved : goal.loop-part-preserved
loop-part-preserved c =
    let l = c.loop-part in
    let held = l.invariant in
    let code = c.args.program.now.0 in
    let was = c.args.self.now.table.states.items in
    let failure = c.in-Some.failure in
    let states = l.self.table.states.items in
    let parted = failure_at code states l.self.table.cells.items l.rest
    c.state-kept.result.now failure held.cache.table c.state-kept.ensures c.in-Some.is in
    let same = held.table in
    let joined = subst (λ z. AreJoined code z.states.items c.args.state l.own.items l.rest) (sym same)
    held.joined in
    let own = c.add_own_numbers.new.own.items in
    record {
      cache = c.add_own_numbers.ensures.kept.cache;
      start = c.add_own_numbers.ensures.kept.start ∙ held.start;
      table = c.add_own_numbers.ensures.table ∙ same;
      above = omega
          (arith, c.if-ticks-most.false, c.ticks-else-is_some.ensures, c.add_own_numbers.ensures.above);
      steady = omega (arith, held.steady, c.add_own_numbers.ensures.steady);
      has_state = subst (λ z. HasState z.states.items failure) same parted.has_state;
      joined = subst (λ z. AreJoined code z.states.items c.args.state own failure) same
          (joined_more code states c.args.state l.own.items own
          (own_at states l.rest) l.rest failure joined parted c.in_ok-add_own_numbers.ensures.added);
    }
