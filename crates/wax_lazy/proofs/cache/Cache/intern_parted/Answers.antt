use Rattle.std.proofs.{Common.{◌∙◌, ℕ, ap, refl, sym, subst}, lemmas.Result.IfOk-weaker}
use Rattle.wax_lazy.specs.inner.Table.{IsJoinOf}
use Rattle.wax_states.specs.States.{places_at}
use Rattle.wax_lazy.proofs.{Caches.interned_after, Tables.union_of_parts}
use Rattle.wax_program.specs.Threads.{AreParts}
use Rattle.wax_lazy.proofs.cache.Cache.intern_parted.Goals as goal

pub intern-requires-2-clause-failure : goal.intern-requires-2-clause-failure
intern-requires-2-clause-failure c =
    let code = c.args.program.now.0 in
    let states = c.intern-loops.new.self.table.states.items in
    let loops : ℕ = c.in_ok-failure.failure in
    let made = c.in_ok-failure.ensures.interned in
    let lists = c.intern-loops.ensures.lists in
    let here = made.places_are ∙ ap (λ z. z.items) c.swap.ensures.x_after in
    let all = ap (λ z. z.items) (c.swap-2.ensures.x_after ∙ lists.loops ∙ c.swap.ensures.y_after) in
    let others = ap (λ z. z.items) lists.others in
    let parts = subst (λ z. AreParts z c.part_loops.new.loops.items c.part_loops.new.others.items)
    c.deref.ensures.value c.in_ok-part_loops.ensures.parts in
    let union = union_of_parts code _ _ _ parts in
    record {
      has_state = made.known;
      union =
          subst (λ z. IsJoinOf code z (places_at states loops) c.intern-loops.new.self.others.items) (sym all)
          (subst (λ z. IsJoinOf code c.args.self.now.reached.items z c.intern-loops.new.self.others.items)
          (sym here)
          (subst (λ z. IsJoinOf code c.args.self.now.reached.items c.part_loops.new.loops.items z)
          (sym others) union));
    }

pub returns-clause-interned : goal.returns-clause-interned
returns-clause-interned c =
    let lists = c.intern-loops.ensures.lists in
    let all = ap (λ z. z.items) (c.swap-2.ensures.x_after ∙ lists.loops ∙ c.swap.ensures.y_after) in
    let first = c.in_ok-failure.ensures.interned.grows in
    IfOk-weaker c.intern-2.result _ _
    (λ t made. interned_after c.args.self.now _ c.intern-loops.new.self _ c.intern-2.new.self
    c.args.self.now.reached.items t first refl refl made all)
    c.intern-2.ensures.interned
