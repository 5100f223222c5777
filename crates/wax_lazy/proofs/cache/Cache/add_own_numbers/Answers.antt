use Rattle.std.proofs.Common.{◌∙◌, ◌++◌, ap, subst, sym}
use Rattle.wax_lazy.proofs.Joining.{AreAdded, added_numbers}
use Rattle.wax_lazy.specs.inner.Table.{own_in}
use Rattle.wax_lazy.proofs.cache.Cache.add_own_numbers.Goals as goal

pub returns-clause-added : goal.returns-clause-added
returns-clause-added c =
    let code = c.args.program.now.0 in
    let own = ap own_in c.state.ensures ∙ sym c.deref.ensures.value in
    let is = c.in_ok-extend_from_slice.ensures.items
    ∙ ap (λ z. c.args.own.now.items ++ z) c.deref-2.ensures.value in
    subst (λ z. AreAdded code z c.args.own.now.items c.extend_from_slice.new.self.items) (sym own)
    (added_numbers code c.deref.result.now c.args.own.now.items c.list_ends.new.numbers.items
    c.extend_from_slice.new.self.items c.in_ok-list_ends.ensures.ends is)
