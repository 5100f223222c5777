use Rattle.std.proofs.Common.{◌↔◌, [], IsTrue, sym, ◌∙◌, ap, subst}
use Rattle.wax_lazy.specs.inner.Table.{own_in}
use Rattle.wax_program.specs.Threads.{AnyAmong}
use Rattle.wax_lazy.proofs.cache.Cache.own_accept.Goals as goal

pub returns-clause-accepts : goal.returns-clause-accepts
returns-clause-accepts c =
    let own = ap own_in c.state.ensures ∙ sym c.deref.ensures.value in
    subst (λ z. IsTrue c.accepts-accepts.result ↔ AnyAmong c.args.program.now.0 z [])
    (sym own) c.accepts-accepts.ensures.accepts
