use Rattle.wax_states.specs.States.{places_at}
use Rattle.wax_lazy.proofs.Tables.{wide_says}
use Rattle.wax_lazy.proofs.cache.Cache.cached_next.Goals as goal

pub returns : goal.returns
returns c = λ code held.
    let table = c.args.self.now.table in
    let says = wide_says code table.states.items table.wide_cells.items c.args.state c.args.c
    c.wide_cell.result held.wide c.wide_cell.ensures in
    c.next_of.ensures code table.states.items (places_at table.states.items c.args.state) c.args.c says
