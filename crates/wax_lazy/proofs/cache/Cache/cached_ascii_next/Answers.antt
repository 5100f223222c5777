use Rattle.std.proofs.Common.{sym, subst}
use Rattle.wax_states.specs.States.{IsTransition, places_at}
use Rattle.wax_lazy.proofs.Tables.{cell_inside}
use Rattle.wax_lazy.proofs.cache.Cache.cached_ascii_next.Goals as goal

pub ascii_cell-requires : goal.ascii_cell-requires
ascii_cell-requires c =
    cell_inside c.args.self.now.table.states.items c.args.self.now.table.cells.items c.args.state c.args.c
    c.requires.room c.requires.has_state c.requires.ascii

pub returns : goal.returns
returns c = λ code held.
    let states = c.args.self.now.table.states.items in
    let places = places_at states c.args.state in
    let says = held.table.says c.args.state c.args.c c.requires.has_state c.requires.ascii in
    c.next_of.ensures code states places c.args.c
    (subst (IsTransition code states places c.args.c) (sym c.ascii_cell.ensures) says)
