use Rattle.std.proofs.{Common.{length, refl, sym, ◌∙◌, ap}, lemmas.Option.slice_get_read}
use Rattle.wax_states.specs.States.{places_in}
use Rattle.wax_states.proofs.table.Table.places.Goals as goal

pub returns : goal.returns
returns c =
    let states = c.args.self.now.states.items in
    ap places_in (slice_get_read states (length states) _ c.index.result.now refl c.requires c.index.ensures)
    ∙ sym c.deref.ensures.value
