use Rattle.std.proofs.{Common.{length, refl}, lemmas.Option.slice_get_read}
use Rattle.wax_states.proofs.table.Table.settle.Goals as goal

pub returns-clause-states : goal.returns-clause-states
returns-clause-states c =
    let states = c.args.self.now.states.items in (
      c.index_mut.result.now,
      slice_get_read states (length states) _ c.index_mut.result.now refl c.requires
          c.index_mut.ensures.value,
      refl,
    )
