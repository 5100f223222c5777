use Rattle.std.proofs.{Common.{length, refl}, lemmas.Option.slice_get_read}
use Rattle.wax_compare.specs.declared.automaton.ProgramState.{ProgramState}
use Rattle.wax_compare.proofs.automaton.learn.Goals as goal

pub returns : goal.returns
returns c =
    let states = c.args.states.now.items in
    let s : ProgramState = record {
      places = c.index_mut.result.now.places;
      is_selected = c.index_mut.result.now.is_selected;
      marked = c.index_mut.result.now.marked;
      next = c.fill_row.new.row;
    } in
    record {
      was = c.index_mut.result.now;
      is = s;
      at = slice_get_read states (length states) c.args.state c.index_mut.result.now refl c.requires
          c.index_mut.ensures.value;
      set = refl;
      places = refl;
      is_selected = refl;
      marked = refl;
      row = c.fill_row.ensures;
    }
