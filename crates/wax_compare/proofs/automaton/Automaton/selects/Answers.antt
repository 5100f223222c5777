use Rattle.std.proofs.{Common.{[], IsTrue, ◌↔◌, length, refl, sym, ap, subst}, lemmas.Option.slice_get_read}
use Rattle.wax_program.specs.Threads.{AnyAmong}
use Rattle.wax_compare.specs.{Selected.IsSelected, inner.Automata.option_places}
use Rattle.wax_compare.proofs.automaton.Automaton.selects.Goals as goal

pub returns : goal.returns
returns c =
    let states = c.args.self.now.states.items in
    let s = c.index.result.now in
    let here = slice_get_read states (length states) c.args.state s refl c.requires.state c.index.ensures in
    subst (λ z. IsTrue s.is_selected
    ↔ IsSelected c.args.self.now.criterion (AnyAmong c.args._program.now.0 z) []) (sym
    (ap option_places here))
    (c.requires.automaton.rows c.args.state s here).ends
