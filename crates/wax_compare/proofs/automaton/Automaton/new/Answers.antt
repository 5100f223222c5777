use Rattle.std.proofs.Common.{ap, length, subst, sym, ◌∙◌}
use Rattle.wax_compare.specs.Limit.{IsReachedState}
use Rattle.wax_compare.proofs.Automata.{begins_at, state_of_beginning}
use Rattle.wax_compare.proofs.automaton.Automaton.new.Goals as goal

pub intern-requires-clause-state : goal.intern-requires-clause-state
intern-requires-clause-state c = subst (IsReachedState c.args.program.now.0) (sym c.in_ok-vec.ensures.items)
    (state_of_beginning c.args.program.now.0)

pub returns-clause-begins : goal.returns-clause-begins
returns-clause-begins c =
    let told = c.in_ok-intern.ensures in
    begins_at c.args.program.now.0 c.intern.new.self.states.items c.in_ok-intern.field-0
    (told.zeroth (ap length c.new-4.ensures.items)) told.within (told.places ∙ c.in_ok-vec.ensures.items)
