use Rattle.std.proofs.Common.{◌≡◌, length, slice_index, refl, sym, arith, subst}
use Rattle.std.proofs.lemmas.Option.{slice_get_read}
use Rattle.wax_compare.specs.{Limit.IsReachedState, inner.Automata.{LeadsToState, state_places}}
use Rattle.wax_compare.proofs.Automata.{fill_keeps, filled, keeps_more, known_step, state_on, step_keeps}
use Rattle.wax_compare.proofs.Automata.{step_to}
use Rattle.wax_compare.proofs.automaton.Automaton.follow.Goals as goal

pub index-known-requires : goal.index-known-requires
index-known-requires c =
    let states = c.args.self.now.states.items in
    let s = c.index.result.now in
    let at = slice_get_read states (length states) c.args.state s refl c.requires.state c.index.ensures in
    let room : length s.next.items ≡ length c.args.letters.now =
    (c.requires.automaton.rows c.args.state s at).room in
    omega (arith, room, c.requires.number, s.next.ok.0)

pub returns-then-known-ne0-clause-step : goal.returns-then-known-ne0-clause-step
returns-then-known-ne0-clause-step c =
    let states = c.args.self.now.states.items in
    let s = c.index.result.now in
    let at = slice_get_read states (length states) c.args.state s refl c.requires.state c.index.ensures in
    known_step c.args.self.now.criterion c.args.program.now.0 c.args.letters.now states c.args.state
    c.args.number c.index-known.result.now s at (c.requires.automaton.rows c.args.state s at)
    c.requires.number c.index-known.ensures c.if-known-ne0.true

pub intern-requires-clause-state : goal.intern-requires-clause-state
intern-requires-clause-state c =
    let code = c.args.program.now.0 in
    let old = c.args.self.now.states.items in
    let s = c.index-2.result.now in
    let at = slice_get_read old (length old) c.args.state s refl c.requires.state c.index-2.ensures in
    let places : c.deref.result.now ≡ s.places.items = c.deref.ensures.value in
    let told = c.in_ok-reach.ensures in
    state_on code c.letter_at-letter.result c.deref.result.now c.reach.new.reached.items
    c.letter_at-letter.ensures.scalar
    (subst (IsReachedState code) (sym places) (c.requires.automaton.rows c.args.state s at).reached)
    told.reaches told.ascending told.within

pub returns-clause-step : goal.returns-clause-step
returns-clause-step c =
    let code = c.args.program.now.0 in
    let old = c.args.self.now.states.items in
    let mid = c.intern.new.self.states.items in
    let new = c.learn.new.states.items in
    let letter = slice_index c.args.letters.now c.args.number in
    let next = c.in_ok-next.next in
    let s = c.index-2.result.now in
    let at = slice_get_read old (length old) c.args.state s refl c.requires.state c.index-2.ensures in
    step_keeps code mid new (fill_keeps mid new c.args.state c.args.number next c.learn.ensures)
    (state_places old c.args.state) letter next
    (step_to code old mid c.args.state next c.letter_at-letter.result letter s c.deref.result.now
    c.reach.new.reached.items at c.deref.ensures.value c.letter_at-letter.ensures.letter
    c.in_ok-reach.ensures.reaches c.in_ok-next.ensures.within c.in_ok-next.ensures.places)

pub returns-clause-kept : goal.returns-clause-kept
returns-clause-kept c =
    let mid = c.intern.new.self.states.items in
    let new = c.learn.new.states.items in
    keeps_more c.args.self.now.states.items mid new c.in_ok-next.ensures.kept
    (fill_keeps mid new c.args.state c.args.number c.in_ok-next.next c.learn.ensures)

pub returns-clause-automaton : goal.returns-clause-automaton
returns-clause-automaton c =
    let code = c.args.program.now.0 in
    let old = c.args.self.now.states.items in
    let mid = c.intern.new.self.states.items in
    let new = c.learn.new.states.items in
    let letter = slice_index c.args.letters.now c.args.number in
    let next = c.in_ok-next.next in
    let s = c.index-2.result.now in
    let at = slice_get_read old (length old) c.args.state s refl c.requires.state c.index-2.ensures in
    let there : LeadsToState code mid (state_places mid c.args.state) letter next =
    subst (λ z. LeadsToState code mid z letter next)
    (sym (c.in_ok-next.ensures.kept c.args.state c.requires.state).1)
    (step_to code old mid c.args.state next c.letter_at-letter.result letter s c.deref.result.now
    c.reach.new.reached.items at c.deref.ensures.value c.letter_at-letter.ensures.letter
    c.in_ok-reach.ensures.reaches c.in_ok-next.ensures.within c.in_ok-next.ensures.places) in
    filled mid new c.args.state c.args.number next c.learn.ensures code c.args.letters.now there
    c.intern.new.self (record c.intern.new.self { states = c.learn.new.states })
    refl refl refl refl refl refl refl
    c.in_ok-next.ensures.automaton
