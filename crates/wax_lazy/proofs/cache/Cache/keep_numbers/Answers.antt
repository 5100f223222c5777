use Rattle.std.proofs.Common.{◌≡◌, Some, refl, sym, ◌∙◌, subst}
use Rattle.wax_states.specs.States.{places_at}
use Rattle.wax_lazy.proofs.{Caches.cache_numbers, Tables.{settled_keeps, settled_numbers}}
use Rattle.wax_lazy.specs.inner.Table.{AreNumbersOf}
use Rattle.wax_lazy.proofs.cache.Cache.keep_numbers.Goals as goal

pub returns-clause-kept : goal.returns-clause-kept
returns-clause-kept c =
    let code = c.args._program.now.0 in
    let was = c.requires.here.cache in
    let copied : c.in_ok-numbers.numbers.items ≡ c.args.self.now.loops.items =
    c.in_ok-numbers.ensures.items ∙ c.deref.ensures.value in
    let are : AreNumbersOf code
    (places_at c.args.self.now.table.states.items c.args.state) c.in_ok-numbers.numbers.items =
    subst (AreNumbersOf code (places_at c.args.self.now.table.states.items c.args.state)) (sym copied)
    c.requires.listed in
    record {
      cache =
          cache_numbers code c.args.self.now
          (record {
            alloc = c.args.self.now.alloc;
            stepper = c.args.self.now.stepper;
            table = c.settle_numbers.new.self;
            rows = c.args.self.now.rows;
            letters = c.args.self.now.letters;
            reached = c.args.self.now.reached;
            others = c.args.self.now.others;
            loops = c.args.self.now.loops;
            start = c.args.self.now.start;
            first = c.args.self.now.first;
            most_bytes = c.args.self.now.most_bytes;
            bytes = c.saturating_add-self.result;
            least_read = c.args.self.now.least_read;
            read = c.args.self.now.read;
            gives_up = c.args.self.now.gives_up;
          })
          c.args.state c.in_ok-numbers.numbers was c.settle_numbers.ensures.states are
          was.size refl refl c.settle_numbers.ensures.cells
          c.settle_numbers.ensures.wide refl was.letters;
      start = refl;
    }

pub returns-clause-states : goal.returns-clause-states
returns-clause-states c =
    settled_keeps c.args.self.now.table.states.items c.settle_numbers.new.self.states.items
    c.args.state (λ s. s.accepts) (λ _. Some c.in_ok-numbers.numbers) c.settle_numbers.ensures.states

pub returns-clause-numbers : goal.returns-clause-numbers
returns-clause-numbers c =
    let code = c.args._program.now.0 in
    let places = places_at c.args.self.now.table.states.items c.args.state in
    let copied : c.in_ok-numbers.numbers.items ≡ c.args.self.now.loops.items =
    c.in_ok-numbers.ensures.items ∙ c.deref.ensures.value in
    let kept = settled_numbers c.args.self.now.table.states.items c.settle_numbers.new.self.states.items
    c.args.state (λ s. s.accepts) (λ _. Some c.in_ok-numbers.numbers) c.settle_numbers.ensures.states in
    subst (AreNumbersOf code places) (sym (kept ∙ copied)) c.requires.listed
