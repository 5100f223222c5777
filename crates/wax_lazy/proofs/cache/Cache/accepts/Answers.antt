use Rattle.std.proofs.Common.{◌↔◌, [], IfSome, IsTrue, Some, sym, ◌∙◌, ap, subst}
use Rattle.wax_states.specs.States.{IsSettled, places_in}
use Rattle.wax_lazy.proofs.Caches.{cache_accepts}
use Rattle.wax_program.specs.Threads.{AnyAmong}
use Rattle.wax_lazy.proofs.cache.Cache.accepts.Goals as goal

pub returns-in-Some-clause-accepts : goal.returns-in-Some-clause-accepts
returns-in-Some-clause-accepts c =
    let code = c.args.program.now.0 in
    let s = c.state.result.now in
    let known = subst (λ o. IfSome o (λ b. IsTrue b ↔ AnyAmong code s.places.items [])) c.in-Some.is
    (c.requires.here.cache.table.rows c.args.state s c.state.ensures).ends in
    subst (λ z. IsTrue c.in-Some.accepts ↔ AnyAmong code z []) (sym (ap places_in c.state.ensures)) known

pub returns-clause-kept : goal.returns-clause-kept
returns-clause-kept c =
    let code = c.args.program.now.0 in
    let same = c.computed-accepts.ensures.table in
    let settled = subst (λ z. IsSettled z.states.items c.settle.new.self.states.items c.args.state
    (λ _. Some c.computed-accepts.result) (λ s. s.numbers)) same c.settle.ensures.states in
    record {
      cache =
          cache_accepts code c.args.self.now
          (record {
            alloc = c.computed-accepts.new.self.alloc;
            stepper = c.computed-accepts.new.self.stepper;
            table = c.settle.new.self;
            rows = c.computed-accepts.new.self.rows;
            letters = c.computed-accepts.new.self.letters;
            reached = c.computed-accepts.new.self.reached;
            others = c.computed-accepts.new.self.others;
            loops = c.computed-accepts.new.self.loops;
            start = c.computed-accepts.new.self.start;
            first = c.computed-accepts.new.self.first;
            most_bytes = c.computed-accepts.new.self.most_bytes;
            bytes = c.computed-accepts.new.self.bytes;
            least_read = c.computed-accepts.new.self.least_read;
            read = c.computed-accepts.new.self.read;
            gives_up = c.computed-accepts.new.self.gives_up;
          })
          c.args.state c.computed-accepts.result c.requires.here.cache settled
          c.computed-accepts.ensures.accepts
          c.computed-accepts.ensures.kept.cache.size c.computed-accepts.ensures.kept.start
          c.computed-accepts.ensures.first (c.settle.ensures.cells ∙ ap (λ z. z.cells) same)
          (c.settle.ensures.wide ∙ ap (λ z. z.wide_cells) same) c.computed-accepts.ensures.rows
          c.computed-accepts.ensures.kept.cache.letters;
      start = c.computed-accepts.ensures.kept.start;
    }
