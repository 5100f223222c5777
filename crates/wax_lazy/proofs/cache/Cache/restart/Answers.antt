use Rattle.wax_lazy.proofs.Caches.{restarted}
use Rattle.wax_lazy.proofs.cache.Cache.restart.Goals as goal

pub returns-clause-ok : goal.returns-clause-ok
returns-clause-ok c = λ s is.
    let m = c.clear.ensures.maker in
    restarted c.args.self.now c.clear.new.self c.keep.new.self s c.take.result c.whole-left.result
    c.in_ok-keep.field-0 c.args.state
    (record {
      maker = record {
        stepper = m.stepper;
        letters = m.letters;
        start = m.start;
        lists = record { reached = m.lists.reached; others = m.lists.others; loops = m.lists.loops };
      };
      states = c.clear.ensures.states;
      cells = c.clear.ensures.cells;
      wide = c.clear.ensures.wide;
      row_keys = c.clear.ensures.row_keys;
      row_cells = c.clear.ensures.row_cells;
      first = c.clear.ensures.first;
    })
    c.in_ok-keep.ensures.ok is c.take.ensures c.whole-left.ensures.places c.whole-left.ensures.failure
    c.whole-left.ensures.accepts c.whole-left.ensures.numbers
