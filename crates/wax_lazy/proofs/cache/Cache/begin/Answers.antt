use Rattle.std.proofs.Common.{◌≡◌, ◌∷◌, [], ◌∙◌, sym, subst, rules}
use Rattle.wax_lazy.specs.inner.Table.{BeginsTexts}
use Rattle.wax_states.specs.States.{places_at}
use Rattle.wax_lazy.proofs.{Caches.cache_cleared, Tables.begun}
use Rattle.wax_lazy.proofs.cache.Cache.begin.Goals as goal

pub intern-requires-clause-cache : goal.intern-requires-clause-cache
intern-requires-clause-cache c =
    let code = c.args.program.now.0 in
    let cleared = cache_cleared code _ c.clear.new.self
    (record {
      size = c.requires.size;
      start = c.requires.start;
      table = c.requires.table;
      wide = c.requires.wide;
      rows = c.requires.rows;
      letters = c.requires.letters;
      first = c.requires.first;
    }) c.clear.ensures in
    record {
      size = cleared.size;
      start = cleared.start;
      table = cleared.table;
      wide = cleared.wide;
      rows = cleared.rows;
      letters = cleared.letters;
      first = cleared.first;
    }

pub returns-clause-kept : goal.returns-clause-kept
returns-clause-kept c =
    let code = c.args.program.now.0 in
    let states = c.intern.new.self.table.states.items in
    let made = c.in_ok-state.ensures in
    let held = c.intern.ensures.kept.cache in
    let one : places_at states c.in_ok-state.state ≡ c.clear.new.self.start ∷ [] =
    made.interned.places_are ∙ search rules in
    let first = begun code states c.clear.new.self.start c.in_ok-state.state made.interned.known one in
    record {
      cache = record {
        size = held.size;
        start = held.start;
        table = held.table;
        wide = held.wide;
        rows = held.rows;
        letters = held.letters;
        first = subst (λ n. BeginsTexts code states n c.in_ok-state.state) (sym made.kept.start) first;
      };
      start = made.kept.start ∙ c.clear.ensures.maker.start;
    }

pub returns-clause-begins : goal.returns-clause-begins
returns-clause-begins c =
    let code = c.args.program.now.0 in
    let states = c.intern.new.self.table.states.items in
    let made = c.in_ok-state.ensures in
    let one : places_at states c.in_ok-state.state ≡ c.clear.new.self.start ∷ [] =
    made.interned.places_are ∙ search rules in
    let first = begun code states c.clear.new.self.start c.in_ok-state.state made.interned.known one in
    subst (λ n. BeginsTexts code states n c.in_ok-state.state) c.clear.ensures.maker.start first
