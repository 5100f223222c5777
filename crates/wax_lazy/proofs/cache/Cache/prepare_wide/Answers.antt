use Rattle.std.proofs.Common.{refl}
use Rattle.wax_lazy.proofs.Caches.{cache_prepared}
use Rattle.wax_lazy.proofs.cache.Cache.prepare_wide.Goals as goal

pub returns-clause-kept : goal.returns-clause-kept
returns-clause-kept c =
    let found = c.find_letters.ensures.kept in
    record {
      cache = cache_prepared c.args.program.now.0 c.find_letters.new.self _ found.cache refl refl refl
          c.prepare_wide.ensures.states c.prepare_wide.ensures.cells c.prepare_wide.ensures.wide refl
          found.cache.letters;
      start = found.start;
    }
