use Rattle.std.proofs.{Common.{◌∙◌, arith}, lemmas.Result.IfOk-weaker}
use Rattle.wax_lazy.proofs.Caches.{added_grows, added_places, added_room, added_within, cache_kept}
use Rattle.wax_lazy.proofs.{Caches.state_parted, Tables.keeps_same}
use Rattle.wax_lazy.proofs.cache.Cache.intern.Goals as goal

pub returns-in-Some-clause-interned : goal.returns-in-Some-clause-interned
returns-in-Some-clause-interned c = record {
  grows = record { kept = keeps_same c.args.self.now.table.states.items; few = omega arith };
  known = c.in-Some.ensures.0;
  places_are = c.in-Some.ensures.1 ∙ c.deref.ensures.value;
  room = c.requires.cache.table.room;
}

pub returns-clause-kept : goal.returns-clause-kept
returns-clause-kept c =
    let code = c.args.program.now.0 in
    let same = c.in_ok-places.ensures.items ∙ c.deref-2.ensures.value in
    let good = state_parted code c.args.self.now c.in_ok-places.places c.in_ok-own.own c.args.failure
    c.requires.failure same c.in_ok-own.ensures in
    cache_kept code c.args.self.now c.keep.new.self c.requires.cache _ c.keep.result c.requires.few good
    c.keep.ensures.ok c.keep.ensures.err

pub returns-clause-interned : goal.returns-clause-interned
returns-clause-interned c =
    let same = c.in_ok-places.ensures.items ∙ c.deref-2.ensures.value in
    IfOk-weaker c.keep.result _ _ (λ number added. record {
      grows = added_grows c.args.self.now c.keep.new.self _ number added;
      known = added_within c.args.self.now c.keep.new.self _ number added;
      places_are = added_places c.args.self.now c.keep.new.self _ number added ∙ same;
      room = added_room c.args.self.now c.keep.new.self _ number added c.requires.cache.table.room;
    }) c.keep.ensures.ok
