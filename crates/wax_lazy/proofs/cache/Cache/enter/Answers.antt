use Rattle.std.proofs.Common.{◌≡◌, ℕ, List, [], refl, subst, sym, ◌∙◌, inl, inr, arith, eqb-true}
use Rattle.std.proofs.lemmas.List.{nil_from_length}
use Rattle.wax_program.specs.Threads.{AnyAmong}
use Rattle.wax_states.specs.States.{IsTransition, places_at}
use Rattle.wax_lazy.proofs.Caches.{cache_filled}
use Rattle.wax_lazy.proofs.Tables.{dead_of_none, leads_to, placed_keeps, places_keep, takes_all}
use Rattle.wax_lazy.proofs.cache.Cache.enter.Goals as goal

pub returns-then-is_empty-clause-kept : goal.returns-then-is_empty-clause-kept
returns-then-is_empty-clause-kept c =
    let code = c.args.program.now.0 in
    let held = c.requires.here.cache in
    let zero : c.args.self.now.reached.len ≡ 0 =
    eqb-true c.args.self.now.reached.len 0 (sym c.is_empty.ensures ∙ c.if-is_empty.true) in
    let none : c.args.self.now.reached.items ≡ [] =
    nil_from_length c.args.self.now.reached.items (omega (arith, zero, c.args.self.now.reached.ok.0)) in
    let dead = dead_of_none code c.args.c _ _ c.requires.next none in
    record {
      cache = cache_filled code c.args.self.now _ c.args.state c.args.c 1 held c.requires.here.has_state
          (inr (inl (refl, dead)))
          held.size refl refl c.write.ensures.states c.write.ensures.filled c.write.ensures.unfilled
          c.write.ensures.wide refl held.letters;
      start = refl;
    }

pub returns-then-is_empty-clause-leads : goal.returns-then-is_empty-clause-leads
returns-then-is_empty-clause-leads c =
    let zero : c.args.self.now.reached.len ≡ 0 =
    eqb-true c.args.self.now.reached.len 0 (sym c.is_empty.ensures ∙ c.if-is_empty.true) in
    let none : c.args.self.now.reached.items ≡ [] =
    nil_from_length c.args.self.now.reached.items (omega (arith, zero, c.args.self.now.reached.ok.0)) in
    dead_of_none c.args.program.now.0 c.args.c _ _ c.requires.next none

pub returns-then-takes_all-clause-kept : goal.returns-then-takes_all-clause-kept
returns-then-takes_all-clause-kept c =
    let code = c.args.program.now.0 in
    let held = c.requires.here.cache in
    let all = takes_all code c.args.c _ _ c.requires.next (subst (λ z. (s : List ℕ) → AnyAmong
    c.args.program.now.0 z s) c.deref.ensures.value (c.takes_all.ensures.all c.if-takes_all.true)) in
    record {
      cache = cache_filled code c.args.self.now _ c.args.state c.args.c 2 held c.requires.here.has_state
          (inr (inr (inl (refl, all))))
          held.size refl refl c.write-then-takes_all.ensures.states c.write-then-takes_all.ensures.filled
          c.write-then-takes_all.ensures.unfilled c.write-then-takes_all.ensures.wide refl
          held.letters;
      start = refl;
    }

pub returns-then-takes_all-clause-leads : goal.returns-then-takes_all-clause-leads
returns-then-takes_all-clause-leads c =
    takes_all c.args.program.now.0 c.args.c _ _ c.requires.next (subst (λ z. (s : List ℕ) → AnyAmong
    c.args.program.now.0 z s) c.deref.ensures.value (c.takes_all.ensures.all c.if-takes_all.true))

pub returns-clause-kept : goal.returns-clause-kept
returns-clause-kept c =
    let code = c.args.program.now.0 in
    let old = c.args.self.now.table.states.items in
    let new = c.intern_parted.new.self.table.states.items in
    let made = c.in_ok-to.ensures.interned in
    let to = c.in_ok-to.to in
    let now = c.intern_parted.ensures.kept.cache in
    let has_state = placed_keeps old new made.grows.kept c.args.state c.requires.here.has_state in
    let from = places_keep old new made.grows.kept c.args.state c.requires.here.has_state in
    let leads = leads_to code new _ _ _ c.args.c to from made.known made.places_are c.requires.next in
    let says : IsTransition code new (places_at new c.args.state) c.args.c c.cell_of.result =
    subst (IsTransition code new (places_at new c.args.state) c.args.c) (sym c.cell_of.ensures)
    (inr (inr (inr (to, refl, leads)))) in
    record {
      cache = cache_filled code c.intern_parted.new.self _ c.args.state c.args.c
          c.cell_of.result now has_state says
          now.size refl refl c.write-2.ensures.states c.write-2.ensures.filled c.write-2.ensures.unfilled
          c.write-2.ensures.wide refl now.letters;
      start = c.intern_parted.ensures.kept.start;
    }

pub returns-clause-leads : goal.returns-clause-leads
returns-clause-leads c =
    let made = c.in_ok-to.ensures.interned in
    rw c.write-2.ensures.states (leads_to c.args.program.now.0 c.intern_parted.new.self.table.states.items _ _
    _ c.args.c c.in_ok-to.to refl made.known made.places_are c.requires.next)

pub returns-clause-less : goal.returns-clause-less
returns-clause-less c = λ small none.
    let same = c.intern_parted.ensures.less small none in omega (arith, c.takes_all.ensures.above, same)

pub returns-in_err-to-clause-less : goal.returns-in_err-to-clause-less
returns-in_err-to-clause-less c = λ small none.
    let same = c.intern_parted.ensures.less small none in omega (arith, c.takes_all.ensures.above, same)
