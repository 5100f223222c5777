use Rattle.std.proofs.Common.{◌≡◌, ◌+◌, ◌*◌, ◌↔◌, ◌⊎◌, ◌∷◌, ◌++◌, ◌<◌, ◌≤◌, ℕ, List, IfSome, true, drop}
use Rattle.std.proofs.Common.{length, refl, sym, ◌∙◌, ap, subst, arith}
use Rattle.wax_lazy.specs.{Cost.{char_visits, fill_visits}, inner.Cached.DecidesLeft}
use Rattle.wax_lazy.proofs.Costs.{char_large, fill_large, spent_all, spent_one, spent_two}
use Rattle.wax_lazy.proofs.Chains.{all_on, both_on, check_within, chain_begins, chain_ends, next_placed}
use Rattle.wax_lazy.proofs.{Chains.failure_on, Walking.next_of}
use Rattle.wax_lazy.proofs.cache.Cache.follow_chain.Goals.{then-end-text, else-end-text+else-is_full+in-None}
use Rattle.wax_states.specs.States.{HasState, places_at, places_or_none}
use Rattle.wax_program.specs.{Checks.IsCheckAt, Machine.Accepts, Threads.AnyAmong}
use Rattle.wax_lazy.proofs.cache.Cache.follow_chain.Goals as goal

pub loop-next-init : goal.loop-next-init
loop-next-init c = record {
  cache = c.requires.cache;
  start = refl;
  has_state = c.requires.has_state;
  few = c.requires.few;
  from = omega arith;
  within = c.requires.within;
  spent = omega arith;
  steady = omega arith;
  check = c.requires.check;
  stays = λ places chain s. chain_begins c.args.program.now.0 c.args.self.now.table.states.items places
      c.args.chain (drop c.args.index c.args.text.now ++ s) chain;
}

pub returns-in-Everything-clause-decides : goal.returns-in-Everything-clause-decides
returns-in-Everything-clause-decides c = λ places chain.
    let code = c.args.program.now.0 in
    let text : List ℕ = c.args.text.now in
    let l = c.loop-next in
    let held = l.invariant in
    let new = c.follow_failure.new.self.table.states.items in
    let part = places_or_none l.self.table.states.items l.here.failure in
    let after : List ℕ = drop (l.end + 1) text in
    let one : drop l.end text ≡ c.from.result ∷ after =
    next_of text l.end held.within ∙ ap (λ k. k ∷ after) (sym c.from.ensures) in
    let takes = rw c.in-Everything.is at c.in_ok-next.ensures.leads in
    subst (λ n. DecidesLeft code new places (drop c.args.index text) after n) (sym c.in-Everything.is)
    (all_on code new places part (drop c.args.index text) (drop l.end text) after l.here.place c.from.result
    (held.stays places chain) one takes)

pub overflow_add-here : goal.overflow_add-here
overflow_add-here c =
    let l = c.loop-next in
    let within = check_within c.args.program.now.0 l.here.place _ true l.invariant.check in
    omega (arith, within, c.requires.small)

pub loop-next-preserved : goal.loop-next-preserved
loop-next-preserved c =
    let code = c.args.program.now.0 in
    let x : ℕ = char_visits code in
    let text : List ℕ = c.args.text.now in
    let l = c.loop-next in
    let held = l.invariant in
    let new = c.follow_failure.new.self.table.states.items in
    let part = places_or_none l.self.table.states.items l.here.failure in
    let after : List ℕ = drop (l.end + 1) text in
    let one : drop l.end text ≡ c.from.result ∷ after =
    next_of text l.end held.within ∙ ap (λ k. k ∷ after) (sym c.from.ensures) in
    let check = subst (λ k. IsCheckAt code l.here.place k true) (sym c.from.ensures) held.check in
    let leads = c.in_ok-next.ensures.leads in
    let further = subst (λ k. IsCheckAt code (l.here.place + 1) k true) c.from-c.ensures (subst (IsCheckAt
    code (l.here.place + 1) c.from-c.result) c.in-Some-true.field-0-test c.in-Some-true.ensures.check) in
    record {
      cache = c.follow_failure.ensures.kept.cache;
      start = c.follow_failure.ensures.kept.start ∙ held.start;
      has_state = subst (λ o. IfSome o (HasState new)) (sym c.state.ensures)
          (next_placed code new part c.from.result c.in_ok-next.next leads);
      few = c.is_full.ensures c.if-is_full.false;
      from = omega (arith, held.from);
      within = omega (arith, c.if-end-text.false);
      spent = spent_one x c.args.index l.end c.args.meter.now l.meter c.check_at.new.meter
          (fill_visits code + 1) held.spent
          (omega (arith, c.follow_failure.ensures.above, c.check_at.ensures.above))
          (omega (arith, fill_large code c.requires.large, char_large code c.requires.large));
      steady = omega (arith, held.steady, c.follow_failure.ensures.steady, c.check_at.ensures.steady);
      check = further;
      stays = λ places chain. subst (λ o. (s : List ℕ) → AnyAmong code places (drop c.args.index text ++ s)
          ↔ (AnyAmong code (places_or_none new o) (after ++ s)
          ⊎ Accepts code (l.here.place + 1) (after ++ s))) (sym c.state.ensures)
          (both_on code new places part (drop c.args.index text) (drop l.end text) after
          l.here.place c.from.result (held.stays places chain) one c.in_ok-next.next check leads
          c.in_default.not-Everything);
    }

pub returns-in-Some-false : goal.returns-in-Some-false
returns-in-Some-false c =
    let code = c.args.program.now.0 in
    let x : ℕ = char_visits code in
    let text : List ℕ = c.args.text.now in
    let l = c.loop-next in
    let held = l.invariant in
    let new = c.follow_failure.new.self.table.states.items in
    let last = c.follow_failure-in-Some-false.new.self.table.states.items in
    let part = places_or_none l.self.table.states.items l.here.failure in
    let after : List ℕ = drop (l.end + 1) text in
    let ends : List ℕ = drop (l.end + 1 + 1) text in
    let one : drop l.end text ≡ c.from.result ∷ after =
    next_of text l.end held.within ∙ ap (λ k. k ∷ after) (sym c.from.ensures) in
    let within : l.end + 1 < length text = omega (arith, c.if-end-text.false) in
    let two : after ≡ c.from-c.result ∷ ends =
    next_of text (l.end + 1) within ∙ ap (λ k. k ∷ ends) (sym c.from-c.ensures) in
    let check = subst (λ k. IsCheckAt code l.here.place k true) (sym c.from.ensures) held.check in
    let leads = c.in_ok-next.ensures.leads in
    let last_meter : ℕ = c.follow_failure-in-Some-false.new.meter in
    let spent : last_meter + 1 + x * c.args.index ≤ c.args.meter.now + x * (l.end + 1 + 1) =
    spent_two x c.args.index l.end c.args.meter.now l.meter (last_meter + 1) (2 * fill_visits code + 2)
    held.spent (omega (
      arith,
      c.follow_failure.ensures.above,
      c.check_at.ensures.above,
      c.follow_failure-in-Some-false.ensures.above,
    )) (omega (arith, fill_large code c.requires.large, char_large code c.requires.large)) in
    let misses = subst (IsCheckAt code (l.here.place + 1) c.from-c.result) c.in-Some-false.field-0-test
    c.in-Some-false.ensures.check in
    record {
      kept = record {
        cache = c.follow_failure-in-Some-false.ensures.kept.cache;
        start = c.follow_failure-in-Some-false.ensures.kept.start
            ∙ c.follow_failure.ensures.kept.start ∙ held.start;
      };
      further = (omega (arith, held.from), omega (arith, within));
      spent = spent;
      most = spent_all x c.args.index (l.end + 1 + 1) (length text) c.args.meter.now (last_meter + 1)
          (omega (arith, within)) spent;
      steady = omega (
        arith,
        held.steady,
        c.follow_failure.ensures.steady,
        c.check_at.ensures.steady,
        c.follow_failure-in-Some-false.ensures.steady,
      );
      decides = λ places chain.
          let stays = subst (λ o. (s : List ℕ) → AnyAmong code places (drop c.args.index text ++ s)
          ↔ (AnyAmong code (places_or_none new o) (after ++ s)
          ⊎ Accepts code (l.here.place + 1) (after ++ s))) (sym c.state.ensures)
          (both_on code new places part (drop c.args.index text) (drop l.end text) after
          l.here.place c.from.result (held.stays places chain) one c.in_ok-next.next check leads
          c.in_default.not-Everything) in
          failure_on code last places (places_or_none new c.state.result) (drop c.args.index text) after ends
          (l.here.place + 1) c.from-c.result stays two c.in_ok-next-in-Some-false.next misses
          c.in_ok-next-in-Some-false.ensures.leads;
    }

pub returns : goal.returns
returns c =
    let x : ℕ = char_visits c.args.program.now.0 in
    let ended : c.if-end-text.meter ≤ c.follow_failure.new.meter + 1 = elim c.if-end-text.branch [
      | then-end-text w ↦ omega (arith, w.meter-is)
      | else-end-text+else-is_full+in-None w ↦ omega (arith, w.meter-is, w.check_at.ensures.above)
    ] in
    let onward : c.follow_failure.new.meter ≤ c.if-end-text.meter = elim c.if-end-text.branch [
      | then-end-text w ↦ omega (arith, w.meter-is)
      | else-end-text+else-is_full+in-None w ↦ omega (arith, w.meter-is, w.check_at.ensures.steady)
    ] in
    let last_meter : ℕ = c.end_chain.new.meter in
    let spent : last_meter + 1 + x * c.args.index ≤ c.args.meter.now + x * (c.loop-next.end + 1) =
    spent_one x c.args.index c.loop-next.end c.args.meter.now c.loop-next.meter (last_meter + 1)
    (char_visits c.args.program.now.0) c.loop-next.invariant.spent
    (omega (
      arith,
      ended,
      c.follow_failure.ensures.above,
      c.end_chain.ensures.above,
      fill_large c.args.program.now.0 c.requires.large,
      char_large c.args.program.now.0 c.requires.large,
    )) (omega arith) in
    let code = c.args.program.now.0 in
    let text : List ℕ = c.args.text.now in
    let l = c.loop-next in
    let held = l.invariant in
    let new = c.follow_failure.new.self.table.states.items in
    let last = c.end_chain.new.self.table.states.items in
    let part = places_or_none l.self.table.states.items l.here.failure in
    let after : List ℕ = drop (l.end + 1) text in
    let one : drop l.end text ≡ c.from.result ∷ after =
    next_of text l.end held.within ∙ ap (λ k. k ∷ after) (sym c.from.ensures) in
    let check = subst (λ k. IsCheckAt code l.here.place k true) (sym c.from.ensures) held.check in
    let leads = c.in_ok-next.ensures.leads in
    record {
      kept = record {
        cache = c.end_chain.ensures.kept.cache;
        start = c.end_chain.ensures.kept.start ∙ c.follow_failure.ensures.kept.start ∙ held.start;
      };
      further = (omega (arith, held.from), omega (arith, held.within));
      spent = spent;
      most = spent_all x c.args.index (l.end + 1) (length text) c.args.meter.now (last_meter + 1)
          (omega (arith, held.within)) spent;
      steady = omega (
        arith,
        held.steady,
        c.follow_failure.ensures.steady,
        onward,
        c.end_chain.ensures.steady,
      );
      decides = λ places chain.
          let stays = subst (λ o. (s : List ℕ) → AnyAmong code places (drop c.args.index text ++ s)
          ↔ (AnyAmong code (places_or_none new o) (after ++ s)
          ⊎ Accepts code (l.here.place + 1) (after ++ s))) (sym c.state.ensures)
          (both_on code new places part (drop c.args.index text) (drop l.end text) after
          l.here.place c.from.result (held.stays places chain) one c.in_ok-next.next check leads
          c.in_default.not-Everything) in (
            c.in_ok-state.ensures.has_state,
            (λ s. chain_ends code places (places_at last c.in_ok-state.state)
                (places_or_none new c.state.result) (drop c.args.index text ++ s) (after ++ s)
                (l.here.place + 1) (stays s) c.in_ok-state.ensures.union),
          );
    }

pub returns-in_err-state-clause-most : goal.returns-in_err-state-clause-most
returns-in_err-state-clause-most c =
    let x : ℕ = char_visits c.args.program.now.0 in
    let ended : c.if-end-text.meter ≤ c.follow_failure.new.meter + 1 = elim c.if-end-text.branch [
      | then-end-text w ↦ omega (arith, w.meter-is)
      | else-end-text+else-is_full+in-None w ↦ omega (arith, w.meter-is, w.check_at.ensures.above)
    ] in
    let onward : c.follow_failure.new.meter ≤ c.if-end-text.meter = elim c.if-end-text.branch [
      | then-end-text w ↦ omega (arith, w.meter-is)
      | else-end-text+else-is_full+in-None w ↦ omega (arith, w.meter-is, w.check_at.ensures.steady)
    ] in
    let last_meter : ℕ = c.end_chain.new.meter in
    let spent : last_meter + 1 + x * c.args.index ≤ c.args.meter.now + x * (c.loop-next.end + 1) =
    spent_one x c.args.index c.loop-next.end c.args.meter.now c.loop-next.meter (last_meter + 1)
    (char_visits c.args.program.now.0) c.loop-next.invariant.spent
    (omega (
      arith,
      ended,
      c.follow_failure.ensures.above,
      c.end_chain.ensures.above,
      fill_large c.args.program.now.0 c.requires.large,
      char_large c.args.program.now.0 c.requires.large,
    )) (omega arith) in
    spent_all x c.args.index (c.loop-next.end + 1) (length c.args.text.now) c.args.meter.now (last_meter + 1)
    (omega (arith, c.loop-next.invariant.within)) spent

pub returns-in_err-state-clause-steady : goal.returns-in_err-state-clause-steady
returns-in_err-state-clause-steady c =
    let onward : c.follow_failure.new.meter ≤ c.if-end-text.meter = elim c.if-end-text.branch [
      | then-end-text w ↦ omega (arith, w.meter-is)
      | else-end-text+else-is_full+in-None w ↦ omega (arith, w.meter-is, w.check_at.ensures.steady)
    ] in
    omega (
      arith,
      c.loop-next.invariant.steady,
      c.follow_failure.ensures.steady,
      onward,
      c.end_chain.ensures.steady,
    )

pub returns-in_err-next-in-Some-false-clause-most : goal.returns-in_err-next-in-Some-false-clause-most
returns-in_err-next-in-Some-false-clause-most c =
    let code = c.args.program.now.0 in
    let x : ℕ = char_visits code in
    let l = c.loop-next in
    let last_meter : ℕ = c.follow_failure-in-Some-false.new.meter in
    let spent : last_meter + 1 + x * c.args.index ≤ c.args.meter.now + x * (l.end + 1 + 1) =
    spent_two x c.args.index l.end c.args.meter.now l.meter (last_meter + 1) (2 * fill_visits code + 2)
    l.invariant.spent (omega (
      arith,
      c.follow_failure.ensures.above,
      c.check_at.ensures.above,
      c.follow_failure-in-Some-false.ensures.above,
    )) (omega (arith, fill_large code c.requires.large, char_large code c.requires.large)) in
    spent_all x c.args.index (l.end + 1 + 1) (length c.args.text.now) c.args.meter.now (last_meter + 1)
    (omega (arith, c.if-end-text.false)) spent

pub returns-in-Everything-clause-spent : goal.returns-in-Everything-clause-spent
returns-in-Everything-clause-spent c =
    let code = c.args.program.now.0 in
    spent_one (char_visits code) c.args.index c.loop-next.end c.args.meter.now c.loop-next.meter
    (c.follow_failure.new.meter + 1) (char_visits code) c.loop-next.invariant.spent
    (omega (
      arith,
      c.follow_failure.ensures.above,
      fill_large code c.requires.large,
      char_large code c.requires.large,
    )) (omega arith)

pub returns-in-Everything-clause-most : goal.returns-in-Everything-clause-most
returns-in-Everything-clause-most c = spent_all (char_visits c.args.program.now.0) c.args.index
    (c.loop-next.end + 1) (length c.args.text.now) c.args.meter.now (c.follow_failure.new.meter + 1)
    (omega (arith, c.loop-next.invariant.within)) (returns-in-Everything-clause-spent c)

pub returns-in_err-next-clause-most : goal.returns-in_err-next-clause-most
returns-in_err-next-clause-most c =
    let code = c.args.program.now.0 in
    spent_all (char_visits code) c.args.index
    (c.loop-next.end + 1) (length c.args.text.now) c.args.meter.now (c.follow_failure.new.meter + 1)
    (omega (arith, c.loop-next.invariant.within))
    (spent_one (char_visits code) c.args.index c.loop-next.end c.args.meter.now c.loop-next.meter
    (c.follow_failure.new.meter + 1) (char_visits code) c.loop-next.invariant.spent
    (omega (
      arith,
      c.follow_failure.ensures.above,
      fill_large code c.requires.large,
      char_large code c.requires.large,
    )) (omega arith))
