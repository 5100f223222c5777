use Rattle.std.proofs.Common.{◌≡◌, ◌∙◌, ◌++◌, ◌≤◌, ◌+◌, ◌*◌, [], List, ℕ, drop, length, arith}
use Rattle.std.proofs.lemmas.List.{drop_all}
use Rattle.wax_lazy.specs.Cost.{char_visits}
use Rattle.wax_lazy.proofs.{Costs.{spent_all, spent_on}, Walking.{leads_end, leads_on, leads_past}}
use Rattle.wax_program.specs.Machine.{Accepts}
use Rattle.wax_lazy.proofs.following.follow_ascii.Goals as goal

pub loop-index-init : goal.loop-index-init
loop-index-init c =
    let begins = c.in_ok-state.ensures.begins in
    record {
      cache = c.begin.ensures.kept.cache;
      start = c.begin.ensures.kept.start;
      has_state = begins.has_state;
      above = omega arith;
      steady = omega arith;
      within = omega arith;
      stays = λ s. begins.accepts (c.args.text.now ++ s);
    }

pub returns-in_default : goal.returns-in_default
returns-in_default c =
    let x : ℕ = char_visits c.args.program.now.0 in
    let here : c.advance_in.new.meter ≤ c.args.meter.now + x * c.in_ok-next.end =
    spent_on (x * c.loop-index.index) (x * c.in_ok-next.end) c.args.meter.now c.loop-index.meter
    c.advance_in.new.meter c.loop-index.invariant.above c.in_ok-next.ensures.spent in
    let code = c.args.program.now.0 in
    let text : List ℕ = c.args.text.now in
    let new = c.advance_in.new.cache.table.states.items in
    let led = leads_on code (λ s. Accepts code c.args.cache.now.start (text ++ s)) new _
    (drop c.loop-index.index text) (drop c.in_ok-next.end text) c.in_ok-next.next
    c.loop-index.invariant.stays c.in_ok-next.ensures.decides in
    record {
      kept = record {
        cache = c.advance_in.ensures.kept.cache;
        start = c.advance_in.ensures.kept.start ∙ c.loop-index.invariant.start;
      };
      leads = leads_past code _ new (drop c.in_ok-next.end text) c.in_ok-next.next c.in_default.not-To led;
      above = omega (
        arith,
        spent_all x 0 c.in_ok-next.end (length text) c.args.meter.now
            c.advance_in.new.meter c.in_ok-next.ensures.further.1 (omega (arith, here)),
      );
      steady = omega (arith, c.loop-index.invariant.steady, c.advance_in.ensures.steady);
    }

pub loop-index-preserved : goal.loop-index-preserved
loop-index-preserved c =
    let x : ℕ = char_visits c.args.program.now.0 in
    let here : c.advance_in.new.meter ≤ c.args.meter.now + x * c.in_ok-next.end =
    spent_on (x * c.loop-index.index) (x * c.in_ok-next.end) c.args.meter.now c.loop-index.meter
    c.advance_in.new.meter c.loop-index.invariant.above c.in_ok-next.ensures.spent in
    let code = c.args.program.now.0 in
    let text : List ℕ = c.args.text.now in
    let led = leads_on code (λ s. Accepts code c.args.cache.now.start (text ++ s))
    c.advance_in.new.cache.table.states.items _ (drop c.loop-index.index text)
    (drop c.in_ok-next.end text) c.in_ok-next.next
    c.loop-index.invariant.stays c.in_ok-next.ensures.decides in
    let to = rw c.in-To.is at led in
    record {
      cache = c.advance_in.ensures.kept.cache;
      start = c.advance_in.ensures.kept.start ∙ c.loop-index.invariant.start;
      has_state = to.0;
      above = here;
      steady = omega (arith, c.loop-index.invariant.steady, c.advance_in.ensures.steady);
      within = c.in_ok-next.ensures.further.1;
      stays = to.1;
    }

pub returns-clause-leads : goal.returns-clause-leads
returns-clause-leads c =
    let held = c.loop-index.invariant in
    let end : drop c.loop-index.index c.args.text.now ≡ [] =
    drop_all c.loop-index.index c.args.text.now c.loop-index-test.false in
    leads_end c.args.program.now.0 _ c.loop-index.cache.table.states.items _ c.loop-index.state end
    held.has_state held.stays

pub returns-clause-above : goal.returns-clause-above
returns-clause-above c = omega (
  arith,
  spent_all (char_visits c.args.program.now.0) 0 c.loop-index.index
      (length c.args.text.now) c.args.meter.now c.loop-index.meter c.loop-index.invariant.within
      (omega (arith, c.loop-index.invariant.above)),
)
