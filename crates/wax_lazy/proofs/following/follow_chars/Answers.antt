use Rattle.std.proofs.Common.{◌≡◌, ◌∙◌, ◌++◌, ◌+◌, ◌*◌, ◌≤◌, [], List, ℕ, ap, arith, drop, length, rules, sym}
use Rattle.std.proofs.{lemmas.List.nil_from_length, lemmas.Str.{IsCharBoundary-from_drop, chars-nil}}
use Rattle.std.specs.Str.{chars}
use Rattle.wax_lazy.specs.Cost.{char_visits}
use Rattle.wax_lazy.proofs.{Costs.spent_rest, Walking.{leads_end, leads_on, leads_past}}
use Rattle.wax_program.specs.Machine.{Accepts}
use Rattle.wax_lazy.proofs.following.follow_chars.Goals as goal

pub loop-left-init : goal.loop-left-init
loop-left-init c =
    let begins = c.in_ok-state.ensures.begins in
    record {
      utf8 = c.utf8.text;
      cache = c.begin.ensures.kept.cache;
      start = c.begin.ensures.kept.start;
      above = omega arith;
      steady = omega arith;
      has_state = begins.has_state;
      stays = λ s. begins.accepts (chars c.args.text.now ++ s);
    }

pub range_from-left-requires : goal.range_from-left-requires
range_from-left-requires c = λ _. IsCharBoundary-from_drop c.loop-left.left.now c.in_ok-next.end
    c.in_ok-next.ensures.further.1 c.in_ok-next.ensures.utf8

pub returns-in_default : goal.returns-in_default
returns-in_default c =
    let x : ℕ = char_visits c.args.program.now.0 in
    let rest : ℕ = length (chars (drop c.in_ok-next.end c.loop-left.left.now)) in
    let here : c.advance_left.new.meter + x * rest ≤ c.args.meter.now + x * length (chars c.args.text.now) =
    spent_rest (x * length (chars c.loop-left.left.now)) (x * rest) (x * length (chars c.args.text.now))
    c.args.meter.now c.loop-left.meter c.advance_left.new.meter c.loop-left.invariant.above
    c.in_ok-next.ensures.spent in
    let code = c.args.program.now.0 in
    let text : List ℕ = chars c.args.text.now in
    let left : List ℕ = c.loop-left.left.now in
    let new = c.advance_left.new.cache.table.states.items in
    let led = leads_on code (λ s. Accepts code c.args.cache.now.start (text ++ s)) new _ (chars left)
    (chars (drop c.in_ok-next.end left)) c.in_ok-next.next
    c.loop-left.invariant.stays c.in_ok-next.ensures.decides in
    record {
      kept = record {
        cache = c.advance_left.ensures.kept.cache;
        start = c.advance_left.ensures.kept.start ∙ c.loop-left.invariant.start;
      };
      leads = leads_past code _ new (chars (drop c.in_ok-next.end left)) c.in_ok-next.next
          c.in_default.not-To led;
      above = omega (arith, here);
      steady = omega (arith, c.loop-left.invariant.steady, c.advance_left.ensures.steady);
    }

pub loop-left-preserved : goal.loop-left-preserved
loop-left-preserved c =
    let x : ℕ = char_visits c.args.program.now.0 in
    let rest : ℕ = length (chars (drop c.in_ok-next.end c.loop-left.left.now)) in
    let here : c.advance_left.new.meter + x * rest ≤ c.args.meter.now + x * length (chars c.args.text.now) =
    spent_rest (x * length (chars c.loop-left.left.now)) (x * rest) (x * length (chars c.args.text.now))
    c.args.meter.now c.loop-left.meter c.advance_left.new.meter c.loop-left.invariant.above
    c.in_ok-next.ensures.spent in
    let code = c.args.program.now.0 in
    let text : List ℕ = chars c.args.text.now in
    let left : List ℕ = c.loop-left.left.now in
    let led = leads_on code (λ s. Accepts code c.args.cache.now.start (text ++ s))
    c.advance_left.new.cache.table.states.items _ (chars left)
    (chars (drop c.in_ok-next.end left)) c.in_ok-next.next
    c.loop-left.invariant.stays c.in_ok-next.ensures.decides in
    let to = rw (sym c.range_from-left.ensures.value) at (rw c.in-To.is at led) in
    record {
      utf8 = rw (sym c.range_from-left.ensures.value) at c.in_ok-next.ensures.utf8;
      cache = c.advance_left.ensures.kept.cache;
      start = c.advance_left.ensures.kept.start ∙ c.loop-left.invariant.start;
      above = rw (sym c.range_from-left.ensures.value) at here;
      steady = omega (arith, c.loop-left.invariant.steady, c.advance_left.ensures.steady);
      has_state = to.0;
      stays = to.1;
    }

pub returns-clause-leads : goal.returns-clause-leads
returns-clause-leads c =
    let held = c.loop-left.invariant in
    let none : length c.loop-left.left.now ≡ 0 = search rules in
    let end : chars c.loop-left.left.now ≡ [] = ap chars (nil_from_length _ none) ∙ chars-nil in
    leads_end c.args.program.now.0 _ c.loop-left.cache.table.states.items _ c.loop-left.state end
    held.has_state held.stays

pub returns-clause-above : goal.returns-clause-above
returns-clause-above c = omega (arith, c.loop-left.invariant.above)
