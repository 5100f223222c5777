use Rattle.std.proofs.Common.{◌≡◌, ◌*◌, ◌↔◌, ◌∷◌, ◌++◌, [], ℕ, List, ◌∙◌, ap, arith, length, subst, rules}
use Rattle.std.proofs.{lemmas.List.nil_from_length, lemmas.Str.{IsUtf8-past_char, chars-nil, chars_past_char}}
use Rattle.std.specs.{Str.chars, Str.Iter.chars_rest}
use Rattle.wax_lazy.proofs.Costs.{listed_once, spent_next, spent_rest}
use Rattle.wax_lazy.proofs.{Numbering.{nowhere_on, numbers_led, numbers_none, reached_on}, Tables.one_place}
use Rattle.wax_lazy.proofs.Walking.{stays_on}
use Rattle.wax_program.specs.{Machine.Accepts, Threads.AnyAmong}
use Rattle.wax_lazy.proofs.once.list_numbers_metered.Goals as goal

pub loop-c-init : goal.loop-c-init
loop-c-init c = record {
  utf8 = rw c.chars-left.ensures.rest c.utf8.text;
  stepper = c.in_ok-stepper.ensures;
  above = rw c.chars-left.ensures.rest (omega arith);
  steady = omega arith;
  stays = λ s. rw (c.chars-left.ensures.rest, c.in_ok-places.ensures.items)
      (one_place c.args.program.now.0 0 (chars c.args.text.now ++ s));
}

pub loop-c-preserved : goal.loop-c-preserved
loop-c-preserved c =
    let code = c.args.program.now.0 in
    let cs : List ℕ = chars c.args.text.now in
    let left : List ℕ = chars (chars_rest c.next.new.self) in
    let held = c.loop-c.invariant in
    let one : chars (chars_rest c.loop-c.left) ≡ c.in-Some.c ∷ left =
    chars_past_char _ _ _ held.utf8 c.in-Some.ensures.steps.0 in
    let leads = reached_on code c.in-Some.c c.deref.result.now c.step.new.reached.items c.in_ok-step.field-0
    c.in_ok-step.ensures.reaches in
    record {
      utf8 = IsUtf8-past_char _ _ _ held.utf8 c.in-Some.ensures.steps.0;
      stepper = c.step.ensures.same ∙ held.stepper;
      above = spent_rest (length code * length (chars (chars_rest c.loop-c.left))) (length code * length left)
          (length code * length cs) c.args.meter.now c.loop-c.meter c.step.new.meter held.above
          (spent_next (length code) (length (chars (chars_rest c.loop-c.left))) (length left) c.loop-c.meter
          c.step.new.meter (omega (arith, ap length one)) c.step.ensures.above);
      steady = omega (arith, held.steady, c.step.ensures.steady);
      stays = λ s. rw c.swap.ensures.x_after
          (stays_on code 0 (cs ++ s) _ c.loop-c.places.items (left ++ s) _ c.in-Some.c (held.stays s)
          (ap (λ z. z ++ s) one) (rw c.deref.ensures.value at leads));
    }

pub returns-then-not-branch-clause-numbers : goal.returns-then-not-branch-clause-numbers
returns-then-not-branch-clause-numbers c =
    let code = c.args.program.now.0 in
    let left : List ℕ = chars (chars_rest c.next.new.self) in
    let held = c.loop-c.invariant in
    let one : chars (chars_rest c.loop-c.left) ≡ c.in-Some.c ∷ left =
    chars_past_char _ _ _ held.utf8 c.in-Some.ensures.steps.0 in
    let none = c.in_ok-step.ensures.nowhere (search rules) in
    let dead = rw c.deref.ensures.value at (nowhere_on code c.in-Some.c c.deref.result.now
    c.step.new.reached.items c.in_ok-step.field-0 c.in_ok-step.ensures.reaches none) in
    numbers_none code 0 (chars c.args.text.now) c.clear.new.self.items c.clear.ensures.items
    (λ s a. dead (left ++ s)
    (subst (AnyAmong code c.loop-c.places.items) (ap (λ z. z ++ s) one) ((held.stays s).0 a)))

pub returns-clause-numbers : goal.returns-clause-numbers
returns-clause-numbers c =
    let code = c.args.program.now.0 in
    let held = c.loop-c.invariant in
    let end : chars (chars_rest c.loop-c.left) ≡ [] =
    ap chars (nil_from_length _ c.in_default.ensures.steps.0.0) ∙ chars-nil in
    let ends = c.in_ok-list_ends.ensures in
    numbers_led code 0 (chars c.args.text.now) c.loop-c.places.items c.list_ends.new.numbers.items
    (λ s. subst (λ z. Accepts code 0 (chars c.args.text.now ++ s)
    ↔ AnyAmong code c.loop-c.places.items (z ++ s)) end (held.stays s))
    (rw c.deref-2.ensures.value at ends.ends, ends.ascending)

pub returns-then-not-branch-clause-above : goal.returns-then-not-branch-clause-above
returns-then-not-branch-clause-above c =
    listed_once c.args.program.now.0 (length (chars c.args.text.now)) c.args.meter.now c.step.new.meter
    (omega (arith, c.loop-c.invariant.above, c.step.ensures.above))

pub returns-clause-above : goal.returns-clause-above
returns-clause-above c =
    listed_once c.args.program.now.0 (length (chars c.args.text.now)) c.args.meter.now c.list_ends.new.meter
    (omega (arith, c.loop-c.invariant.above, c.list_ends.ensures.above))

pub returns-in_err-step-clause-above : goal.returns-in_err-step-clause-above
returns-in_err-step-clause-above c =
    listed_once c.args.program.now.0 (length (chars c.args.text.now)) c.args.meter.now c.step.new.meter
    (omega (arith, c.loop-c.invariant.above, c.step.ensures.above))

pub returns-in_err-list_ends-clause-above : goal.returns-in_err-list_ends-clause-above
returns-in_err-list_ends-clause-above c =
    listed_once c.args.program.now.0 (length (chars c.args.text.now)) c.args.meter.now c.list_ends.new.meter
    (omega (arith, c.loop-c.invariant.above, c.list_ends.ensures.above))
