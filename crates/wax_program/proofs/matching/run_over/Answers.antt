use Rattle.std.proofs.Common.{◌≡◌, ◌≤◌, ◌+◌, ◌∷◌, [], ℕ, List, length, min, arith, ap, ◌∙◌, sym, true≢false}
use Rattle.std.proofs.{Common.{IsTrue, rules}, lemmas.List.nil_from_length}
use Rattle.std.proofs.lemmas.Str.{IsUtf8-past_char, chars-nil, chars_past_char}
use Rattle.std.specs.{Str.chars, Str.Iter.chars_rest}
use Rattle.wax_program.specs.{Machine.Accepts, Meter.most_ticks, Threads.{IsDone, Stays}}
use Rattle.wax_program.proofs.Advancing.{chars_few, stays_start, stays_step, stays_done, reads_passed}
use Rattle.wax_program.proofs.{Advancing.reads_within, Staying.absorbed}
use Rattle.wax_program.proofs.matching.run_over.Goals as goal

pub loop-c-init : goal.loop-c-init
loop-c-init g c = (
  0,
  record {
    utf8 = rw c.chars-left.ensures.rest c.utf8.text;
    whole = omega (arith, ap (λ z. length (chars z)) c.chars-left.ensures.rest);
    size = c.insert.ensures.size ∙ c.requires.size;
    read = rw c.insert.ensures.read c.requires.read;
    next = rw c.insert.ensures.next c.requires.next;
    stays = rw c.chars-left.ensures.rest (stays_start c.args.program.now.0 c.args.start
        (chars c.args.text.now) (g.R.Sets.position c.args.sets.now) (g.R.Sets.position c.insert.new.self)
        c.requires.size c.requires.pending c.requires.read c.insert.ensures);
    above = omega arith;
    below = omega arith;
    steady = omega arith;
    known = tt;
  },
)

pub returns-then-not-step-clause-decides : goal.returns-then-not-step-clause-decides
returns-then-not-step-clause-decides g c =
    let (m, held) = c.loop-c.invariant in
    let cs : List ℕ = chars c.args.text.now in
    let one : chars (chars_rest c.loop-c.left) ≡ c.in-Some.c ∷ chars (chars_rest c.next.new.self) =
    chars_past_char _ _ _ held.utf8 c.in-Some.ensures.steps.0 in
    let done : IsDone (g.R.Sets.position c.loop-c.sets) = c.step.ensures.done (search rules) in
    let none : Accepts c.args.program.now.0 c.args.start cs → ⊥ =
    stays_done c.args.program.now.0 c.args.start cs _ _ c.in-Some.c (g.R.Sets.position c.loop-c.sets) one
    held.size done held.stays in
    ((λ h. absurd (true≢false (sym h))), (λ h. absurd (none h)))

pub returns-then-not-step-clause-above : goal.returns-then-not-step-clause-above
returns-then-not-step-clause-above g c =
    let (m, held) = c.loop-c.invariant in
    reads_within (length c.args.program.now.0 + 1) m (length (chars c.args.text.now)) c.args.meter.now
    c.step.new.meter (omega (arith, held.whole)) (omega (arith, c.step.ensures.above, held.above))

pub rest-requires : goal.rest-requires
rest-requires g c = absorbed c.args.program.now.0 _ (c.absorbs.ensures (search rules))

pub returns-then-absorbs-clause-decides : goal.returns-then-absorbs-clause-decides
returns-then-absorbs-clause-decides g c =
    let (m, held) = c.loop-c.invariant in
    let code = c.args.program.now.0 in
    let cs : List ℕ = chars c.args.text.now in
    let left : List ℕ = chars (chars_rest c.next.new.self) in
    let one : chars (chars_rest c.loop-c.left) ≡ c.in-Some.c ∷ left =
    chars_past_char _ _ _ held.utf8 c.in-Some.ensures.steps.0 in
    let went : IsTrue c.step.result = search rules in
    let set = (g.R.Sets.position c.step.new.sets).pending in
    let rest : Stays code c.args.start cs left set =
    stays_step code c.args.start cs _ left (g.R.Sets.position c.loop-c.sets).pending set c.in-Some.c one
    held.stays (c.step.ensures.advances went) in
    let same = absorbed code set (c.absorbs.ensures (search rules)) left in (
      (λ h. rest.backward (same.1 (c.finish.ensures.decides.0 h))),
      (λ h. c.finish.ensures.decides.1 (same.0 (rest.onward h))),
    )

pub returns-then-absorbs-clause-above : goal.returns-then-absorbs-clause-above
returns-then-absorbs-clause-above g c =
    let (m, held) = c.loop-c.invariant in
    let left : List ℕ = chars (chars_rest c.next.new.self) in
    let one : chars (chars_rest c.loop-c.left) ≡ c.in-Some.c ∷ left =
    chars_past_char _ _ _ held.utf8 c.in-Some.ensures.steps.0 in
    let few =
    chars_few (chars_rest c.next.new.self) (IsUtf8-past_char _ _ _ held.utf8 c.in-Some.ensures.steps.0) in
    let bytes : length c.as_str.result.now ≡ length (chars_rest c.next.new.self) =
    ap length c.as_str.ensures in
    let wide : 4 ≤ length c.args.program.now.0 + 1 =
    omega (arith, c.size.ensures.size, c.if-size-ge3.true) in
    reads_passed (length c.args.program.now.0 + 1) m (length left) (length (chars c.args.text.now))
    (length c.as_str.result.now)
    c.args.meter.now c.loop-c.meter c.step.new.meter c.skip.new.self c.finish.new.meter wide
    (omega (arith, held.whole, ap length one)) (omega (arith, few.1, bytes)) held.above c.step.ensures.above
    (omega (arith, c.skip.ensures.counted)) (omega (arith, c.finish.ensures.above))

pub returns-then-absorbs-clause-below : goal.returns-then-absorbs-clause-below
returns-then-absorbs-clause-below g c = λ h.
    let (m, held) = c.loop-c.invariant in
    let left : List ℕ = chars (chars_rest c.next.new.self) in
    let one : chars (chars_rest c.loop-c.left) ≡ c.in-Some.c ∷ left =
    chars_past_char _ _ _ held.utf8 c.in-Some.ensures.steps.0 in
    let few =
    chars_few (chars_rest c.next.new.self) (IsUtf8-past_char _ _ _ held.utf8 c.in-Some.ensures.steps.0) in
    let bytes : length c.as_str.result.now ≡ length (chars_rest c.next.new.self) =
    ap length c.as_str.ensures in
    let went : IsTrue c.step.result = search rules in
    omega (
      arith,
      held.whole,
      ap length one,
      few.0,
      bytes,
      held.below,
      c.step.ensures.below went,
      c.skip.ensures.counted,
      c.finish.ensures.steady,
    )

pub loop-c-preserved : goal.loop-c-preserved
loop-c-preserved g c =
    let (m, held) = c.loop-c.invariant in
    let code = c.args.program.now.0 in
    let cs : List ℕ = chars c.args.text.now in
    let left : List ℕ = chars (chars_rest c.next.new.self) in
    let one : chars (chars_rest c.loop-c.left) ≡ c.in-Some.c ∷ left =
    chars_past_char _ _ _ held.utf8 c.in-Some.ensures.steps.0 in
    let went : IsTrue c.step.result = search rules in
    let once : min (c.loop-c.meter + 1) most_ticks ≤ c.step.new.meter = c.step.ensures.below went in (
      m + 1,
      record {
        utf8 = IsUtf8-past_char _ _ _ held.utf8 c.in-Some.ensures.steps.0;
        whole = omega (arith, held.whole, ap length one);
        size = c.step.ensures.size ∙ held.size;
        read = c.step.ensures.read;
        next = c.step.ensures.next;
        stays = stays_step code c.args.start cs _ left (g.R.Sets.position c.loop-c.sets).pending
            (g.R.Sets.position c.step.new.sets).pending c.in-Some.c one held.stays
            (c.step.ensures.advances went);
        above = omega (arith, c.step.ensures.above, held.above);
        below = omega (arith, once, held.below);
        steady = omega (arith, c.step.ensures.steady, held.steady);
        known = c.step.ensures.known;
      },
    )

pub returns-clause-decides : goal.returns-clause-decides
returns-clause-decides g c =
    let (m, held) = c.loop-c.invariant in
    let cs : List ℕ = chars c.args.text.now in
    let end : chars (chars_rest c.loop-c.left) ≡ [] =
    ap chars (nil_from_length _ c.in_default.ensures.steps.0.0) ∙ chars-nil in
    let s : Stays c.args.program.now.0 c.args.start cs [] (g.R.Sets.position c.loop-c.sets).pending =
    rw end at held.stays in
    ((λ h. s.backward (c.finish-2.ensures.decides.0 h)), (λ h. c.finish-2.ensures.decides.1 (s.onward h)))

pub returns-clause-above : goal.returns-clause-above
returns-clause-above g c =
    let (m, held) = c.loop-c.invariant in
    reads_within (length c.args.program.now.0 + 1) m (length (chars c.args.text.now)) c.args.meter.now
    c.finish-2.new.meter (omega (arith, held.whole)) (omega (arith, c.finish-2.ensures.above, held.above))

pub returns-clause-below : goal.returns-clause-below
returns-clause-below g c =
    let (m, held) = c.loop-c.invariant in
    let end : chars (chars_rest c.loop-c.left) ≡ [] =
    ap chars (nil_from_length _ c.in_default.ensures.steps.0.0) ∙ chars-nil in
    λ h. omega (arith, held.whole, ap length end, c.finish-2.ensures.steady, held.below)
