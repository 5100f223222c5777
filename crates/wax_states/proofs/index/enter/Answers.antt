use Rattle.std.proofs.Common.{◌≡◌, ◌<◌, ap, arith, length, slice_index, set, subst, ◌+◌, ◌∙◌, sym}
use Rattle.std.proofs.lemmas.List.{get_or_default}
use Rattle.wax_states.specs.inner.Slots.{KeepsEntered, slot_index}
use Rattle.wax_states.proofs.Slots.{full_more, is_entered, keeps_entered}
use Rattle.wax_states.proofs.index.enter.Goals as goal

pub returns-then-index-eq0-clause-entered : goal.returns-then-index-eq0-clause-entered
returns-then-index-eq0-clause-entered c =
    let slots = c.loop-probe.slots.items in
    let at = c.slot_index-at.result in
    let long : c.len.result ≡ length slots = omega (arith, c.len.ensures, c.loop-probe.slots.ok.0) in
    let within : at < length slots = omega (arith, c.slot_index-at.ensures.within, long) in
    let empty : slice_index slots at ≡ 0 = get_or_default slots at 0 c.index.result.now within
    ∙ sym c.index.ensures ∙ c.if-index-eq0.true in
    let probe = c.loop-probe.probe in
    is_entered slots at c.args.number within empty c.args.hash probe
    (omega (
      arith,
      c.loop-probe-test.true,
      c.len-probe-end.ensures,
      ap length c.loop-probe.invariant.0,
      c.args.slots.now.ok.0,
    ))
    (c.slot_index-at.ensures.index ∙ ap (λ n. slot_index n c.args.hash probe) long)
    c.loop-probe.invariant.1

pub returns-then-index-eq0-clause-kept : goal.returns-then-index-eq0-clause-kept
returns-then-index-eq0-clause-kept c =
    let slots = c.loop-probe.slots.items in
    let at = c.slot_index-at.result in
    let long : c.len.result ≡ length slots = omega (arith, c.len.ensures, c.loop-probe.slots.ok.0) in
    let within : at < length slots = omega (arith, c.slot_index-at.ensures.within, long) in
    let empty : slice_index slots at ≡ 0 = get_or_default slots at 0 c.index.result.now within
    ∙ sym c.index.ensures ∙ c.if-index-eq0.true in
    subst (λ z. KeepsEntered z (set slots at (c.args.number + 1))) c.loop-probe.invariant.0
    (keeps_entered slots at c.args.number within empty)

pub loop-probe-preserved : goal.loop-probe-preserved
loop-probe-preserved c =
    let slots = c.loop-probe.slots.items in
    let at = c.slot_index-at.result in
    let probe = c.loop-probe.probe in
    let long : c.len.result ≡ length slots = omega (arith, c.len.ensures, c.loop-probe.slots.ok.0) in
    let within : at < length slots = omega (arith, c.slot_index-at.ensures.within, long) in (
      c.loop-probe.invariant.0,
      full_more slots c.args.hash probe
          (λ e. c.if-index-eq0.false (c.index.ensures ∙ get_or_default slots at c.index.result.now 0 within
          ∙ ap (slice_index slots) (c.slot_index-at.ensures.index
          ∙ ap (λ n. slot_index n c.args.hash probe) long) ∙ e))
          c.loop-probe.invariant.1,
    )
