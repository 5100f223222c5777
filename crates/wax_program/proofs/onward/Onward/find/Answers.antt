use Rattle.std.proofs.Common.{◌≡◌, ◌∷◌, [], Contains, length, arith, inl, inr, sym, ◌∙◌, subst, ap}
use Rattle.std.proofs.{lemmas.List.length-append, lemmas.List.Elements.{Contains-append_left, Contains-push}}
use Rattle.std.specs.Option.{option_copied}
use Rattle.wax_program.specs.{declared.onward.Ahead.TheVariants.Rest, inner.Leads.Holds}
use Rattle.wax_program.specs.inner.Spreads.{AreSpread, Spreads}
use Rattle.wax_program.proofs.{Leading.flags_are, Marking.begins_soundly}
use Rattle.wax_program.proofs.Settling.{length_zero, none_due, spread_closed, spread_popped}
use Rattle.wax_program.proofs.onward.Onward.find.Goals as goal

pub insert-requires-clause-missing : goal.insert-requires-clause-missing
insert-requires-clause-missing c = λ h. c.in_ok-onward.ensures.none Rest c.size.result h

pub returns-in_err-jumps-clause-above : goal.returns-in_err-jumps-clause-above
unfolding Rattle.wax_program.specs.Visits.flags_visits
returns-in_err-jumps-clause-above c = omega (arith, c.new.ensures.above)

pub returns-in_err-spread_to_all-clause-above : goal.returns-in_err-spread_to_all-clause-above
unfolding Rattle.wax_program.specs.Visits.flags_visits
returns-in_err-spread_to_all-clause-above c =
    omega (arith, c.new.ensures.above, c.spread_to_all.ensures.above)

pub loop-at-init : goal.loop-at-init
loop-at-init c =
    let code = c.args.basis.now.program.now.0 in
    let o = option_copied c.args.basis.now.earlier in
    let marks = c.insert.ensures.marks in
    let first = c.new-spreading.result in
    let spreads = c.in_ok-spread_to_all.ensures.spreads in
    let same = c.new-spreading.ensures.onward in
    let gains = subst (λ f. Spreads code o f first.due.items c.spread_to_all.new.self.onward
    c.spread_to_all.new.self.due.items) same spreads in
    let sound = begins_soundly code o c.in_ok-onward.onward c.insert.new.self c.size.result
    c.in_ok-onward.ensures.none marks c.size.ensures.size in
    let none : length first.due.items ≡ 0 = ap length c.new-spreading.ensures.due in
    record {
      size = gains.gains.size ∙ marks.size ∙ c.in_ok-onward.ensures.size;
      few = c.spread_to_all.ensures.few;
      sound = gains.gains.sound sound;
      end = gains.gains.keeps Rest _ (subst (Holds c.insert.new.self Rest) c.size.ensures.size marks.has);
      spread = c.in_ok-spread_to_all.ensures.spread;
      below = λ k due. elim (gains.below k due) [
        | inl old ↦ absurd (none_due k (subst (λ xs. Contains xs k) c.new-spreading.ensures.due old))
        | inr lt ↦ lt
      ];
      above = omega (arith, c.new.ensures.above, c.spread_to_all.ensures.above, gains.paid, none);
      steady = omega (arith, c.new.ensures.steady, c.spread_to_all.ensures.steady);
    }

pub spread_from-requires-clause-below : goal.spread_from-requires-clause-below
spread_from-requires-clause-below c =
    c.loop-at.invariant.below c.in-Some.at
    (subst (λ xs. Contains xs c.in-Some.at) (sym c.in-Some.ensures.items)
    (Contains-push c.pop.new.self.items c.in-Some.at))

pub spread_from-requires-clause-spread : goal.spread_from-requires-clause-spread
spread_from-requires-clause-spread c =
    spread_popped c.args.basis.now.program.now.0 (option_copied c.args.basis.now.earlier)
    c.loop-at.spreading.onward c.loop-at.spreading.due.items c.pop.new.self.items c.in-Some.at
    c.in-Some.ensures.items c.loop-at.invariant.spread

pub loop-at-preserved : goal.loop-at-preserved
loop-at-preserved c =
    let held = c.loop-at.invariant in
    let spreads = c.in_ok-spread_from.ensures.spreads in
    let at = c.in-Some.at in
    let rest = c.pop.new.self.items in
    let popped = ap length c.in-Some.ensures.items ∙ length-append rest (at ∷ []) in
    record {
      size = spreads.gains.size ∙ held.size;
      few = c.spread_from.ensures.few;
      sound = spreads.gains.sound held.sound;
      end = spreads.gains.keeps Rest _ held.end;
      spread = c.in_ok-spread_from.ensures.spread;
      below = λ k due. elim (spreads.below k due) [
        | inl old ↦ held.below k (subst (λ xs. Contains xs k) (sym c.in-Some.ensures.items)
            (Contains-append_left rest (at ∷ []) k old))
        | inr lt ↦ lt
      ];
      above = omega (arith, held.above, c.spread_from.ensures.above, spreads.paid, popped);
      steady = omega (arith, held.steady, c.spread_from.ensures.steady);
    }

pub returns-in_err-spread_from-clause-above : goal.returns-in_err-spread_from-clause-above
unfolding Rattle.wax_program.specs.Visits.flags_visits
returns-in_err-spread_from-clause-above c =
    let held = c.loop-at.invariant in
    let popped = ap length c.in-Some.ensures.items ∙ length-append c.pop.new.self.items (c.in-Some.at ∷ []) in
    omega (
      arith,
      held.above,
      held.size,
      c.spread_from.ensures.above,
      c.spread_from.ensures.few,
      c.spread_from.ensures.size,
      popped,
    )

pub returns-clause-flags : goal.returns-clause-flags
returns-clause-flags c =
    let code = c.args.basis.now.program.now.0 in
    let o = option_copied c.args.basis.now.earlier in
    let held = c.loop-at.invariant in
    let onward = c.loop-at.spreading.onward in
    let none : c.loop-at.spreading.due.items ≡ [] =
    length_zero _ (omega (arith, c.in_default.ensures.cases)) in
    let closed = spread_closed code o onward
    (subst (λ xs. AreSpread code o onward (Contains xs)) none held.spread) in
    λ most earlier. flags_are code most o onward earlier (λ k lt. closed k) held.end (held.sound most earlier)

pub returns-clause-above : goal.returns-clause-above
unfolding Rattle.wax_program.specs.Visits.flags_visits
returns-clause-above c =
    let held = c.loop-at.invariant in omega (arith, held.above, held.few, held.size)
