use Rattle.std.proofs.Common.{◌<◌, ◌≤◌, None, length, inl, inr, refl, sym, ◌∙◌, subst, arith}
use Rattle.std.proofs.{lemmas.Bool.{cases_eq, cases_lt}, lemmas.List.get_or_read_under}
use Rattle.std.proofs.lemmas.Option.{slice_get_within}
use Rattle.std.specs.Option.{option_copied}
use Rattle.wax_program.specs.{inner.Jumps.IsUpTo, inner.Leads.Holds}
use Rattle.wax_program.proofs.{Jumping.rank_smaller, Settling.{spreads_both, spreads_none}}
use Rattle.wax_program.proofs.spreading.Spreading.spread_to_jumps.Goals as goal

pub loop-next-init : goal.loop-next-init
loop-next-init c =
    let code = c.args.basis.now.program.now.0 in
    let o = option_copied c.args.basis.now.earlier in
    let at = c.args.at in
    let links = c.args.jumps.now.last.items in
    let room : at < length links = omega (arith, c.requires.below, c.requires.jumps.last_room) in
    let value = get_or_read_under links at (length links) c.index-next.result.now None
    c.index-next.ensures room refl in
    record {
      few = c.requires.few;
      spreads = spreads_none code o c.args.self.now.onward c.args.self.now.onward c.args.self.now.due.items
          refl;
      jump = λ j e. let (leads, _) = c.requires.jumps.last_is at j (sym value ∙ e) in leads;
      reached = λ m j (i, is, leads) beyond h. absurd (beyond (subst (IsUpTo j) (sym value)
          (c.requires.jumps.all_last at j (i, is, leads) (slice_get_within code j i is)
          (omega (arith, c.requires.below)))));
      above = omega arith;
      steady = omega arith;
    }

pub index-next-requires-in-Some : goal.index-next-requires-in-Some
index-next-requires-in-Some c =
    let code = c.args.basis.now.program.now.0 in
    let (i, is, leads) = c.loop-next.invariant.jump c.in-Some.jump c.in-Some.is in
    omega (arith, slice_get_within code c.in-Some.jump i is, c.requires.jumps.before_room)

pub loop-next-smaller : goal.loop-next-smaller
loop-next-smaller c =
    let code = c.args.basis.now.program.now.0 in
    let jump = c.in-Some.jump in
    let links = c.args.jumps.now.before.items in
    let leads = c.loop-next.invariant.jump jump c.in-Some.is in
    let (i, is, _) = leads in
    let room : jump < length links =
    omega (arith, slice_get_within code jump i is, c.requires.jumps.before_room) in
    let value = get_or_read_under links jump (length links) c.index-next-in-Some.result.now None
    c.index-next-in-Some.ensures room refl in
    rank_smaller c.loop-next.next c.index-next-in-Some.result.now jump c.in-Some.is
    (λ j e. let (_, less) = c.requires.jumps.before_is c.args.at jump j leads (sym value ∙ e) in less)

pub loop-next-preserved : goal.loop-next-preserved
loop-next-preserved c =
    let code = c.args.basis.now.program.now.0 in
    let o = option_copied c.args.basis.now.earlier in
    let at = c.args.at in
    let held = c.loop-next.invariant in
    let jump = c.in-Some.jump in
    let links = c.args.jumps.now.before.items in
    let leads = held.jump jump c.in-Some.is in
    let (i, is, _) = leads in
    let below = slice_get_within code jump i is in
    let room : jump < length links = omega (arith, below, c.requires.jumps.before_room) in
    let value = get_or_read_under links jump (length links) c.index-next-in-Some.result.now None
    c.index-next-in-Some.ensures room refl in
    let old = c.loop-next.self in
    let new = c.spread_to_jump.new.self in
    let one = c.in_ok-spread_to_jump.ensures.spreads in
    record {
      few = c.spread_to_jump.ensures.few;
      spreads = spreads_both code o c.args.self.now.onward c.args.self.now.due.items old.onward old.due.items
          new.onward new.due.items held.spreads one;
      jump = λ j e. let (to, _) = c.requires.jumps.before_is at jump j leads (sym value ∙ e) in to;
      reached = λ m j to beyond h. elim (cases_eq j jump) [
        | inl e ↦ subst (Holds new.onward m) (sym e)
            (c.spread_to_jump.ensures.reached m (held.spreads.gains.keeps m at h))
        | inr ne ↦ elim (cases_lt j jump) [
          | inl less ↦ absurd (beyond (subst (IsUpTo j) (sym value)
              (c.requires.jumps.all_before at jump j leads below (omega (arith, c.requires.below)) to less)))
          | inr more ↦ one.gains.keeps m j (held.reached m j to (λ up.
              let le : j ≤ jump = subst (IsUpTo j) c.in-Some.is up in omega (arith, le, more, ne)) h)
        ]
      ];
      above = omega (arith, held.above, c.spread_to_jump.ensures.above);
      steady = omega (arith, held.steady, c.spread_to_jump.ensures.steady);
    }
