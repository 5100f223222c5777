use Rattle.std.proofs.Common.{◌≡◌, ◌+◌, ◌<◌, ℕ, None, Some, length, set, arith, refl, sym, ◌∙◌, subst}
use Rattle.std.proofs.lemmas.List.{get_or_read_under}
use Rattle.wax_program.specs.inner.Jumps.{AreJumpsBelow}
use Rattle.wax_program.proofs.Jumping.{linked, none_more, some_is, target_of}
use Rattle.wax_program.proofs.jumps.Jumps.new.Goals.{in-Some+then-to-len, in-Some+else-to-len, in_default}
use Rattle.wax_program.proofs.jumps.Jumps.new.Goals as goal

pub loop-at-preserved : goal.loop-at-preserved
loop-at-preserved c =
    let held = c.loop-at.invariant in
    let code = c.args.program.now.0 in
    let at = c.loop-at.at in
    let last = c.loop-at.last.items in
    let before = c.loop-at.before.items in
    let is = c.read.ensures.instruction in
    let none : ((to : ℕ) → c.target.result ≡ Some to → length code < to)
    → AreJumpsBelow code (at + 1) last before
    = λ far. none_more code at last before held.jumps (λ k jump le.
    let h = far k (c.target.ensures.all k (target_of code at k _ is jump)
    (omega (arith, le, c.read.ensures.small))) in
    omega (arith, h, le)) in
    record {
      jumps = elim c.match-target.branch [
        | in-Some+then-to-len w ↦
            let to = w.in-Some.to in
            let within : to < length last = omega (arith, w.if-to-len.true, w.len-in-Some.ensures) in
            let value = get_or_read_under last to (length last) w.index.result.now None w.index.ensures within
            refl in
            subst (λ l. AreJumpsBelow code (at + 1) l.items c.match-target.before.items) (sym w.last-is)
            (subst (λ b. AreJumpsBelow code (at + 1) (set last to (Some at)) b.items) (sym w.before-is)
            (subst (λ x. AreJumpsBelow code (at + 1) (set last to (Some at)) (set before at x)) (sym value)
            (linked code at last before held.jumps to (c.read.result.now, is, w.in-Some.ensures.is) within)))
        | in-Some+else-to-len w ↦
            subst (λ l. AreJumpsBelow code (at + 1) l.items c.match-target.before.items) (sym w.last-is)
            (subst (λ b. AreJumpsBelow code (at + 1) last b.items) (sym w.before-is)
            (none (λ k e. let same = some_is w.in-Some.to k (sym w.in-Some.is ∙ e) in
            omega (arith, same, w.if-to-len.false, w.len-in-Some.ensures, held.jumps.last_room))))
        | in_default w ↦
            subst (λ l. AreJumpsBelow code (at + 1) l.items c.match-target.before.items) (sym w.last-is)
            (subst (λ b. AreJumpsBelow code (at + 1) last b.items) (sym w.before-is)
            (none (λ k e. absurd (w.in_default.not-Some k e))))
      ];
      above = omega (arith, held.above, c.read.ensures.counted);
      steady = omega (arith, held.steady, c.read.ensures.steady);
    }

pub returns-clause-jumps : goal.returns-clause-jumps
returns-clause-jumps c =
    let size = length c.args.program.now.0 in
    let ends : c.loop-at.at ≡ size = omega (arith, c.loop-at-test.false, c.size-at-end.ensures.size) in
    subst (λ n. AreJumpsBelow c.args.program.now.0 n c.loop-at.last.items c.loop-at.before.items) ends
    c.loop-at.invariant.jumps
