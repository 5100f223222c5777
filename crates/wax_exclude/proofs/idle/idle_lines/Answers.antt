use Rattle.std.proofs.Common.{◌≡◌, ◌∙◌, ◌+◌, MatchOption, Some, ap, refl, subst, sym}
use Rattle.wax_exclude.proofs.{IdleLines.{one_decides, one_idle}, Undecided.one_undecided}
use Rattle.wax_exclude.proofs.idle.idle_lines.Goals.{in-Some+in_ok-push, in_default}
use Rattle.wax_exclude.specs.Idle.{AreIdleAmong, DecidesSome, IsReason, LineIgnores, LineMeans}
use Rattle.wax_exclude.specs.Undecided.{AreUndecided, IsUndecided}
use Rattle.wax_exclude.specs.{declared.idle.IdleReason.TheVariants.Unknown, inner.Idle.AreMatchedBy}
use Rattle.wax_exclude.proofs.idle.idle_lines.Goals as goal

pub loop-index-preserved : goal.loop-index-preserved
loop-index-preserved c =
    let lines = c.args.lines.now in
    let i = c.loop-index.index in
    let most = c.args.most_states in
    let held = c.loop-index.invariant in
    let left_open : c.in_ok-reason.field-0 ≡ Some Unknown → IsUndecided lines most i =
    rw (held.lines, held.most) at c.in_ok-reason.ensures.undecided in
    let found : MatchOption c.in_ok-reason.field-0 (DecidesSome (LineIgnores lines) (LineMeans lines) i)
    (IsReason (LineIgnores lines) (LineMeans lines) i) =
    subst (λ ls. MatchOption c.in_ok-reason.field-0 (DecidesSome (LineIgnores ls) (LineMeans ls) i)
    (IsReason (LineIgnores ls) (LineMeans ls) i)) held.lines
    c.in_ok-reason.ensures.reason in
    record {
      lines = ap (λ l. l.now) c.in_ok-reason.ensures.lines ∙ held.lines;
      numbered = subst (AreMatchedBy lines) (sym c.in_ok-reason.ensures.numbered) held.numbered;
      most = c.in_ok-reason.ensures.most ∙ held.most;
      idle = elim c.match-branch-4.branch [
        | in-Some+in_ok-push w ↦
            subst (λ v. AreIdleAmong (LineIgnores lines) (LineMeans lines) (i + 1) v.items) (sym w.idle-is)
            (one_idle (LineIgnores lines) (LineMeans lines) i c.loop-index.idle.items w.push.new.self.items
            (record { index = i; reason = w.in-Some.reason })
            w.in_ok-push.ensures.items refl
            (subst (λ o. MatchOption o (DecidesSome (LineIgnores lines) (LineMeans lines) i)
            (IsReason (LineIgnores lines) (LineMeans lines) i)) w.in-Some.is found) held.idle)
        | in_default w ↦
            subst (λ v. AreIdleAmong (LineIgnores lines) (LineMeans lines) (i + 1) v.items) (sym w.idle-is)
            (one_decides (LineIgnores lines) (LineMeans lines) i c.loop-index.idle.items
            (subst (λ o. MatchOption o (DecidesSome (LineIgnores lines) (LineMeans lines) i)
            (IsReason (LineIgnores lines) (LineMeans lines) i)) w.in_default.is found) held.idle)
      ];
      undecided = elim c.match-branch-4.branch [
        | in-Some+in_ok-push w ↦
            subst (λ v. AreUndecided lines most v.items) (sym w.idle-is)
            (one_undecided lines most c.loop-index.idle.items w.push.new.self.items
            (record { index = i; reason = w.in-Some.reason }) w.in_ok-push.ensures.items
            (λ e. left_open (w.in-Some.is ∙ ap Some e)) held.undecided)
        | in_default w ↦ subst (λ v. AreUndecided lines most v.items) (sym w.idle-is) held.undecided
      ];
    }
