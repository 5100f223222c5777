use Rattle.std.proofs.{Common.subst, lemmas.Option.none-some}
use Rattle.std.specs.{Bool.MatchBool, Prelude.MatchOption}
use Rattle.wax_exclude.specs.{Idle.{HasEffect, LineIgnores, LineMeans, TakesNothing}, Undecided.IsUndecided}
use Rattle.wax_exclude.specs.inner.Idle.{IsCovering}
use Rattle.wax_exclude.proofs.idle.Lines.reason.Goals as goal

pub returns-in-Missing : goal.returns-in-Missing
returns-in-Missing c =
    let index = c.args.index in
    let lines = c.covering.new.self.lines.now in
    let most = c.covering.new.self.most_states in
    let known = c.in_ok-covering.ensures in
    let effect : HasEffect (LineIgnores lines) (LineMeans lines) index =
    subst (λ b. MatchBool b (HasEffect (LineIgnores lines) (LineMeans lines) index)
    (TakesNothing (LineIgnores lines) (LineMeans lines) index)) c.if-not-has_effect.false
    (subst (λ o. MatchOption o (IsUndecided lines most index)
    (λ b. MatchBool b (HasEffect (LineIgnores lines) (LineMeans lines) index)
    (TakesNothing (LineIgnores lines) (LineMeans lines) index)))
    c.in-Some.is c.in_ok-has_effect.ensures) in
    record {
      lines = known.lines;
      numbered = known.numbered;
      most = known.most;
      reason = (
        subst (IsCovering c.args.self.now.lines.now c.args.self.now.most_states index) c.in-Missing.is
            known.covering,
        subst (λ l. HasEffect (LineIgnores l.now) (LineMeans l.now) index) known.lines effect,
      );
      undecided = λ e. absurd (none-some _ e);
    }
