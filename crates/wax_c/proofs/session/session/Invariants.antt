use Rattle.std.proofs.Common.{◌≡◌, Some, map, take}
use Rattle.wax.specs.GlobView.{GlobView}
use Rattle.wax_c.specs.Sessions.{AnswersEach}
use Rattle.wax_c.proofs.session.session.Given as goal

-- the handle stays as it was, and its glob was asked about each path before this one
abbrev pub invariant-loop-index : goal.invariant-loop-index
invariant-loop-index l = record {
  same : l.handle ≡ l.initial.handle;
  answered : (g : GlobView) → l.initial.handle.held ≡ Some g
      → AnswersEach g (take l.index (map (λ path. path.now) l.paths)) l.answers.items;
}
