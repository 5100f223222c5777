use Rattle.std.proofs.Common.{◌≡◌, List, ℕ, ap, subst}
use Rattle.wax_directory.specs.Law.{Law}
use Rattle.wax_token.specs.{Reads.Span, Syntax.Tree}
use Rattle.wax_tree.specs.{Begins.behavior_range, declared.steps.DepthRange.DepthRange}
use Rattle.wax_walk.specs.View.{WalkView}
use Rattle.wax.specs.GlobWalks.{BeginsGlob}
use Rattle.wax.proofs.glob.Glob.walk.Goals as goal

begins_in : {D C : Type 0} (t : Tree Span) (law : Law D C) (d : D) (start : List ℕ) (view : WalkView D)
    (asked other : DepthRange) → asked ≡ other → BeginsGlob t law d start asked view
    → BeginsGlob t law d start other view
begins_in t law d start view asked other same = subst (λ range. BeginsGlob t law d start range view) same

pub returns-clause-begins : goal.returns-clause-begins
returns-clause-begins g c =
    begins_in c.args.self.now.tree g.D.Directory.law c.args.directory c.args.start.now _ _ _
    (ap behavior_range c.default.ensures) c.walk_in.ensures.begins
