use Rattle.std.proofs.Common.{◌≡◌, ◌≤◌, ◌+◌, ℕ, List}
use Rattle.wax_walk.specs.{Forest.Pending, Given.Given}
use Rattle.wax_tree.proofs.{CourseRuns.CourseSoFar, Lead.ListsBetween, Listing.AccountsSoFar}
use Rattle.wax_tree.specs.{Reaching.MayReach, Stepping.{items_left, steps_left}}
use Rattle.wax_tree.specs.Walking.{PlainToCome, allowance, names_left, HasStopped}
use Rattle.wax_tree.proofs.steps.Steps.run.Given as goal

abbrev pub invariant-loop-item : goal.invariant-loop-item
invariant-loop-item g l =
    let law = g.D.Directory.law in
    record {
      fewer : items_left l.self ≤ items_left l.fn.self;
      stays : HasStopped l.fn.self → HasStopped l.self;
      idles : HasStopped l.fn.self → l.self.directory ≡ l.fn.self.directory;
      names : names_left l.self ≤ names_left l.fn.self;
      accounts : AccountsSoFar law l.fn.self l.self;
      course : CourseSoFar law l.fn.self l.self;
      above : l.self.max ≡ l.fn.self.max;
      from : l.self.min ≡ l.fn.self.min;
      reaches : (path : List ℕ) (n : ℕ) → MayReach l.self path n → MayReach l.fn.self path n;
      leads : (p : Pending Given) → PlainToCome law l.fn.self p
          → (q : Pending Given) × PlainToCome law l.self q × ListsBetween p q ×
          (q.items + allowance l.fn.self ≤ p.items + allowance l.self);
    }

abbrev pub decreases-loop-item : goal.decreases-loop-item
decreases-loop-item g l = steps_left l.self
