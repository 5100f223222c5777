-- A walk for whose start allocation may have failed.
use Rattle.std.specs.Prelude.{◌≡◌, ◌⊎◌, ℕ, ◌+◌, Bool, cond, true, false}
use Rattle.wax_directory.specs.Law.{Law}
use Rattle.wax_walk.specs.{Forest.Pending, Course.{Ahead, IsStartOf, stop, yields}, Given.{Given, no_memory}}
use Rattle.wax_walk.specs.View.{WalkView, is_above}
use Rattle.wax_tree.specs.{declared.walk_tree.WalkTree.WalkTree, Reaching.{MayFailAt, MayFailBelow}}
use Rattle.wax_tree.specs.Stepping.{items_left}
use Rattle.wax_tree.specs.Walking.{PlainToCome, HasStopped, allowance, names_left, begins, open_lists}
use Rattle.wax_tree.specs.Walking.{MayBeAhead, entering}

-- what is to come: anything, if allocation failed and that error wasn't yielded yet
pub data MayCome {D C : Type 0} (law : Law D C) (w : WalkTree D C) (p : Pending Given) : Type 0 where
  lacks : w.lacks_memory ≡ true → law.tells w.steps.directory p.listed → MayCome law w p
  goes : w.lacks_memory ≡ false → PlainToCome law w.steps p → MayCome law w p

-- what may be ahead: the error, if allocation failed and that wasn't yielded yet
abbrev pub AheadUnlessLacking : Bool → Type 0 → Ahead → Type 0
AheadUnlessLacking true ahead a = IsStartOf a.below stop × IsStartOf a.after (yields no_memory stop stop)
AheadUnlessLacking false ahead a = ahead

-- the view of the walk
abbrev pub tree_view : {D C : Type 0} → Law D C → WalkTree D C → WalkView D
tree_view law w = record {
  to_come = MayCome law w;
  may_come = λ a. AheadUnlessLacking w.lacks_memory (MayBeAhead w.steps a) a;
  directory = w.steps.directory;
  listings_left = allowance w.steps;
  names_left = names_left w.steps;
  to_begin = begins w.steps;
  listings_open = open_lists w.steps;
  to_open = entering w.steps;
  may_open = is_above w.steps.max;
  yields_from = w.steps.min;
  may_fail = MayFailAt w.steps;
  may_fail_below = MayFailBelow w.steps;
  has_ended = (w.lacks_memory ≡ false) × HasStopped w.steps;
  is_idle = (w.lacks_memory ≡ true) ⊎ HasStopped w.steps;
}

-- at most how many items it has yet to yield
abbrev pub gives_at_most : {D C : Type 0} → WalkTree D C → ℕ
gives_at_most w = items_left w.steps + cond w.lacks_memory 1 0
