-- A walk is seen as itself.
use Rattle.std.proofs.Common.{refl}
use Rattle.wax_walk.specs.View.{IsSeenAs, WalkView}

pub seen_itself : {D : Type 0} (v : WalkView D) → IsSeenAs v v
seen_itself v = record {
  to_come = λ p h. h;
  may_come = λ a i. i;
  directory = refl;
  listings_left = refl;
  names_left = refl;
  to_begin = refl;
  listings_open = refl;
  to_open = refl;
  may_open = refl;
  yields_from = refl;
  may_fail = λ path depth h. h;
  may_fail_below = λ path depth h. h;
  ends = λ h. h;
  idles = λ h. h;
}
