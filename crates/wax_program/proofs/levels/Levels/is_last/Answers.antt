use Rattle.std.proofs.Common.{◌≡◌, ◌-◌, ◌∙◌, ℕ, List, Some, ap, length, option_copied, slice_get, subst, sym}
use Rattle.wax_program.specs.Onward.{LevelFlags, PlaceFlags}
use Rattle.wax_program.proofs.Limits.{last_place}
use Rattle.wax_program.proofs.levels.Levels.is_last.Goals as goal

pub returns-in-Some : goal.returns-in-Some
returns-in-Some c =
    let levels = c.args.self.now.levels in
    let n : ℕ = length levels - 1 in
    let e : PlaceFlags = c.in-Some.last.now in
    let same = c.deref.ensures.value ∙ ap (λ (l : LevelFlags). l.levels) c.self.view_is in
    let is : slice_get levels n ≡ Some e =
    subst (λ (z : List PlaceFlags). slice_get z (length z - 1) ≡ Some e) same
    (sym c.last.ensures.value ∙ ap option_copied c.in-Some.is) in
    λ t. (n, e, last_place levels e is, is, c.goes_on_within.ensures t)
