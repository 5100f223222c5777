use Rattle.std.proofs.Common.{◌≡◌, ◌-◌, ◌∙◌, ℕ, List, Some, ap, length, option_copied, slice_get, subst, sym}
use Rattle.std.proofs.lemmas.Result.{IfOk-weaker}
use Rattle.wax_program.specs.Onward.{LevelFlags, PlaceFlags}
use Rattle.wax_program.proofs.Limits.{first_level, last_place, later_level, none_last}
use Rattle.wax_program.proofs.levels.Levels.next.Goals as goal

pub returns-in-Some-clause-level : goal.returns-in-Some-clause-level
returns-in-Some-clause-level c =
    let code = c.args.program.now.0 in
    let levels = c.args.self.now.levels in
    let n : ℕ = length levels - 1 in
    let e : PlaceFlags = c.in-Some.last.now in
    let same = c.deref.ensures.value ∙ ap (λ (l : LevelFlags). l.levels) c.self.view_is in
    let is : slice_get levels n ≡ Some e =
    subst (λ (z : List PlaceFlags). slice_get z (length z - 1) ≡ Some e) same
    (sym c.last.ensures.value ∙ ap option_copied c.in-Some.is) in
    IfOk-weaker c.after.result _ _
    (λ f are. later_level code levels e f are n (last_place levels e is) is (c.requires.levels.each n e is))
    c.after.ensures.flags

pub returns-in_ok-none-in-None-clause-level : goal.returns-in_ok-none-in-None-clause-level
returns-in_ok-none-in-None-clause-level c =
    let code = c.args.program.now.0 in
    let levels = c.args.self.now.levels in
    let same = c.deref.ensures.value ∙ ap (λ (l : LevelFlags). l.levels) c.self.view_is in
    let none : length levels ≡ 0 =
    subst (λ (z : List PlaceFlags). length z ≡ 0) same
    (none_last c.deref.result.now (sym (ap option_copied c.in-None.is) ∙ c.last.ensures.value)) in
    IfOk-weaker c.after-in-None.result _ _
    (λ f are. first_level code levels c.in_ok-none-in-None.none f are none c.in_ok-none-in-None.ensures.none)
    c.after-in-None.ensures.flags
