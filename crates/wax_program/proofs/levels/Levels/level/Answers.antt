use Rattle.std.proofs.Common.{◌≡◌, ◌-◌, ◌≤◌, ◌+◌, ℕ, List, Some, ap, arith, get_or, length, refl, slice_get}
use Rattle.std.proofs.{Common.subst, lemmas.Option.slice_get_read}
use Rattle.wax_program.specs.Onward.{LevelFlags, PlaceFlags}
use Rattle.wax_program.proofs.Limits.{flags_beyond, some_levels}
use Rattle.wax_program.proofs.levels.Levels.level.Goals as goal

pub returns : goal.returns
returns c =
    let l = c.args.self.now in
    let i = c.self.inside in
    let n : ℕ = length l.levels - 1 in
    let f : PlaceFlags = c.index-2.result.now in
    let same = ap (λ (z : LevelFlags). z.levels) c.self.view_is in
    let past : length l.levels ≤ c.args.most =
    omega (arith, c.if-most-len.false, c.len.ensures, ap length same) in
    let long : length l.levels ≡ n + 1 = some_levels l c.args.most c.requires past in
    let items : List PlaceFlags = i.levels.items in
    let count : c.len-2.result ≡ length items = omega (arith, c.len-2.ensures) in
    let here : f ≡ get_or items (length items - 1) f =
    subst (λ k. f ≡ get_or items (k - 1) f) count c.index-2.ensures in
    let is : slice_get l.levels n ≡ Some f =
    subst (λ (z : List PlaceFlags). slice_get z (length z - 1) ≡ Some f) same
    (slice_get_read items (length items) (length items - 1) f refl (omega (arith, long, ap length same))
    here) in
    λ code are. flags_beyond code l n c.args.most f are c.requires past long is
