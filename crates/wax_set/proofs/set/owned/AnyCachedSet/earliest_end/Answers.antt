use Rattle.std.proofs.Common.{false, chars, sym, subst}
use Rattle.wax_token.specs.{Decided.means_tested, Meaning.Means}
use Rattle.wax_set.proofs.set.owned.AnyCachedSet.earliest_end.Goals as goal

pub returns : goal.returns
returns c = λ x y z e utf8 accepted.
    let meant : Means c.args.self.now false false (chars y) =
    (means_tested c.args.self.now false false (chars y)).0 accepted in
    let here : Means c.self.inside.token false false (chars y) =
    subst (λ t. Means t false false (chars y)) (sym c.self.view_is) meant in
    c.earliest_end.ensures x y z e utf8 ((c.self.invariant.compiled.accepts (chars y)).1 here)
