use Rattle.std.proofs.Common.{◌≡◌, false, chars, sym, ap, subst}
use Rattle.wax_token.specs.{Decided.means_tested, Meaning.Means}
use Rattle.wax.proofs.glob.owned.GlobCachedGlob.earliest_end.Goals as goal

pub returns : goal.returns
returns c = λ x y z e utf8 accepted.
    let tree : c.self.inside.checked.token ≡ c.args.self.now.tree = ap (λ g. g.tree) c.self.view_is in
    let meant : Means c.args.self.now.tree false false (chars y) =
    (means_tested c.args.self.now.tree false false (chars y)).0 accepted in
    c.earliest_end.ensures x y z e utf8 ((c.self.invariant.compiled.accepts (chars y)).1
    (subst (λ t. Means t false false (chars y)) (sym tree) meant))
