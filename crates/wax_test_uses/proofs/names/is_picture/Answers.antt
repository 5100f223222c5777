use Rattle.std.proofs.Common.{◌↔◌, IsTrue, chars, subst}
use Rattle.wax.specs.GlobView.{IsMeant}
use Rattle.wax_test_uses.proofs.{Meanings.through, Pictures.is_picture}
use Rattle.wax_test_uses.proofs.names.is_picture.Goals as goal

pub returns : goal.returns
returns c =
    let s = chars c.args.path.now in
    let means : IsTrue c.in_ok-is_match.field-0 ↔ IsMeant c.in_ok-glob.glob s =
    subst (λ v. IsTrue c.in_ok-is_match.field-0 ↔ IsMeant c.in_ok-glob.glob v) c.from.ensures
    c.in_ok-is_match.ensures.means in
    through means (is_picture c.in_ok-glob.glob.tree c.in_ok-glob.ensures.build.only s)
