use Rattle.std.proofs.Common.{◌↔◌, List, ℕ, IfSome, chars, subst}
use Rattle.wax_prefilter.specs.Within.{IsInFolder}
use Rattle.wax.specs.GlobView.{IsMeant}
use Rattle.wax.proofs.glob.borrowed.BorrowedGlobCachedGlob.folder.Goals as goal

pub returns : goal.returns
returns c = subst (λ g. IfSome c.self.inside.folder (λ folder. (text : List ℕ)
    → IsMeant g text ↔ IsInFolder (chars folder.now) text)) c.self.view_is c.self.invariant.1
