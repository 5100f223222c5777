use Rattle.std.proofs.Common.{◌↔◌, List, ℕ, IfSome, chars, subst}
use Rattle.wax_prefilter.specs.Within.{IsInFolder}
use Rattle.wax.specs.GlobView.{IsMeant}
use Rattle.wax.proofs.glob.matcher.CachedGlobMatcher.folder.Goals as goal

pub returns : goal.returns
returns g c = subst (λ v. IfSome c.folder.result (λ folder. (text : List ℕ)
    → IsMeant v text ↔ IsInFolder (chars folder.now) text)) c.self.view_is c.folder.ensures
