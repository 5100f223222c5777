use Rattle.std.proofs.Common.{◌↔◌, List, ℕ, IfSome, chars, false, subst}
use Rattle.wax_prefilter.specs.Within.{IsInFolder}
use Rattle.wax_token.specs.Meaning.{Means}
use Rattle.wax.proofs.Folders.{folder_meant}
use Rattle.wax.proofs.glob.owned.GlobCachedGlob.folder.Goals as goal

pub returns : goal.returns
returns c =
    subst (λ t. IfSome c.folder_of.result (λ folder. (text : List ℕ)
    → Means t false false text ↔ IsInFolder (chars folder.now) text)) c.token.ensures.same
    (folder_meant c.token.result.now _ c.folder_of.result c.concatenation.ensures c.folder_of.ensures)
