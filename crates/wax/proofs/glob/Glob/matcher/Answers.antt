use Rattle.std.proofs.Common.{◌<◌, ◌↔◌, List, ℕ, IfSome, ap, chars, false, length, subst, sym}
use Rattle.wax_prefilter.specs.{Compiled.IsCompiled, Within.IsInFolder}
use Rattle.wax_token.specs.{Cost.program_length, Meaning.Means}
use Rattle.wax.specs.Matching.{AcceptsMeant}
use Rattle.wax.proofs.Folders.{folder_meant}
use Rattle.wax.proofs.glob.Glob.matcher.Goals as goal

pub invariant_of-held : goal.invariant_of-held
invariant_of-held c =
    let compiled = c.self.inside.compiled in
    let is : IsCompiled c.args.self.now.tree compiled =
    subst (λ t. IsCompiled t compiled) (ap (λ g. g.tree) c.self.view_is) c.self.invariant.compiled in (
      subst (λ code. AcceptsMeant code c.args.self.now) (sym c.in_ok-matcher.ensures) is.accepts,
      subst (λ t. IfSome c.folder_of-folder.result (λ folder. (text : List ℕ)
          → Means t false false text ↔ IsInFolder (chars folder.now) text)) c.token.ensures.same
          (folder_meant c.token.result.now _ c.folder_of-folder.result c.concatenation.ensures
          c.folder_of-folder.ensures),
      subst (λ code. length code < program_length c.args.self.now.tree) (sym c.in_ok-matcher.ensures)
          (subst (λ n. length compiled.0 < n) is.len is.longer),
    )

pub invariant_of-result : goal.invariant_of-result
invariant_of-result c = λ known text.
    subst (λ t. Means t false false text) c.token-2.ensures.same (c.is_everything.ensures.all known text)
