use Rattle.std.proofs.Common.{◌≡◌, ◌≤◌, ◌∙◌, IfOk, ap, subst, sym}
use Rattle.wax_token.specs.Cost.{program_length}
use Rattle.wax_set.specs.{Conflicts.AreConflicts, inner.Conflicts.set_tree}
use Rattle.wax_set.proofs.set.Any.conflicts.Goals as goal

pub new-requires : goal.new-requires
new-requires c = subst (λ t. program_length t ≤ 1048576) (sym c.as_ref.ensures.same ∙ c.branches_of.ensures)
    c.self.invariant.compiled.fits

pub returns : goal.returns
returns c =
    let found = c.conflicts.result in
    let patterns = c.in_ok-patterns.patterns in
    let same : set_tree patterns.branches.now ≡ c.args.self.now =
    ap set_tree c.in_ok-patterns.ensures.branches ∙ sym c.branches_of.ensures ∙ c.as_ref.ensures.same
    ∙ c.self.view_is in
    subst (λ t. IfOk found (λ v. AreConflicts t c.args.most_states v.items)) same
    (subst (λ most. IfOk found (λ v. AreConflicts (set_tree patterns.branches.now) most v.items))
    c.in_ok-patterns.ensures.most c.conflicts.ensures)
