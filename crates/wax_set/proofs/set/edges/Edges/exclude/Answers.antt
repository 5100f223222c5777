use Rattle.std.proofs.Common.{◌≡◌, ◌∙◌, ap, chars, not, subst, sym, true, true≢false}
use Rattle.wax_set.specs.inner.Edges.{AreEnds, HasBeginning}
use Rattle.wax_set.proofs.set.edges.Edges.exclude.Goals.{then-may_begin, else-may_begin}
use Rattle.wax_set.proofs.set.edges.Edges.exclude.Goals as goal

pub returns : goal.returns
returns c = λ yes text one other.
    let begins : c.may_begin.result ≡ true = c.may_begin.ensures text
    (subst (λ s. HasBeginning (chars s) text) (sym c.deref.ensures) one.beginning)
    (subst (λ s. HasBeginning (chars s) text) (sym c.deref-2.ensures) other.beginning) in
    elim c.if-may_begin.branch [
      | then-may_begin w ↦
          let ends : w.may_end.result ≡ true = w.may_end.ensures text
          (subst (λ es. AreEnds es text) (sym w.deref-then-may_begin.ensures.value) one.ends)
          (subst (λ es. AreEnds es text) (sym w.deref-then-may_begin-2.ensures.value) other.ends) in
          true≢false (sym yes ∙ ap not (w.result-is ∙ ends))
      | else-may_begin w ↦ true≢false (sym begins ∙ w.if-may_begin.false)
    ]
