use Rattle.std.proofs.{Common.{◌∙◌, ◌++◌, ap, inl, inr, sym, true≢false}, lemmas.Bool.Decides.Decides-eqb}
use Rattle.std.proofs.lemmas.Slice.Eq.{ends_is}
use Rattle.wax_set.proofs.Edges.{bytes_end_so}
use Rattle.wax_set.proofs.set.edges.both_may_end.Goals as goal

pub returns-else-ends_with : goal.returns-else-ends_with
returns-else-ends_with c = λ text f s.
    let first = c.as_bytes-first.result.now in
    let second = c.as_bytes-second.result.now in
    let one = c.as_bytes-first.ensures.value in
    let other = c.as_bytes-second.ensures.value in
    elim (bytes_end_so c.args.first.now c.args.second.now text c.utf8.first c.utf8.second f s) [
      | inl (front, e) ↦ absurd (true≢false (sym
          ((ends_is Decides-eqb first second c.ends_with.result c.ends_with.ensures.value).1 front
          (one ∙ e ∙ ap (λ z. front ++ z) (sym other))) ∙ c.if-ends_with.false))
      | inr (front, e) ↦
          (ends_is Decides-eqb second first c.ends_with-else-ends_with.result
          c.ends_with-else-ends_with.ensures.value).1 front (other ∙ e ∙ ap (λ z. front ++ z) (sym one))
    ]
