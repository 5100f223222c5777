use Rattle.std.proofs.{Common.{◌∙◌, ◌++◌, ap, inl, inr, sym, true≢false}, lemmas.Bool.Decides.Decides-eqb}
use Rattle.std.proofs.lemmas.Slice.Eq.{starts_is}
use Rattle.wax_set.proofs.Edges.{bytes_begin_so}
use Rattle.wax_set.proofs.set.edges.may_begin.Goals as goal

pub returns-else-starts_with : goal.returns-else-starts_with
returns-else-starts_with c = λ text f s.
    let first = c.as_bytes-first.result.now in
    let second = c.as_bytes-second.result.now in
    let one = c.as_bytes-first.ensures.value in
    let other = c.as_bytes-second.ensures.value in
    elim (bytes_begin_so c.args.first.now c.args.second.now text c.utf8.first c.utf8.second f s) [
      | inl (rest, e) ↦ absurd (true≢false (sym
          ((starts_is Decides-eqb first second c.starts_with.result c.starts_with.ensures.value).1 rest
          (one ∙ e ∙ ap (λ z. z ++ rest) (sym other))) ∙ c.if-starts_with.false))
      | inr (rest, e) ↦
          (starts_is Decides-eqb second first c.starts_with-else-starts_with.result
          c.starts_with-else-starts_with.ensures.value).1 rest (other ∙ e ∙ ap (λ z. z ++ rest) (sym one))
    ]
