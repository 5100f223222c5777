use Rattle.std.proofs.Common.{◌∙◌, sym, true≢false}
use Rattle.wax_set.proofs.{Edges.known_ends, set.edges.may_end.Goals.{then-is_empty, else-is_empty}}
use Rattle.wax_set.proofs.set.edges.may_end.Goals as goal

pub returns-else-is_empty-2 : goal.returns-else-is_empty-2
returns-else-is_empty-2 c = λ text one other. elim c.if-is_empty.branch [
  | then-is_empty w ↦
      absurd (true≢false (sym (w.value-is ∙ w.if-is_empty.true) ∙ c.if-is_empty-2.false))
  | else-is_empty w ↦ c.some_may_end.ensures text
      (known_ends c.args.first.now text c.is_empty.result c.is_empty.ensures w.if-is_empty.false one)
      (known_ends c.args.second.now text w.is_empty-else-is_empty.result w.is_empty-else-is_empty.ensures
      (sym w.value-is ∙ c.if-is_empty-2.false) other)
]
