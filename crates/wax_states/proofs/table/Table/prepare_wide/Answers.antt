use Rattle.std.proofs.Common.{inr, refl, sym, subst}
use Rattle.wax_states.specs.States.{AreEmpty}
use Rattle.wax_states.proofs.Cells.{empty_replicate}
use Rattle.wax_states.proofs.table.Table.prepare_wide.Goals as goal

pub returns-in_ok-self-clause-wide : goal.returns-in_ok-self-clause-wide
returns-in_ok-self-clause-wide c = inr (subst AreEmpty
    (sym (c.in_ok-self.ensures.items_if_clones_equal (λ y h. h))) (empty_replicate 16384 _ refl))
