use Rattle.std.proofs.Common.{◌≡◌, Some, map, slice_get, subst}
use Rattle.wax_states.proofs.Cells.{found_at, some_found}
use Rattle.wax_states.proofs.table.Table.find.Goals as goal

pub returns : goal.returns
returns c = some_found c.find.result _ _ _
    (λ t is. found_at c.args.self.now.states.items c.args.places.now t
    (subst (λ z. slice_get (map (λ s. s.places.items) z) t ≡ Some c.args.places.now) c.deref.ensures.value
    is))
    c.find.ensures
