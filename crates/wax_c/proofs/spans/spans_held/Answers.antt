-- There are as many captures as tokens that capture, so they fit.
use Rattle.std.proofs.Common.{w32, ◌∙◌}
use mir.ValLaws.{to_z-of_z}
use Rattle.wax_c.proofs.Counted.{spans_as}
use Rattle.wax_c.proofs.spans.spans_held.Goals as goal

pub returns : goal.returns
returns c =
    let number = to_z-of_z w32 c.number_of_bool.result (record { sfits = c.number_of_bool.type_inv }) in
    spans_as _ _ _ _ _ _ _ _ c.glob.ensures c.write_spans.ensures (number ∙ c.number_of_bool.ensures)
