-- The texts of the captures are no more bytes than the path, so they fit.
use Rattle.std.proofs.Common.{w32, ◌∙◌}
use mir.ValLaws.{to_z-of_z}
use Rattle.wax_c.proofs.Counted.{captures_as}
use Rattle.wax_c.proofs.captures.capture_held.Goals as goal

pub returns : goal.returns
returns c =
    let number = to_z-of_z w32 c.number_of_bool.result (record { sfits = c.number_of_bool.type_inv }) in
    captures_as _ _ _ _ _ _ _ _ c.glob.ensures c.capture.ensures (number ∙ c.number_of_bool.ensures)
