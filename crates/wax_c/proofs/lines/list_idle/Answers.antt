-- What is found is written if there is room for it.
use Rattle.std.proofs.Common.{length, w32, ◌∙◌}
use mir.ValLaws.{to_z-of_z}
use Rattle.wax_c.specs.Lines.{AreSure}
use Rattle.wax_c.proofs.FewLines.{lists_within}
use Rattle.wax_c.proofs.lines.list_idle.Goals as goal

pub returns : goal.returns
returns c =
    let list = c.args.list.now in
    let found = c.find_idle.ensures in
    let call = c.number_of_found in
    let number = to_z-of_z w32 call.result (record { sfits = call.type_inv }) in
    lists_within (AreSure list c.args.most_states) (length list) _ _ _ _ _ found.found found.few
    (call.ensures.0, call.ensures.1, number ∙ call.ensures.2)
