-- The handle has what the box held.
use Rattle.std.proofs.Common.{refl, ap, ◌∙◌}
use Rattle.std.specs.Prelude.{Some}
use Rattle.wax_c.proofs.lists.open_list.Goals as goal

pub returns-in-Ok : goal.returns-in-Ok
returns-in-Ok c = (c.in-Ok.held.value, c.of-in-Ok.ensures ∙ ap Some c.of.ensures, c.in-Ok.ensures, refl)
