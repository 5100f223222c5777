-- The lines are as many bytes as the input has, and a line feed, at most, so they fit.
use Rattle.std.proofs.Common.{◌≤◌, ◌+◌, length, sym, subst}
use Rattle.wax_c.proofs.Room.{all_fit, lines_bytes}
use Rattle.wax_c.proofs.lists.put_unignored.Goals as goal

pub returns-clause-room : goal.returns-clause-room
returns-clause-room c =
    let lines = c.in_ok-lines.ensures.ok in
    let few = lines_bytes _ _ _ lines.0 lines.1 in
    let fit = subst (λ out. length out ≤ length c.args.input.now + 1) (sym c.deref.ensures.value) few in
    all_fit _ _ _ _ _ fit c.put.ensures.fills c.put.ensures.unchanged
