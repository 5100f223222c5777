use Rattle.std.proofs.Common.{◌∙◌, sym, arith}
use Rattle.wax_states.proofs.Listings.{unread_held}
use Rattle.wax_states.proofs.listed_sets.ListedSetsSets.ends.Goals as goal

pub returns : goal.returns
returns c =
    let s = c.self.inside in
    let held = unread_held s.here.flags s.read s.size in
    rw (← c.self.view_is) (
      (λ t. held.1
          (sym c.contains.ensures ∙ t, (λ h. absurd (omega (arith, c.self.invariant.read_within s.size h))))),
      (λ h. c.contains.ensures ∙ (held.0 h).0),
    )
