use Rattle.std.proofs.Common.{Contains, subst, sym, arith}
use Rattle.wax_program.specs.Places.{IsEmpty}
use Rattle.wax_states.proofs.Listings.{all_lost, listing_none}
use Rattle.wax_states.proofs.listed.ListedSet.clear.Goals as goal

pub remove_all-requires : goal.remove_all-requires
remove_all-requires c = λ k h.
    let held = (c.self.invariant.lists k).0 (subst (λ z. Contains z k) c.deref.ensures.value h) in
    omega (arith, c.self.invariant.within k held, c.self.invariant.room)

none : (c : goal.After-clear) → IsEmpty c.remove_all.new.set
none c = all_lost c.self.inside.flags c.deref.result.now c.remove_all.new.set
    (λ k h. subst (λ z. Contains z k) (sym c.deref.ensures.value) ((c.self.invariant.lists k).1 h))
    c.remove_all.ensures

pub invariant_of-self : goal.invariant_of-self
invariant_of-self c =
    rw c.clear.ensures.items (listing_none c.self.inside.limit _ c.remove_all.new.set
    (omega (arith, c.self.invariant.room, c.remove_all.ensures.room)) (none c)
    (omega (arith, c.self.invariant.fits, c.clear.ensures.capacity)))

pub returns-clause-flags : goal.returns-clause-flags
returns-clause-flags c = none c
