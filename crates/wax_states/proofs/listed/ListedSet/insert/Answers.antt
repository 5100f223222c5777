use Rattle.std.proofs.Common.{◌<◌, ◌∙◌, true≢false, sym, ap, arith}
use Rattle.wax_program.specs.Places.{HoldsPlace}
use Rattle.wax_states.proofs.Listings.{inserts_none, inserts_one, listing_one, room_left}
use Rattle.wax_states.proofs.listed.ListedSet.insert.Goals as goal

pub unreachable-requires : goal.unreachable-requires
unreachable-requires c =
    let s = c.self.inside in
    let lt : c.args.at < s.limit = omega (arith, c.requires, ap (λ v. v.limit) c.self.view_is) in
    let new : HoldsPlace s.flags c.args.at → ⊥ = λ h. true≢false (sym h ∙ sym c.if-contains.ensures) in
    absurd (omega (
      arith,
      room_left s.limit _ c.args.at s.flags s.places.items c.self.invariant lt new,
      c.in-Err.ensures.full,
      s.places.ok.0,
    ))

pub invariant_of-self : goal.invariant_of-self
invariant_of-self c =
    let s = c.self.inside in
    let lt : c.args.at < s.limit = omega (arith, c.requires, ap (λ v. v.limit) c.self.view_is) in
    let new : HoldsPlace s.flags c.args.at → ⊥ = λ h. true≢false (sym h ∙ sym c.if-contains.ensures) in
    rw (c.insert.ensures, c.in-Ok.ensures.items) (listing_one s.limit _ c.args.at s.flags s.places.items
    c.self.invariant lt new _ c.in-Ok.ensures.capacity)

pub returns-then-contains : goal.returns-then-contains
returns-then-contains c =
    let s = c.self.inside in
    rw (← c.self.view_is)
    (inserts_none s.limit _ c.args.at s.flags s.places.items c.self.invariant (sym c.if-contains.ensures))

pub returns : goal.returns
returns c =
    let s = c.self.inside in
    let lt : c.args.at < s.limit = omega (arith, c.requires, ap (λ v. v.limit) c.self.view_is) in
    let new : HoldsPlace s.flags c.args.at → ⊥ = λ h. true≢false (sym h ∙ sym c.if-contains.ensures) in
    rw (← c.self.view_is, c.insert.ensures, c.in-Ok.ensures.items)
    (inserts_one s.limit _ c.args.at s.flags s.places.items c.self.invariant lt new)
