use Rattle.std.proofs.Common.{refl, sym, subst, length}
use Rattle.wax_states.specs.inner.Listed.{AreRead, IsNextUnread, Lists}
use Rattle.wax_program.proofs.Members.{members_within}
use Rattle.wax_states.proofs.Listings.{all_read, listed_taken, takes_few, takes_listed}
use Rattle.wax_states.proofs.listed_sets.ListedSetsSets.take.Goals as goal

pub returns-in_err-next-clause-few : goal.returns-in_err-next-clause-few
returns-in_err-next-clause-few c =
    rw (← c.self.view_is) (members_within c.self.inside.size c.self.inside.read c.self.invariant.read_within)

pub returns-in_err-next-clause-taken : goal.returns-in_err-next-clause-taken
returns-in_err-next-clause-taken c =
    let s = c.self.inside in
    let read = subst (λ z. AreRead z s.taken (length z) s.size s.read)
    (sym c.places.ensures.places) c.in_err-next.ensures in
    rw (c.from_residual.ensures, ← c.self.view_is)
    (refl, all_read s.size s.taken s.here s.next s.read c.self.invariant read)

pub invariant_of-self : goal.invariant_of-self
invariant_of-self c =
    let s = c.self.inside in
    let same = sym c.places.ensures.places in
    let found = subst (λ z. IsNextUnread z s.taken s.size s.read c.in_ok-next.next c.in_ok-next.at) same
    c.in_ok-next.ensures in
    let lists = subst (λ z. Lists z s.here.flags) same c.places.ensures.all in
    rw (c.insert.ensures, found.next_is)
    (listed_taken s.size s.taken s.here s.next s.read c.self.invariant lists found.index c.in_ok-next.at
    found.is found.below found.fresh found.before)

pub returns-clause-few : goal.returns-clause-few
returns-clause-few c =
    let s = c.self.inside in
    let same = sym c.places.ensures.places in
    let found = subst (λ z. IsNextUnread z s.taken s.size s.read c.in_ok-next.next c.in_ok-next.at) same
    c.in_ok-next.ensures in
    let lists = subst (λ z. Lists z s.here.flags) same c.places.ensures.all in
    rw c.insert.ensures (takes_few s.size s.taken s.here s.next s.read c.self.invariant lists found.index
    c.in_ok-next.at found.is found.below found.fresh)

pub returns-clause-taken : goal.returns-clause-taken
returns-clause-taken c =
    let s = c.self.inside in
    let same = sym c.places.ensures.places in
    let found = subst (λ z. IsNextUnread z s.taken s.size s.read c.in_ok-next.next c.in_ok-next.at) same
    c.in_ok-next.ensures in
    let lists = subst (λ z. Lists z s.here.flags) same c.places.ensures.all in
    rw (← c.self.view_is, c.insert.ensures)
    (takes_listed s.size s.taken s.here s.next s.read c.self.invariant lists found.index c.in_ok-next.at
    found.is found.below found.fresh)
