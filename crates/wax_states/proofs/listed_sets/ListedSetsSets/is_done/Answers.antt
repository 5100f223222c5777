use Rattle.std.proofs.Common.{sym, subst, length}
use Rattle.wax_states.specs.inner.Listed.{AreRead, IsNextUnread, Lists}
use Rattle.wax_states.proofs.Listings.{all_read, done_by, waits_there}
use Rattle.wax_states.proofs.listed_sets.ListedSetsSets.is_done.Goals as goal

pub returns : goal.returns
returns c =
    let s = c.self.inside in
    let same = sym c.places.ensures.places in
    let lists = subst (λ z. Lists z s.here.flags) same c.places.ensures.all in
    rw (← c.self.view_is) (done_by c.first_unread.result c.is_none.result c.is_none.ensures
    c.first_unread.ensures
    (λ read. all_read s.size s.taken s.here s.next s.read c.self.invariant
    (subst (λ z. AreRead z s.taken (length z) s.size s.read) same read))
    (λ p found. (
      p.1,
      waits_there s.size s.taken s.here s.next s.read c.self.invariant lists found.index p.1
          (subst (λ z. IsNextUnread z s.taken s.size s.read p.0 p.1) same found).is found.below found.fresh,
      found.below,
    )))
