-- Places that are taken: they were still to be read, and count as read.
use Rattle.std.proofs.Common.{ℕ, ◌<◌, ◌≤◌, inl, inr, Bool, true, false, List, length, set, refl, arith}
use Rattle.wax_program.specs.{Places.{HoldsPlace, member_count}, Threads.{AreSets, Taken}}
use Rattle.wax_program.proofs.Members.{added_keeps, added_only, has_added, members_set, members_within}
use Rattle.wax_program.proofs.Members.{removed_fewer, removed_others}

-- a place that is still to be read counts as read
module _ (size first : ℕ) (pending read next : List Bool) (sets : AreSets size first pending read next) where
  pub reads_few : member_count read ≤ size
  reads_few = members_within size read sets.read_within

  module _ (at : ℕ) (held : HoldsPlace pending at) (lt : at < size) where
    room : at < length read
    room = omega (arith, lt, sets.read_room)

    pub takes_few : member_count (set read at true) ≤ size
    takes_few = members_within size (set read at true) (λ x h. elim (added_only read at x h) [
      | inl g ↦ sets.read_within x g
      | inr same ↦ rw same lt
    ])

    pub takes : Taken (record { size = size; pending = pending; read = read; next = next })
        (record { size = size; pending = set pending at false; read = set read at true; next = next }) at
    takes = record {
      size = refl;
      below = lt;
      next = refl;
      held = held;
      others = removed_others pending at;
      fewer = removed_fewer pending at;
      reads = has_added read at room;
      keeps = added_keeps read at;
      only = added_only read at;
      counted = members_set read at room (sets.apart at held);
    }
