-- Listed sets of places.
use Rattle.std.proofs.Common.{IsPermutation, MatchBool, ◌≡◌, ◌+◌, ◌<◌, ◌≤◌, ◌⊎◌, ◌↔◌, ◌++◌, inl, inr, ℕ, zero}
use Rattle.std.proofs.Common.{suc, Bool, true, false, not, ◌&&◌, List, [], ◌∷◌, Option, Some, None}
use Rattle.std.proofs.Common.{MatchOption, is_some, length, get_or, set, slice_get, Contains, true≢false}
use Rattle.std.proofs.Common.{refl, sym, ◌∙◌, ap, subst, arith, length-append, length-set}
use Rattle.std.proofs.{lemmas.Bool.{cases_eq, cases_lt}, lemmas.List.get_or_default}
use Rattle.std.proofs.lemmas.List.Filters.{dedup_is}
use Rattle.std.proofs.lemmas.List.Kept.{Contains-dedup_nat, Contains-from_dedup}
use Rattle.std.proofs.{lemmas.Map.Keys.IsStrictlyIncreasing-dedup, Math.Dec.eqb}
use Rattle.std.proofs.lemmas.List.Sorted.{Contains-permutation, IsPermutation-sym}
use Rattle.std.proofs.lemmas.List.Elements.{Contains-append_left, Contains-get_or, Contains-push}
use Rattle.std.proofs.lemmas.List.Elements.{Contains-push_cases}
use Rattle.std.proofs.lemmas.Option.{get_or_from_slice_get, slice_get-get_or, slice_get_within}
use Rattle.std.specs.{List.dedup, List.Retain.{DiffersFromLast, IsFiltered}}
use Rattle.std.specs.{List.Sorted.{IsSorted, IsStrictlyIncreasing}, Ordering.nat_cmp}
use Rattle.wax_states.specs.inner.Listed.{AreHeld, AreRead, HasLost, Inserts, IsJoined, IsLoaded, IsListing}
use Rattle.wax_states.specs.inner.Listed.{Listing, Lists, Waits, unread}
use Rattle.wax_states.specs.Reached.{AreEndsMarked, AreReached}
use Rattle.wax_program.specs.declared.instruction.Instruction.{Instruction}
use Rattle.wax_program.specs.Places.{HoldsPlace, IsEmpty, Within, member_count}
use Rattle.wax_program.specs.Threads.{Advances, AnyAmong, AnyOf, Inserted, InsertedNext, IsDone, Position}
use Rattle.wax_program.specs.{Threads.{Round, Taken}, Closed.{AreEndsAt, IsClosed, IsEndAt, ReadsEnd}}
use Rattle.wax_program.specs.{declared.instruction.Instruction.TheVariants.End, Machine.mark}
use Rattle.wax_program.proofs.{Advancing.in_range, Marks.ends_read}
use Rattle.wax_program.proofs.Members.{added_keeps, added_only, has_added, members_none, members_set}
use Rattle.wax_program.proofs.Members.{members_within}

-- ---- lists
pub slice_get_append : {X : Type 0} (xs ys : List X) (t : ℕ) → t < length xs
    → slice_get (xs ++ ys) t ≡ slice_get xs t
slice_get_append [] ys t h = absurd (omega (arith, h))
slice_get_append (x ∷ xs) ys zero h = refl
slice_get_append (x ∷ xs) ys (suc t) h = slice_get_append xs ys t (omega (arith, h))

pub slice_get_end : {X : Type 0} (xs : List X) (x : X) → slice_get (xs ++ x ∷ []) (length xs) ≡ Some x
slice_get_end [] x = refl
slice_get_end (y ∷ xs) x = slice_get_end xs x

-- ---- places that were reached and not read
and_not : (b r : Bool) → ((b && not r) ≡ true) ↔ ((b ≡ true) × ¬ (r ≡ true))
and_not true true = ((λ e. absurd (true≢false (sym e))), (λ h. absurd (h.1 refl)))
and_not true false = ((λ e. (refl, (λ f. true≢false (sym f)))), (λ h. refl))
and_not false r = ((λ e. absurd (true≢false (sym e))), (λ h. absurd (true≢false (sym h.0))))

pub unread_held : (here read : List Bool) (k : ℕ) → HoldsPlace (unread here read) k
    ↔ (HoldsPlace here k × ¬ (HoldsPlace read k))
unread_held [] read k = ((λ h. absurd (true≢false (sym h))), (λ h. absurd (true≢false (sym h.0))))
unread_held (b ∷ here) [] k = ((λ h. (h, (λ e. true≢false (sym e)))), (λ h. h.0))
unread_held (b ∷ here) (r ∷ read) zero = and_not b r
unread_held (b ∷ here) (r ∷ read) (suc k) = unread_held here read k

keep_all : (b : Bool) → (b && not false) ≡ b
keep_all true = refl
keep_all false = refl

pub unread_all : (here read : List Bool) → IsEmpty read → unread here read ≡ here
unread_all [] read none = refl
unread_all (b ∷ here) [] none = refl
unread_all (b ∷ here) (true ∷ read) none = absurd (none 0 refl)
unread_all (b ∷ here) (false ∷ read) none = ap (λ x. x ∷ unread here read) (keep_all b)
    ∙ ap (λ z. b ∷ z) (unread_all here read (λ k h. none (suc k) h))

-- whether a place is in a set
pub held_or_not : (flags : List Bool) (k : ℕ) → HoldsPlace flags k ⊎ ¬ (HoldsPlace flags k)
held_or_not flags k = is_held (get_or flags k false)
  where
    is_held : (b : Bool) → (b ≡ true) ⊎ ¬ (b ≡ true)
    is_held true = inl refl
    is_held false = inr (λ e. true≢false (sym e))

some_eq : {x y : ℕ} → Some x ≡ Some y → x ≡ y
some_eq e = cc

pub contains_at : (places : List ℕ) (i k : ℕ) → slice_get places i ≡ Some k → Contains places k
contains_at places i k is =
    subst (Contains places) (get_or_from_slice_get places i k k is)
    (Contains-get_or places i k (slice_get_within places i k is))

not_in : (k : ℕ) → Contains [] k → ⊥
not_in k h = absurd (let lt : h.0 < 0 = h.1 in omega (arith, lt))

-- ---- a place is inserted
module _ (limit capacity at : ℕ) (flags : List Bool) (places : List ℕ)
    (listing : IsListing limit flags places capacity) where
  pub inserts_none : HoldsPlace flags at → Inserts (record { limit = limit; flags = flags; places = places })
      (record { limit = limit; flags = flags; places = places }) at
  inserts_none held = record {
    limit = refl;
    has = held;
    keeps = λ k h. h;
    only = λ k h. inl h;
    lists = listing.lists;
    longer = omega arith;
    stays = λ taken k w. w;
    waits = λ taken few. inl held;
  }

pub listing_none : (limit capacity : ℕ) (flags : List Bool) → limit ≤ length flags → IsEmpty flags
    → limit ≤ capacity → IsListing limit flags [] capacity
listing_none limit capacity flags room none fits = record {
  room = room;
  within = λ k h. absurd (none k h);
  lists = λ k. ((λ h. absurd (not_in k h)), (λ h. absurd (none k h)));
  counted = sym (members_none flags none);
  fits = fits;
}

-- the places that are listed before an index are removed, and no other is new
pub record RemovedBefore (was now : List Bool) (places : List ℕ) (i : ℕ) : Type 0 where
  pub room : length now ≡ length was
  pub fewer : (k : ℕ) → HoldsPlace now k → HoldsPlace was k
  pub gone : (j k : ℕ) → j < i → get_or places j 0 ≡ k → ¬ (HoldsPlace now k)

pub removed_all : (was now : List Bool) (places : List ℕ) (i : ℕ) → length places ≤ i
    → RemovedBefore was now places i → HasLost was places now
removed_all was now places i past r = record {
  room = r.room;
  fewer = r.fewer;
  gone = λ k h. r.gone h.0 k (omega (arith, h.1, past)) (get_or_default places h.0 0 k h.1 ∙ h.2);
}

-- a set that has lost all that it had
pub all_lost : (old : List Bool) (places : List ℕ) (new : List Bool)
    → ((k : ℕ) → HoldsPlace old k → Contains places k) → HasLost old places new → IsEmpty new
all_lost old places new listed lost k h = lost.gone k (listed k (lost.fewer k h)) h

-- a place more was read
pub read_more : (places : List ℕ) (from i size : ℕ) (read : List Bool) → i < length places
    → (get_or places i 0 < size → HoldsPlace read (get_or places i 0))
    → AreRead places from i size read → AreRead places from (i + 1) size read
read_more places from i size read inside one before j k low lt is small = elim (cases_lt j i) [
  | inl earlier ↦ before j k low earlier is small
  | inr past ↦ (let same : get_or places i 0 ≡ k = some_eq
      (sym (slice_get-get_or places i 0 inside) ∙ ap (slice_get places) (omega (arith, lt, past)) ∙ is) in
      subst (HoldsPlace read) same (one (omega (arith, same, small))))
]

module _ (limit capacity at : ℕ) (flags : List Bool) (places : List ℕ)
    (listing : IsListing limit flags places capacity) (lt : at < limit) (new : ¬ (HoldsPlace flags at)) where
  more : member_count (set flags at true) ≡ member_count flags + 1
  more = members_set flags at (omega (arith, lt, listing.room)) new

  stays_within : Within limit (set flags at true)
  stays_within k h = elim (added_only flags at k h) [ inl old ↦ listing.within k old | inr same ↦ rw same lt ]

  -- so there is room for it in the list
  pub room_left : length places < capacity
  room_left = omega
      (arith, members_within limit (set flags at true) stays_within, more, listing.counted, listing.fits)

  pub listing_one : (wider : ℕ) → capacity ≤ wider
      → IsListing limit (set flags at true) (places ++ at ∷ []) wider
  listing_one wider le = record {
    room = omega (arith, listing.room, length-set flags at true);
    within = stays_within;
    lists = λ k. (
      (λ h. elim (Contains-push_cases places at k h) [
        | inl old ↦ added_keeps flags at k ((listing.lists k).0 old)
        | inr same ↦
            subst (HoldsPlace (set flags at true)) same (has_added flags at (omega (arith, lt, listing.room)))
      ]),
      (λ h. elim (added_only flags at k h) [
        | inl old ↦ Contains-append_left places (at ∷ []) k ((listing.lists k).1 old)
        | inr same ↦ subst (Contains (places ++ at ∷ [])) (sym same) (Contains-push places at)
      ]),
    );
    counted = omega (arith, length-append places (at ∷ []), listing.counted, more);
    fits = omega (arith, listing.fits, le);
  }

  pub inserts_one : Inserts (record { limit = limit; flags = flags; places = places })
      (record { limit = limit; flags = set flags at true; places = places ++ at ∷ [] }) at
  inserts_one = record {
    limit = refl;
    has = has_added flags at (omega (arith, lt, listing.room));
    keeps = added_keeps flags at;
    only = added_only flags at;
    lists = (listing_one capacity (omega arith)).lists;
    longer = omega (arith, length-append places (at ∷ []));
    stays = λ taken k w.
        (w.0, w.1, slice_get_append places (at ∷ []) w.0 (slice_get_within places w.0 k w.2) ∙ w.2);
    waits = λ taken few. inr (length places, few, slice_get_end places at);
  }

-- ---- the sets of a step
abbrev pub sets_of : ℕ → Listing → List Bool → Listing → Position
sets_of size here read next =
    record { size = size; pending = unread here.flags read; read = read; next = next.flags }

module _ (size taken : ℕ) (here next : Listing) (read : List Bool)
    (listed : AreHeld size here taken read next) where
  -- a place is inserted here
  module _ (at : ℕ) (low : at ≤ size) (new : Listing) (i : Inserts here new at) where
    pub inserts_here : Inserted (sets_of size here read next) (sets_of size new read next) at
    inserts_here = record {
      size = refl;
      read = refl;
      next = refl;
      adds = λ le. elim (held_or_not read at) [
        | inl was ↦ inr was
        | inr fresh ↦ inl ((unread_held new.flags read at).1 (i.has, fresh))
      ];
      keeps = λ k h. (let was = (unread_held here.flags read k).0 h in
          (unread_held new.flags read k).1 (i.keeps k was.0, was.1));
      only = λ k h. (let is = (unread_held new.flags read k).0 h in
          elim (i.only k is.0) [
            | inl old ↦ inl ((unread_held here.flags read k).1 (old, is.1))
            | inr same ↦ inr same
          ]);
    }

    pub listed_here : AreHeld size new taken read next
    listed_here = record {
      here_room = omega (arith, listed.here_room, i.limit);
      next_room = listed.next_room;
      read_room = listed.read_room;
      here_within = λ k h.
          elim (i.only k h) [ inl old ↦ listed.here_within k old | inr same ↦ omega (arith, same, low) ];
      read_within = listed.read_within;
      next_within = listed.next_within;
      next_lists = listed.next_lists;
      taken_within = omega (arith, listed.taken_within, i.longer);
      read_here = λ k h. i.keeps k (listed.read_here k h);
      waiting = λ k lt h. (let is = (unread_held new.flags read k).0 h in
          elim (i.only k is.0) [
            | inl old ↦ i.stays taken k (listed.waiting k lt ((unread_held here.flags read k).1 (old, is.1)))
            | inr same ↦ elim (i.waits taken listed.taken_within) [
              | inl was ↦ (let old : HoldsPlace here.flags k = subst (HoldsPlace here.flags) (sym same) was in
                  i.stays taken k (listed.waiting k lt ((unread_held here.flags read k).1 (old, is.1))))
              | inr waits ↦ subst (Waits new.places taken) (sym same) waits
            ]
          ]);
    }

  pub inserts_nothing : (at : ℕ) → size < at
      → Inserted (sets_of size here read next) (sets_of size here read next) at
  inserts_nothing at lt = record {
    size = refl;
    read = refl;
    next = refl;
    adds = λ le. absurd (omega (arith, lt, le));
    keeps = λ k h. h;
    only = λ k h. inl h;
  }

  -- a place of the next position is inserted
  module _ (at : ℕ) (low : at ≤ size) (new : Listing) (i : Inserts next new at) where
    pub inserts_next : InsertedNext (sets_of size here read next) (sets_of size here read new) at
    inserts_next = record {
      size = refl;
      pending = refl;
      read = refl;
      adds = λ le. i.has;
      keeps = i.keeps;
      only = i.only;
    }

    pub listed_next : AreHeld size here taken read new
    listed_next = record {
      here_room = listed.here_room;
      next_room = omega (arith, listed.next_room, i.limit);
      read_room = listed.read_room;
      here_within = listed.here_within;
      read_within = listed.read_within;
      next_within = λ k h.
          elim (i.only k h) [ inl old ↦ listed.next_within k old | inr same ↦ omega (arith, same, low) ];
      next_lists = i.lists;
      taken_within = listed.taken_within;
      read_here = listed.read_here;
      waiting = listed.waiting;
    }

  pub inserts_nothing_next : (at : ℕ) → size < at
      → InsertedNext (sets_of size here read next) (sets_of size here read next) at
  inserts_nothing_next at lt = record {
    size = refl;
    pending = refl;
    read = refl;
    adds = λ le. absurd (omega (arith, lt, le));
    keeps = λ k h. h;
    only = λ k h. inl h;
  }

  -- nothing is left to be read
  pub all_read : AreRead here.places taken (length here.places) size read
      → IsDone (sets_of size here read next)
  all_read read_all k h = elim (cases_lt k size) [
    | inr past ↦ past
    | inl lt ↦ (let w = listed.waiting k lt h in
        absurd (((unread_held here.flags read k).0 h).1
        (read_all w.0 k w.1 (slice_get_within here.places w.0 k w.2) w.2 lt)))
  ]

  -- the place at an index is taken
  module _ (lists : Lists here.places here.flags) (index at : ℕ) (is : slice_get here.places index ≡ Some at)
      (lt : at < size) (fresh : ¬ (HoldsPlace read at)) where
    reached : HoldsPlace here.flags at
    reached = (lists at).0 (contains_at here.places index at is)

    pub waits_there : HoldsPlace (unread here.flags read) at
    waits_there = (unread_held here.flags read at).1 (reached, fresh)

    room : at < length read
    room = omega (arith, lt, listed.read_room)

    pub takes_listed : Taken (sets_of size here read next) (sets_of size here (set read at true) next) at
    takes_listed = record {
      size = refl;
      below = lt;
      next = refl;
      held = waits_there;
      others = λ k h. (let was = (unread_held here.flags read k).0 h in
          elim (held_or_not (set read at true) k) [
            | inl now ↦ elim (added_only read at k now) [ inl old ↦ absurd (was.1 old) | inr same ↦ inr same ]
            | inr still ↦ inl ((unread_held here.flags (set read at true) k).1 (was.0, still))
          ]);
      fewer = λ k h. (let is = (unread_held here.flags (set read at true) k).0 h in
          (unread_held here.flags read k).1 (is.0, (λ old. is.1 (added_keeps read at k old))));
      reads = has_added read at room;
      keeps = added_keeps read at;
      only = added_only read at;
      counted = members_set read at room fresh;
    }

    within_read : Within size (set read at true)
    within_read k h =
        elim (added_only read at k h) [ inl old ↦ listed.read_within k old | inr same ↦ rw same lt ]

    pub takes_few : member_count (set read at true) ≤ size
    takes_few = members_within size (set read at true) within_read

    pub listed_taken : AreRead here.places taken index size read
        → AreHeld size here (index + 1) (set read at true) next
    listed_taken before = record {
      here_room = listed.here_room;
      next_room = listed.next_room;
      read_room = omega (arith, listed.read_room, length-set read at true);
      here_within = listed.here_within;
      read_within = within_read;
      next_within = listed.next_within;
      next_lists = listed.next_lists;
      taken_within = omega (arith, slice_get_within here.places index at is);
      read_here = λ k h. elim (added_only read at k h) [
        | inl old ↦ listed.read_here k old
        | inr same ↦ subst (HoldsPlace here.flags) (sym same) reached
      ];
      waiting = λ k low h. (let now = (unread_held here.flags (set read at true) k).0 h in
          let old : ¬ (HoldsPlace read k) = λ was. now.1 (added_keeps read at k was) in
          let w = listed.waiting k low ((unread_held here.flags read k).1 (now.0, old)) in
          elim (cases_lt w.0 (index + 1)) [
            | inr later ↦ (w.0, later, w.2)
            | inl earlier ↦ elim (cases_eq w.0 index) [
              | inl there ↦ absurd (now.1 (subst (HoldsPlace (set read at true))
                  (some_eq (sym is ∙ ap (slice_get here.places) (sym there) ∙ w.2)) (has_added read at room)))
              | inr other ↦ absurd (old (before w.0 k w.1 (omega (arith, earlier, other)) w.2 low))
            ]
          ]);
    }

pub lists_none : (places : List ℕ) (flags : List Bool) → places ≡ [] → IsEmpty flags → Lists places flags
lists_none places flags e none k =
    ((λ h. absurd (not_in k (subst (λ z. Contains z k) e h))), (λ h. absurd (none k h)))

-- no place is left here
pub nothing_listed : (size : ℕ) (here next : Listing) (read : List Bool) → size < here.limit
    → size < next.limit → size < length read → IsEmpty here.flags
    → IsEmpty read → Within (size + 1) next.flags → Lists next.places next.flags
    → AreHeld size here 0 read next
nothing_listed size here next read here_room next_room read_room no_here no_read next_within next_lists =
    record {
      here_room = here_room;
      next_room = next_room;
      read_room = read_room;
      here_within = λ k h. absurd (no_here k h);
      read_within = λ k h. absurd (no_read k h);
      next_within = next_within;
      next_lists = next_lists;
      taken_within = omega arith;
      read_here = λ k h. absurd (no_read k h);
      waiting = λ k lt h. absurd (no_here k ((unread_held here.flags read k).0 h).0);
    }

-- the next position is here
pub turned : (size taken : ℕ) (here next clear : Listing) (read none : List Bool)
    → AreHeld size here taken read next → clear.limit ≡ here.limit → IsEmpty clear.flags
    → clear.places ≡ [] → length none ≡ length read → IsEmpty none → AreHeld size next 0 none clear
turned size taken here next clear read none listed limit no_clear no_places room no_read = record {
  here_room = listed.next_room;
  next_room = omega (arith, listed.here_room, limit);
  read_room = omega (arith, listed.read_room, room);
  here_within = listed.next_within;
  read_within = λ k h. absurd (no_read k h);
  next_within = λ k h. absurd (no_clear k h);
  next_lists = lists_none clear.places clear.flags no_places no_clear;
  taken_within = omega arith;
  read_here = λ k h. absurd (no_read k h);
  waiting = λ k lt h. (let in_list = (listed.next_lists k).1 ((unread_held next.flags none k).0 h).0 in (
    in_list.0,
    omega arith,
    slice_get-get_or next.places in_list.0 k in_list.1 ∙ ap (λ x. Some x) in_list.2,
  ));
}

pub none_unread : (here read : List Bool) → IsEmpty here → IsEmpty (unread here read)
none_unread here read none k h = none k ((unread_held here read k).0 h).0

-- ---- steps
module _ (code : List Instruction) (places : List ℕ) (size : ℕ) (set : List Bool) (sized : size ≡ length code)
    (loaded : IsLoaded places size set) where
  pub any_loaded : (s : List ℕ) → AnyAmong code places s ↔ AnyOf code set s
  any_loaded s = (
    (λ h. (h.0, loaded.all h.0 h.1 (omega (arith, in_range code h.2.0 h.0 s h.2.1, sized)), h.2)),
    (λ h. (h.0, loaded.only h.0 h.1, h.2)),
  )

  pub reached_listed : (c : ℕ) (also reached : List ℕ) (next more : List Bool) → Advances code c set next
      → IsJoined next also size more
      → Lists reached more → AreReached code c places also reached
  reached_listed c also reached next more a joined listed s = (
    (λ h. elim (joined.only h.0 ((listed h.0).0 h.1)) [
      | inl old ↦ inl ((any_loaded (c ∷ s)).1 (a.backward s (h.0, old, h.2)))
      | inr new ↦ inr (h.0, new, h.2)
    ]),
    (λ h. elim h [
      | inl old ↦ (let g : AnyOf code next s = a.onward s ((any_loaded (c ∷ s)).0 old) in
          (g.0, (listed g.0).1 (joined.keeps g.0 g.1), g.2))
      | inr new ↦ (
        new.0,
        (listed new.0).1
            (joined.all new.0 new.1 (omega (arith, in_range code new.2.0 new.0 s new.2.1, sized))),
        new.2,
      )
    ]),
  )

  -- they lead nowhere
  pub reached_nothing : (c : ℕ) (next : List Bool) → Advances code c set next → IsEmpty next
      → AreReached code c places [] []
  reached_nothing c next a empty s = (
    (λ h. absurd (not_in h.0 h.1)),
    (λ h. elim h [
      | inl old ↦
          (let g : AnyOf code next s = a.onward s ((any_loaded (c ∷ s)).0 old) in absurd (empty g.0 g.1))
      | inr new ↦ absurd (not_in new.0 new.1)
    ]),
  )

-- ---- answers as truth values
pub done_by : {A C : Type 0} {X : Type 0} {Y : ℕ × ℕ → Type 0} (o : Option (ℕ × ℕ)) (b : Bool)
    → is_some o ≡ not b → MatchOption o X Y → (X → A) → ((p : ℕ × ℕ) → Y p → C)
    → MatchBool b A C
done_by None true e m f g = f m
done_by None false e m f g = absurd (true≢false (sym e))
done_by (Some p) true e m f g = absurd (true≢false e)
done_by (Some p) false e m f g = g p m

pub lists_permuted : (places others : List ℕ) (flags : List Bool) → IsPermutation places others
    → Lists places flags → Lists others flags
lists_permuted places others flags p lists k = (
  (λ h. (lists k).0 (Contains-permutation others places k (IsPermutation-sym places others p) h)),
  (λ h. Contains-permutation places others k p ((lists k).1 h)),
)

-- no places are joined to a set
pub joined_nothing : (set : List Bool) (size : ℕ) → IsJoined set [] size set
joined_nothing set size = record {
  only = λ k h. inl h;
  keeps = λ k h. h;
  all = λ k h. absurd (let lt : h.0 < 0 = h.1 in omega (arith, lt));
}

-- ---- ends
module _ (code : List Instruction) (size taken : ℕ) (here next : Listing) (read : List Bool)
    (listed : AreHeld size here taken read next) (sized : size ≡ length code)
    (done : IsDone (sets_of size here read next)) (places : List ℕ) (lists : Lists places here.flags) where
  pub list_read : (numbers : List ℕ) → AreEndsAt code places numbers → (number : ℕ)
      → Contains numbers number ↔ ReadsEnd code (sets_of size here read next) number
  list_read numbers l = λ number. (
    (λ h. (let f = (l number).0 h in (f.0, was f.0 number ((lists f.0).0 f.1) f.2, f.2))),
    (λ h. (l number).1 (h.0, (lists h.0).1 (listed.read_here h.0 h.1), h.2)),
  )
    where
      was : (k number : ℕ) → HoldsPlace here.flags k → IsEndAt code k number → HoldsPlace read k
      was k number h end = elim (held_or_not read k) [
        | inl h1 ↦ h1
        | inr h0 ↦ absurd (let low : size ≤ k = done k ((unread_held here.flags read k).1 (h, h0)) in
            omega (arith, low, slice_get_within code k (End end.0 end.1) end.2, sized))
      ]

pub list_marked : (code : List Instruction) (places : List ℕ) (p q : Position) (numbers : List ℕ)
    → IsClosed code → p.size ≡ length code → q.size ≡ length code
    → IsLoaded places p.size p.pending → IsDone q → Round code 47 p.pending q
    → ((number : ℕ) → Contains numbers number ↔ ReadsEnd code q number)
    → AreEndsMarked code places numbers
list_marked code places p q numbers closed old_sized sized loaded done round l = λ number.
    let among = any_loaded code places p.size p.pending old_sized loaded (mark number ∷ []) in
    let read = ends_read code p q closed sized done round number in (
      (λ h. among.1 (read.1 ((l number).0 h))),
      (λ h. (l number).1 (read.0 (among.0 h))),
    )

-- ---- numbers that were sorted, each once
pub numbers_ascend : (sorted left : List ℕ) → IsSorted nat_cmp sorted
    → IsFiltered (DiffersFromLast eqb) [] sorted left → IsStrictlyIncreasing left
numbers_ascend sorted left s f =
    subst IsStrictlyIncreasing (sym (dedup_is eqb sorted left f)) (IsStrictlyIncreasing-dedup sorted s)

-- a sort and a `dedup` leave each number and add none
pub same_sorted : (numbers sorted left : List ℕ) → IsPermutation numbers sorted
    → IsFiltered (DiffersFromLast eqb) [] sorted left → (k : ℕ) → Contains left k ↔ Contains numbers k
same_sorted numbers sorted left p f k =
    let e : left ≡ dedup eqb sorted = dedup_is eqb sorted left f in (
      (λ h. Contains-permutation sorted numbers k (IsPermutation-sym numbers sorted p)
          (Contains-from_dedup eqb sorted k (subst (λ z. Contains z k) e h))),
      (λ h. subst (λ z. Contains z k) (sym e)
          (Contains-dedup_nat sorted k (Contains-permutation numbers sorted k p h))),
    )

pub numbers_sorted : (code : List Instruction) (places numbers sorted left : List ℕ)
    → IsPermutation numbers sorted
    → IsFiltered (DiffersFromLast eqb) [] sorted left → AreEndsMarked code places numbers
    → AreEndsMarked code places left
numbers_sorted code places numbers sorted left p f marked number =
    let same = same_sorted numbers sorted left p f number in
    ((λ h. (marked number).0 (same.0 h)), (λ h. same.1 ((marked number).1 h)))

pub lists_sorted : (places sorted left : List ℕ) (flags : List Bool) → IsPermutation places sorted
    → IsFiltered (DiffersFromLast eqb) [] sorted left → Lists places flags → Lists left flags
lists_sorted places sorted left flags p f lists k =
    let same = same_sorted places sorted left p f k in
    ((λ h. (lists k).0 (same.0 h)), (λ h. same.1 ((lists k).1 h)))
