-- Each program has its flags: they are found by adding those that are missing.
use Rattle.std.proofs.Common.{◌≡◌, ◌⊎◌, ℕ, zero, suc, ◌+◌, ◌-◌, ◌*◌, ◌<◌, ◌≤◌, Bool, true, false, List, []}
use Rattle.std.proofs.Common.{◌∷◌, Option, Some, None, length, set, slice_get, slice_index_or, inl, inr, refl}
use Rattle.std.proofs.{Common.{sym, ◌∙◌, ap, subst, true≢false, length-set, arith}, lemmas.Bool.cases_eq}
use Rattle.wax_program.specs.{Places.HoldsPlace, declared.instruction.Instruction.Instruction}
use Rattle.wax_program.specs.declared.instruction.Instruction.TheVariants.{Check, Repeat, Components, Fork}
use Rattle.wax_program.specs.declared.instruction.Instruction.TheVariants.{Jump, Back, End}
use Rattle.wax_program.specs.{declared.instruction.Test.Test, declared.onward.Ahead.Ahead}
use Rattle.wax_program.specs.declared.onward.Ahead.TheVariants.{Rest, Path, Below}
use Rattle.wax_program.specs.Onward.{AreFlagsOf, PlaceFlags, flags_for}
use Rattle.wax_program.specs.inner.Leads.{AreFlagsAfter, AreSoundAfter, HaveRoom, Holds, HoldsAfter}
use Rattle.wax_program.specs.inner.Leads.{HoldsByOther, IsClosedAt, IsClosedFor, LeadsAt, LeadsBy, LeadsOn}
use Rattle.wax_program.specs.inner.Leads.{Marks, earlier_flags, flag_count, onward_by_slash}
use Rattle.wax_token.specs.Decided.{Decided, both, either, is_true}
use Rattle.wax_program.proofs.Leading.{flags_are}
use Rattle.wax_program.proofs.Marking.{begins_soundly, few_below, few_path, few_rest, gains_mark, marks_below}
use Rattle.wax_program.proofs.Marking.{marks_path, marks_rest, still_within}
use Rattle.wax_program.proofs.Tested.{other_decided, passes_decided}

-- ---- whether an instruction leads to a flag
holds_decided : (f : PlaceFlags) (m : Ahead) (k : ℕ) → Decided (Holds f m k)
holds_decided f m k = is_true (slice_index_or (flags_for m f) k false)

after_decided : (f : PlaceFlags) (o : Option Ahead) (k : ℕ) → Decided (HoldsAfter f o k)
after_decided f None k = inr (λ h. h)
after_decided f (Some m) k = holds_decided f m k

module _ (o : Option PlaceFlags) (f : PlaceFlags) where
  other_held : (m : Ahead) (k : ℕ) → Decided (HoldsByOther o f m k)
  other_held Rest k = holds_decided f Rest k
  other_held Path k = holds_decided (earlier_flags o f) Rest k
  other_held Below k = inr (λ h. h)

  by_decided : (t : Test) (m : Ahead) (k : ℕ) → Decided (LeadsBy t o f m k)
  by_decided t m k =
      either (both (other_decided t) (other_held m k))
      (both (passes_decided t 47) (after_decided f (onward_by_slash m) k))

  leads_decided : (i : Instruction) (m : Ahead) (k : ℕ) → Decided (LeadsOn i o f m k)
  leads_decided (Check t) m k = by_decided t m (k + 1)
  leads_decided (Repeat t) m k = either (holds_decided f m (k + 1)) (by_decided t m k)
  leads_decided Components m k =
      either (other_held m k)
      (either (after_decided f (onward_by_slash m) k) (after_decided f (onward_by_slash m) (k + 1)))
  leads_decided (Fork n) m k = either (holds_decided f m (k + 1)) (holds_decided f m (k + 1 + n))
  leads_decided (Jump n) m k = holds_decided f m (k + 1 + n)
  leads_decided (Back n) m k = holds_decided f m (k - n)
  leads_decided (End low high) m k = inr (λ h. h)

some_same : {i j : Instruction} → Some i ≡ Some j → i ≡ j
some_same e = cc

none_some : {i : Instruction} → None ≡ Some i → ⊥
none_some e = cc

-- ---- one more flag
marked : PlaceFlags → Ahead → ℕ → PlaceFlags
marked f Rest k = record { size = f.size; rest = set f.rest k true; path = f.path; below = f.below }
marked f Path k = record { size = f.size; rest = f.rest; path = set f.path k true; below = f.below }
marked f Below k = record { size = f.size; rest = f.rest; path = f.path; below = set f.below k true }

module _ (f : PlaceFlags) (room : HaveRoom f) (k : ℕ) (within : k ≤ f.size) where
  marks : (m : Ahead) → (Holds f m k → ⊥) → Marks f (marked f m k) m k
  unfolding marked
  marks Rest none = marks_rest f (set f.rest k true) k within room none refl
  marks Path none = marks_path f (set f.path k true) k within room none refl
  marks Below none = marks_below f (set f.below k true) k within room none refl

  few : (m : Ahead) → flag_count (marked f m k) ≤ 3 * (f.size + 1)
  unfolding marked
  few Rest = few_rest f (set f.rest k true) k within room refl
  few Path = few_path f (set f.path k true) k within room refl
  few Below = few_below f (set f.below k true) k within room refl

  inside : k < f.size + 1
  inside = omega (arith, within)

  longer : (s : List Bool) → f.size < length s → f.size < length (set s k true)
  longer s lt = omega (arith, lt, length-set s k true)

  room_kept : (m : Ahead) → HaveRoom (marked f m k)
  unfolding marked
  room_kept Rest = record {
    rest = longer f.rest room.rest;
    path = room.path;
    below = room.below;
    rest_within = still_within f.rest (set f.rest k true) k refl (f.size + 1) inside room.rest_within;
    path_within = room.path_within;
    below_within = room.below_within;
  }
  room_kept Path = record {
    rest = room.rest;
    path = longer f.path room.path;
    below = room.below;
    rest_within = room.rest_within;
    path_within = still_within f.path (set f.path k true) k refl (f.size + 1) inside room.path_within;
    below_within = room.below_within;
  }
  room_kept Below = record {
    rest = room.rest;
    path = room.path;
    below = longer f.below room.below;
    rest_within = room.rest_within;
    path_within = room.path_within;
    below_within = still_within f.below (set f.below k true) k refl (f.size + 1) inside room.below_within;
  }

-- ---- all flags, after those for one name fewer
module _ (code : List Instruction) (o : Option PlaceFlags) where
  abbrev Missing : PlaceFlags → Ahead → ℕ → Type 0
  Missing f m k = (Holds f m k → ⊥) × LeadsAt code o f m k

  at_instruction : (f : PlaceFlags) (m : Ahead) (k : ℕ) (read : Option Instruction)
      → slice_get code k ≡ read → (Holds f m k → ⊥)
      → Missing f m k ⊎ IsClosedFor code o f m k
  at_instruction f m k None e none = inr (λ i is h. absurd (none_some (sym e ∙ is)))
  at_instruction f m k (Some i) e none = elim (leads_decided o f i m k) [
    | inl h ↦ inl (none, (i, e, h))
    | inr never ↦ inr (λ j is h. absurd (never (subst (λ z. LeadsOn z o f m k) (some_same (sym is ∙ e)) h)))
  ]

  at_mode : (f : PlaceFlags) (m : Ahead) (k : ℕ) → Missing f m k ⊎ IsClosedFor code o f m k
  at_mode f m k = elim (holds_decided f m k) [
    | inl held ↦ inr (λ i is h. held)
    | inr none ↦ at_instruction f m k (slice_get code k) refl none
  ]

  at_place : (f : PlaceFlags) (k : ℕ) → ((m : Ahead) × Missing f m k) ⊎ IsClosedAt code o f k
  at_place f k = elim (at_mode f Rest k) [
    | inl miss ↦ inl (Rest, miss)
    | inr rest ↦ elim (at_mode f Path k) [
      | inl miss ↦ inl (Path, miss)
      | inr path ↦ elim (at_mode f Below k) [
        | inl miss ↦ inl (Below, miss)
        | inr below ↦ inr (each rest path below)
      ]
    ]
  ] where
    each : IsClosedFor code o f Rest k → IsClosedFor code o f Path k → IsClosedFor code o f Below k
        → IsClosedAt code o f k
    each rest path below Rest = rest
    each rest path below Path = path
    each rest path below Below = below

  find : (f : PlaceFlags) (n : ℕ) → ((m : Ahead) × (k : ℕ) × (k < n) × Missing f m k)
      ⊎ ((k : ℕ) → k < n → IsClosedAt code o f k)
  find f zero = inr (λ k lt. absurd (omega (arith, lt)))
  find f (suc n) = elim (find f n) [
    | inl (m, k, lt, miss) ↦ inl (m, k, omega (arith, lt), miss)
    | inr closed ↦ elim (at_place f n) [
      | inl (m, miss) ↦ inl (m, n, omega arith, miss)
      | inr here ↦ inr (λ k lt. elim (cases_eq k n) [
        | inl e ↦ subst (IsClosedAt code o f) (sym e) here
        | inr ne ↦ closed k (omega (arith, lt, ne))
      ])
    ]
  ]

  abbrev Found : Type 0
  Found = (f : PlaceFlags) × AreFlagsAfter code o f

  -- the flags are right, and at most `left` are missing
  record IsOnWay (left : ℕ) (f : PlaceFlags) : Type 0 where
    pub size : f.size ≡ length code
    pub room : HaveRoom f
    pub sound : AreSoundAfter code o f
    pub end : Holds f Rest (length code)
    pub few : 3 * (f.size + 1) ≤ flag_count f + left

  module _ (f : PlaceFlags) (m : Ahead) (k : ℕ) (lt : k < length code) (miss : Missing f m k) where
    stuck : IsOnWay zero f → ⊥
    stuck h =
        let within : k ≤ f.size = omega (arith, lt, h.size) in
        omega (arith, few f h.room k within m, (marks f h.room k within m miss.0).counted, h.few)

    next : (left : ℕ) → IsOnWay (suc left) f → IsOnWay left (marked f m k)
    next left h =
        let within : k ≤ f.size = omega (arith, lt, h.size) in
        let step = marks f h.room k within m miss.0 in
        let gains = gains_mark code o f (marked f m k) m k step miss.1.0 miss.1.1 miss.1.2 in
        record {
          size = gains.size ∙ h.size;
          room = room_kept f h.room k within m;
          sound = gains.sound h.sound;
          end = gains.keeps Rest (length code) h.end;
          few = omega (arith, h.few, step.counted, gains.size);
        }

  close : (left : ℕ) (f : PlaceFlags) → IsOnWay left f → Found
  close zero f h = elim (find f (length code)) [
    | inr closed ↦ (f, (λ most earlier. flags_are code most o f earlier closed h.end (h.sound most earlier)))
    | inl (m, k, lt, miss) ↦ absurd (stuck f m k lt miss h)
  ]
  close (suc left) f h = elim (find f (length code)) [
    | inr closed ↦ (f, (λ most earlier. flags_are code most o f earlier closed h.end (h.sound most earlier)))
    | inl (m, k, lt, miss) ↦ close left (marked f m k) (next f m k lt miss left h)
  ]

  none_of : (n : ℕ) → (s : List Bool) × (length s ≡ n) × ((k : ℕ) → HoldsPlace s k → ⊥)
  none_of zero = ([], refl, (λ k h. true≢false (sym h)))
  none_of (suc n) = let (s, e, none) = none_of n in (false ∷ s, ap suc e, none_in s none)
    where
      none_in : (s : List Bool) → ((k : ℕ) → HoldsPlace s k → ⊥) → (k : ℕ) → HoldsPlace (false ∷ s) k → ⊥
      none_in s none zero h = true≢false (sym h)
      none_in s none (suc k) h = none k h

  flags_after : Found
  flags_after =
      let (s, e, none) = none_of (length code + 1) in
      let f : PlaceFlags = record { size = length code; rest = s; path = s; below = s } in
      let room : HaveRoom f = record {
        rest = omega (arith, e);
        path = omega (arith, e);
        below = omega (arith, e);
        rest_within = λ k h. absurd (none k h);
        path_within = λ k h. absurd (none k h);
        below_within = λ k h. absurd (none k h);
      } in
      let empty : (m : Ahead) (k : ℕ) → Holds f m k → ⊥ = nothing s none in
      let within : length code ≤ f.size = omega arith in
      let step = marks f room (length code) within Rest (none (length code)) in
      close (3 * (length code + 1)) (marked f Rest (length code)) (record {
        size = step.size;
        room = room_kept f room (length code) within Rest;
        sound = begins_soundly code o f (marked f Rest (length code)) (length code) empty step refl;
        end = step.has;
        few = omega (arith, step.size);
      })
    where
      nothing : (s : List Bool) → ((k : ℕ) → HoldsPlace s k → ⊥) → (m : Ahead) (k : ℕ)
          → Holds (record { size = length code; rest = s; path = s; below = s }) m k → ⊥
      nothing s none Rest k h = none k h
      nothing s none Path k h = none k h
      nothing s none Below k h = none k h

-- for each limit
pub flags_found : (code : List Instruction) (most : Option ℕ) → (f : PlaceFlags) × AreFlagsOf code most f
flags_found code None = let (f, are) = flags_after code None in (f, are None tt)
flags_found code (Some zero) =
    let (f, are) = flags_after code (Some nothing_set) in (f, are (Some zero) (λ k h. true≢false (sym h)))
  where
    nothing_set : PlaceFlags
    nothing_set = record { size = 0; rest = []; path = []; below = [] }
flags_found code (Some (suc less)) =
    let (e, of_less) = flags_found code (Some less) in
    let (f, are) = flags_after code (Some e) in (f, are (Some (suc less)) (λ k. of_less Rest k))
