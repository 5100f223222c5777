-- Flags that no instruction adds to are exactly those of the places that lead on.
use Rattle.std.proofs.Common.{◌≡◌, ◌≢◌, ◌⊎◌, ℕ, zero, suc, ◌+◌, ◌-◌, ◌<◌, List, [], ◌∷◌, Option, Some, None}
use Rattle.std.proofs.Common.{true, length, slice_get, inl, inr, refl, sym, subst, arith}
use Rattle.std.proofs.lemmas.Option.{slice_get_within}
use Rattle.std.specs.{Char.IsScalar, Str.all_scalars}
use Rattle.wax_query.proofs.Below.{Begins, path_begins, path_goes_on}
use Rattle.wax_query.specs.Below.{IsPathWithin, one_more_name}
use Rattle.wax_program.specs.declared.instruction.Instruction.{Instruction}
use Rattle.wax_program.specs.declared.instruction.Instruction.TheVariants.{Check, Repeat, Components, Fork}
use Rattle.wax_program.specs.declared.instruction.Instruction.TheVariants.{Jump, Back, End}
use Rattle.wax_program.specs.{declared.instruction.Test.Test, declared.onward.Ahead.Ahead}
use Rattle.wax_program.specs.declared.onward.Ahead.TheVariants.{Rest, Path, Below}
use Rattle.wax_program.specs.Machine.{PassesTest, Moves, AcceptsIn, Accepts, mark}
use Rattle.wax_program.specs.Onward.{AreFlagsOf, PlaceFlags, GoesOn, IsAhead, IsLeft, IsOther}
use Rattle.wax_program.specs.inner.Leads.{AreSound, Holds, HoldsAfter, HoldsByOther, IsClosedAt, IsEarlier}
use Rattle.wax_program.specs.inner.Leads.{LeadsBy, LeadsOn, earlier_flags, onward_by_slash}
use Rattle.wax_program.proofs.Scalars.{scalar_first, scalar_rest, scalar_small, scalars_more}
use Rattle.wax_program.proofs.Steps.{after_test, after_last, after_one, after_any, after_slash as past_slash}
use Rattle.wax_program.proofs.Steps.{after_fork, after_jump, after_back}

-- ---- how a text goes on
abbrev IsAheadIf : Option ℕ → Option Ahead → List ℕ → Type 0
IsAheadIf most None s = ⊥
IsAheadIf most (Some m) s = IsAhead most m s

abbrev IsLeftIf : Option ℕ → Option Ahead → List ℕ → Type 0
IsLeftIf most None s = ⊥
IsLeftIf most (Some m) s = IsLeft most m s

-- after a character other than `/`: the first one of a path leaves one name fewer
abbrev AheadByOther : Option ℕ → Ahead → List ℕ → Type 0
AheadByOther most Rest s = IsAhead most Rest s
AheadByOther most Path s = (less : Option ℕ) × (most ≡ one_more_name less) × IsAhead less Rest s
AheadByOther most Below s = ⊥

abbrev LeftByOther : Option ℕ → Ahead → List ℕ → Type 0
LeftByOther most Rest s = IsLeft most Rest s
LeftByOther most Path s = (less : Option ℕ) × (most ≡ one_more_name less) × IsLeft less Rest s
LeftByOther most Below s = ⊥

path_step : (most : Option ℕ) (c : ℕ) (s : List ℕ) → Begins most (c ∷ s)
    → (c ≢ 47) × LeftByOther most Path s
path_step None c s h = (h.0, (None, refl, (path_goes_on None s).1 h.1))
path_step (Some zero) c s h = absurd h
path_step (Some (suc less)) c s h = (h.0, (Some less, refl, (path_goes_on (Some less) s).1 h.1))

path_other : (less : Option ℕ) (c : ℕ) (s : List ℕ) → c ≢ 47 → IsLeft less Rest s
    → Begins (one_more_name less) (c ∷ s)
path_other None c s ne h = (ne, (path_goes_on None s).0 h)
path_other (Some less) c s ne h = (ne, (path_goes_on (Some less) s).0 h)

left_step : (most : Option ℕ) (m : Ahead) (c : ℕ) (s : List ℕ) → IsLeft most m (c ∷ s)
    → ((c ≢ 47) × LeftByOther most m s) ⊎ ((c ≡ 47) × IsLeftIf most (onward_by_slash m) s)
left_step most Rest c s h = elim ((path_goes_on most (c ∷ s)).0 h) [
  | inl (ne, g) ↦ inl (ne, (path_goes_on most s).1 g)
  | inr (e, g) ↦ inr (e, (path_begins most s).1 g)
]
left_step most Path c s h = inl (path_step most c s ((path_begins most (c ∷ s)).0 h))
left_step most Below c s h = inr (first h.2, subst (IsPathWithin most) (sym (others h.2)) h.1)
  where
    first : {p : List ℕ} → c ∷ s ≡ 47 ∷ p → c ≡ 47
    first e = cc

    others : {p : List ℕ} → c ∷ s ≡ 47 ∷ p → s ≡ p
    others e = cc

left_other : (most : Option ℕ) (m : Ahead) (c : ℕ) (s : List ℕ) → c ≢ 47 → LeftByOther most m s
    → IsLeft most m (c ∷ s)
left_other most Rest c s ne h = (path_goes_on most (c ∷ s)).1 (inl (ne, (path_goes_on most s).0 h))
left_other most Path c s ne (less, e, h) =
    (path_begins most (c ∷ s)).1 (subst (λ z. Begins z (c ∷ s)) (sym e) (path_other less c s ne h))
left_other most Below c s ne h = absurd h

left_slash : (most : Option ℕ) (m : Ahead) (s : List ℕ) → IsLeftIf most (onward_by_slash m) s
    → IsLeft most m (47 ∷ s)
left_slash most Rest s h = (path_goes_on most (47 ∷ s)).1 (inr (refl, (path_begins most s).0 h))
left_slash most Path s h = absurd h
left_slash most Below s h = (s, h, refl)

with_scalars : (most : Option ℕ) (o : Option Ahead) (s : List ℕ) → all_scalars s ≡ true → IsLeftIf most o s
    → IsAheadIf most o s
with_scalars most None s scalars h = absurd h
with_scalars most (Some m) s scalars h = (scalars, h)

its_parts : (most : Option ℕ) (o : Option Ahead) (s : List ℕ) → IsAheadIf most o s
    → (all_scalars s ≡ true) × IsLeftIf most o s
its_parts most None s h = absurd h
its_parts most (Some m) s h = h

other_scalars : (most : Option ℕ) (m : Ahead) (s : List ℕ) → all_scalars s ≡ true → LeftByOther most m s
    → AheadByOther most m s
other_scalars most Rest s scalars h = (scalars, h)
other_scalars most Path s scalars (less, e, h) = (less, e, (scalars, h))
other_scalars most Below s scalars h = absurd h

other_parts : (most : Option ℕ) (m : Ahead) (s : List ℕ) → AheadByOther most m s
    → (all_scalars s ≡ true) × LeftByOther most m s
other_parts most Rest s h = h
other_parts most Path s (less, e, (scalars, h)) = (scalars, (less, e, h))
other_parts most Below s h = absurd h

ahead_step : (most : Option ℕ) (m : Ahead) (c : ℕ) (s : List ℕ) → IsAhead most m (c ∷ s)
    → (IsOther c × AheadByOther most m s) ⊎ ((c ≡ 47) × IsAheadIf most (onward_by_slash m) s)
ahead_step most m c s (scalars, h) =
    let rest = scalar_rest c s scalars in
    elim (left_step most m c s h) [
      | inl (ne, g) ↦ inl ((scalar_first c s scalars, ne), other_scalars most m s rest g)
      | inr (e, g) ↦ inr (e, with_scalars most (onward_by_slash m) s rest g)
    ]

ahead_other : (most : Option ℕ) (m : Ahead) (c : ℕ) (s : List ℕ) → IsOther c → AheadByOther most m s
    → IsAhead most m (c ∷ s)
ahead_other most m c s other h =
    let (scalars, g) = other_parts most m s h in
    (scalars_more c s other.0 scalars, left_other most m c s other.1 g)

ahead_slash : (most : Option ℕ) (m : Ahead) (s : List ℕ) → IsAheadIf most (onward_by_slash m) s
    → IsAhead most m (47 ∷ s)
ahead_slash most m s h =
    let (scalars, g) = its_parts most (onward_by_slash m) s h in
    (scalars_more 47 s refl scalars, left_slash most m s g)

pub rest_ends : (most : Option ℕ) → IsAhead most Rest []
rest_ends most = (refl, (path_goes_on most []).1 tt)

-- the mark of a number is no character
no_mark : (most : Option ℕ) (m : Ahead) (number : ℕ) (s : List ℕ) → s ≡ mark number ∷ []
    → IsAhead most m s → ⊥
no_mark most m number s e (scalars, h) =
    let of_mark : all_scalars (mark number ∷ []) ≡ true = subst (λ z. all_scalars z ≡ true) e scalars in
    omega (arith, scalar_small (mark number) (scalar_first (mark number) [] of_mark))

path_not_empty : (most : Option ℕ) → IsPathWithin most [] → ⊥
path_not_empty most h = (path_begins most []).0 h

below_not_empty : {p : List ℕ} → [] ≡ 47 ∷ p → ⊥
below_not_empty e = cc

raised_none : (less : Option ℕ) → None ≡ one_more_name less → less ≡ None
raised_none None e = refl
raised_none (Some n) e = cc

raised_zero : (less : Option ℕ) → Some 0 ≡ one_more_name less → ⊥
raised_zero None e = cc
raised_zero (Some n) e = absurd (same e)
  where
    same : Some 0 ≡ Some (suc n) → ⊥
    same e = cc

raised_some : (n : ℕ) (less : Option ℕ) → Some (suc n) ≡ one_more_name less → less ≡ Some n
raised_some n None e = cc
raised_some n (Some x) e = cc

module _ (code : List Instruction) (most : Option ℕ) (o : Option PlaceFlags) (f : PlaceFlags)
    (earlier : IsEarlier code most o) where
  -- ---- what a place with a flag accepts
  module _ (sound : AreSound code most f) where
    goes_if : (m : Option Ahead) (x : ℕ) → HoldsAfter f m x
        → (s : List ℕ) × IsAheadIf most m s × Accepts code x s
    goes_if None x h = absurd h
    goes_if (Some m) x h = sound m x h

    goes_earlier : (x : ℕ) → Holds (earlier_flags o f) Rest x
        → (s : List ℕ) × AheadByOther most Path s × Accepts code x s
    goes_earlier x h = of most o earlier sound h
      where
        of : (most : Option ℕ) (o : Option PlaceFlags) → IsEarlier code most o → AreSound code most f
            → Holds (earlier_flags o f) Rest x
            → (s : List ℕ) × AheadByOther most Path s × Accepts code x s
        of None None is sound h = let (s, ahead, a) = sound Rest x h in (s, (None, refl, ahead), a)
        of None (Some e) is sound h = absurd is
        of (Some zero) None is sound h = absurd is
        of (Some zero) (Some e) is sound h = absurd (is x h)
        of (Some (suc n)) None is sound h = absurd is
        of (Some (suc n)) (Some e) is sound h =
            let (s, ahead, a) = (is x).0 h in (s, (Some n, refl, ahead), a)

    goes_other : (m : Ahead) (x : ℕ) → HoldsByOther o f m x
        → (s : List ℕ) × AheadByOther most m s × Accepts code x s
    goes_other Rest x h = sound Rest x h
    goes_other Path x h = goes_earlier x h
    goes_other Below x h = absurd h

    zero_other : (c : ℕ) → c ≡ 0 → IsOther c
    zero_other c z = (subst IsScalar (sym z) refl, λ e. omega (arith, z, e))

    sound_by : (t : Test) (m : Ahead) (k x : ℕ)
        → ((c : ℕ) (s : List ℕ) → PassesTest t c → Accepts code x s → Accepts code k (c ∷ s))
        → LeadsBy t o f m x → GoesOn code most m k
    sound_by t m k x on (inl ((c, other, p), h)) =
        let (s, ahead, a) = goes_other m x h in (c ∷ s, ahead_other most m c s other ahead, on c s p a)
    sound_by t m k x on (inr (p, h)) =
        let (s, ahead, a) = goes_if (onward_by_slash m) x h in
        (47 ∷ s, ahead_slash most m s ahead, on 47 s p a)

    sound_from : (m : Ahead) (k x : ℕ) → ((s : List ℕ) → Accepts code x s → Accepts code k s)
        → Holds f m x → GoesOn code most m k
    sound_from m k x on h = let (s, ahead, a) = sound m x h in (s, ahead, on s a)

    pub leads_soundly : (m : Ahead) (k : ℕ) (i : Instruction) → slice_get code k ≡ Some i
        → LeadsOn i o f m k → GoesOn code most m k
    leads_soundly m k (Check t) is h = sound_by t m k (k + 1) (λ c s p a. after_test t code k c s is p a) h
    leads_soundly m k (Repeat t) is (inl h) = sound_from m k (k + 1) (λ s a. after_last t code k s is a) h
    leads_soundly m k (Repeat t) is (inr h) = sound_by t m k k (λ c s p a. after_one t code k c s is p a) h
    leads_soundly m k Components is (inl h) =
        let (s, ahead, a) = goes_other m k h in
        (0 ∷ s, ahead_other most m 0 s (zero_other 0 refl) ahead, after_any code k 0 s is a)
    leads_soundly m k Components is (inr (inl h)) =
        let (s, ahead, a) = goes_if (onward_by_slash m) k h in
        (47 ∷ s, ahead_slash most m s ahead, after_any code k 47 s is a)
    leads_soundly m k Components is (inr (inr h)) =
        let (s, ahead, a) = goes_if (onward_by_slash m) (k + 1) h in
        (47 ∷ s, ahead_slash most m s ahead, past_slash code k 47 s is refl a)
    leads_soundly m k (Fork n) is (inl h) = sound_from m k (k + 1) (λ s a. after_fork n code k s is (inl a)) h
    leads_soundly m k (Fork n) is (inr h) =
        sound_from m k (k + 1 + n) (λ s a. after_fork n code k s is (inr a)) h
    leads_soundly m k (Jump n) is h = sound_from m k (k + 1 + n) (λ s a. after_jump n code k s is a) h
    leads_soundly m k (Back n) is h = sound_from m k (k - n) (λ s a. after_back n code k s is a) h
    leads_soundly m k (End low high) is h = absurd h

  -- ---- which places have a flag
  module _ (closed : (k : ℕ) → k < length code → IsClosedAt code o f k)
      (end : Holds f Rest (length code)) where
    abbrev HoldAll : ℕ → Type 0
    HoldAll n = (m : Ahead) (x : ℕ) (t : List ℕ) → AcceptsIn code n x t → IsAhead most m t → Holds f m x

    holds_if : (n : ℕ) → HoldAll n → (m : Option Ahead) (x : ℕ) (s : List ℕ) → IsAheadIf most m s
        → AcceptsIn code n x s → HoldsAfter f m x
    holds_if n again None x s h a = absurd h
    holds_if n again (Some m) x s h a = again m x s a h

    holds_earlier : (n : ℕ) → HoldAll n → (x : ℕ) (s : List ℕ) (less : Option ℕ) → most ≡ one_more_name less
        → IsAhead less Rest s → AcceptsIn code n x s → Holds (earlier_flags o f) Rest x
    holds_earlier n again x s less e h a = of most o earlier again e
      where
        of : (most : Option ℕ) (o : Option PlaceFlags) → IsEarlier code most o
            → ((m : Ahead) (x : ℕ) (t : List ℕ) → AcceptsIn code n x t → IsAhead most m t → Holds f m x)
            → most ≡ one_more_name less → Holds (earlier_flags o f) Rest x
        of None None is again e =
            again Rest x s a (subst (λ z. IsAhead z Rest s) (raised_none less e) h)
        of None (Some e) is again same = absurd is
        of (Some zero) None is again same = absurd is
        of (Some zero) (Some e) is again same = absurd (raised_zero less same)
        of (Some (suc n)) None is again same = absurd is
        of (Some (suc least)) (Some e) is again same =
            (is x).1 (s, subst (λ z. IsAhead z Rest s) (raised_some least less same) h, (n, a))

    holds_other : (n : ℕ) → HoldAll n → (m : Ahead) (x : ℕ) (s : List ℕ) → AheadByOther most m s
        → AcceptsIn code n x s → HoldsByOther o f m x
    holds_other n again Rest x s h a = again Rest x s a h
    holds_other n again Path x s (less, e, h) a = holds_earlier n again x s less e h a
    holds_other n again Below x s h a = absurd h

    leads_on : (n : ℕ) (m : Ahead) (k : ℕ) (i : Instruction) (s : List ℕ) → HoldAll n → IsAhead most m s
        → Moves i (AcceptsIn code n) k s → LeadsOn i o f m k
    leads_on n m k (Check t) [] again h g = absurd g
    leads_on n m k (Check t) (c ∷ s) again h (p, a) = elim (ahead_step most m c s h) [
      | inl (other, h') ↦ inl ((c, other, p), holds_other n again m (k + 1) s h' a)
      | inr (e, h') ↦ inr (subst (PassesTest t) e p, holds_if n again (onward_by_slash m) (k + 1) s h' a)
    ]
    leads_on n m k (Repeat t) [] again h a = inl (again m (k + 1) [] a h)
    leads_on n m k (Repeat t) (c ∷ s) again h (inl a) = inl (again m (k + 1) (c ∷ s) a h)
    leads_on n m k (Repeat t) (c ∷ s) again h (inr (p, a)) = elim (ahead_step most m c s h) [
      | inl (other, h') ↦ inr (inl ((c, other, p), holds_other n again m k s h' a))
      | inr (e, h') ↦ inr (inr (subst (PassesTest t) e p, holds_if n again (onward_by_slash m) k s h' a))
    ]
    leads_on n m k Components [] again h g = absurd g
    leads_on n m k Components (c ∷ s) again h (inl a) = elim (ahead_step most m c s h) [
      | inl (other, h') ↦ inl (holds_other n again m k s h' a)
      | inr (e, h') ↦ inr (inl (holds_if n again (onward_by_slash m) k s h' a))
    ]
    leads_on n m k Components (c ∷ s) again h (inr (e, a)) = elim (ahead_step most m c s h) [
      | inl (other, h') ↦ absurd (other.1 e)
      | inr (_, h') ↦ inr (inr (holds_if n again (onward_by_slash m) (k + 1) s h' a))
    ]
    leads_on n m k (Fork b) s again h (inl a) = inl (again m (k + 1) s a h)
    leads_on n m k (Fork b) s again h (inr a) = inr (again m (k + 1 + b) s a h)
    leads_on n m k (Jump b) s again h a = again m (k + 1 + b) s a h
    leads_on n m k (Back b) s again h a = again m (k - b) s a h
    leads_on n m k (End low high) s again h a = absurd (no_mark most m a.0 s a.3 h)

    at_end : (m : Ahead) (k : ℕ) → k ≡ length code → IsAhead most m [] → Holds f m k
    at_end Rest k e h = subst (Holds f Rest) (sym e) end
    at_end Path k e h = absurd (path_not_empty most h.1)
    at_end Below k e h = absurd (below_not_empty h.1.2)

    holds_all : (n : ℕ) (m : Ahead) (k : ℕ) (s : List ℕ) → AcceptsIn code n k s → IsAhead most m s
        → Holds f m k
    holds_all zero m k s a h = absurd a
    holds_all (suc n) m k s (inl (e, none)) h = at_end m k e (subst (IsAhead most m) none h)
    holds_all (suc n) m k s (inr (i, is, a)) h =
        closed k (slice_get_within code k i is) m i is
        (leads_on n m k i s (λ m x t b g. holds_all n m x t b g) h a)

    pub flags_are : AreSound code most f → AreFlagsOf code most f
    flags_are sound m k = (sound m k, (λ g. holds_all g.2.0 m k g.0 g.2.1 g.1))
