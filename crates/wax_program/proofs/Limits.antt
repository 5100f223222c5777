-- Levels: the flags of each limit, found from those for one name fewer.
use Rattle.std.proofs.Common.{◌≡◌, ◌⊎◌, ℕ, zero, suc, ◌+◌, ◌-◌, ◌≤◌, Bool, IsTrue, List, [], ◌∷◌, ◌++◌, Some}
use Rattle.std.proofs.Common.{None, length, slice_get, inl, inr, refl, sym, ◌∙◌, ap, subst, arith}
use Rattle.std.proofs.{Common.length-append, lemmas.Bool.cases_eq}
use Rattle.std.proofs.lemmas.Option.{slice_get-get_or, slice_get_within}
use Rattle.wax_query.specs.Below.{IsPathWithin}
use Rattle.wax_program.specs.{declared.instruction.Instruction.Instruction, declared.onward.Ahead.Ahead}
use Rattle.wax_program.specs.declared.onward.Ahead.TheVariants.{Rest}
use Rattle.wax_program.specs.Onward.{AreFlagsOf, AreLevelsOf, GoesOn, HasLevel, LevelFlags, PlaceFlags}
use Rattle.wax_program.specs.inner.Leads.{AreFlagsAfter, HoldLast, Holds, IsEarlier, IsNextLevel}

pub some_same : {A : Type 0} {x y : A} → Some x ≡ Some y → x ≡ y
some_same e = cc

none_some : {A : Type 0} {x : A} → None ≡ Some x → ⊥
none_some e = cc

-- an element is one of those before, or the last one
slice_get-pushed : {A : Type 0} (xs : List A) (x y : A) (n : ℕ) → slice_get (xs ++ x ∷ []) n ≡ Some y
    → (slice_get xs n ≡ Some y) ⊎ ((n ≡ length xs) × (x ≡ y))
slice_get-pushed [] x y zero e = inr (refl, some_same e)
slice_get-pushed [] x y (suc n) e = absurd (none_some e)
slice_get-pushed (z ∷ xs) x y zero e = inl e
slice_get-pushed (z ∷ xs) x y (suc n) e = elim (slice_get-pushed xs x y n e) [
  | inl was ↦ inl was
  | inr (last, same) ↦ inr (ap suc last, same)
]

-- the last element has the last place, if there is one
pub last_place : {A : Type 0} (xs : List A) (x : A) → slice_get xs (length xs - 1) ≡ Some x
    → length xs ≡ length xs - 1 + 1
last_place xs x is = omega (arith, slice_get_within xs (length xs - 1) x is)

pub none_last : {A : Type 0} (xs : List A) → None ≡ slice_get xs (length xs - 1) → length xs ≡ 0
none_last [] e = refl
none_last (x ∷ xs) e =
    let last : ℕ = length (x ∷ xs) - 1 in
    absurd (none_some (e ∙ slice_get-get_or (x ∷ xs) last x (omega arith)))

-- a limit beyond the levels is known from the last one
pub some_levels : (l : LevelFlags) (most : ℕ) → HasLevel l most → length l.levels ≤ most
    → length l.levels ≡ length l.levels - 1 + 1
some_levels l most (inl lt) past = absurd (omega (arith, lt, past))
some_levels l most (inr (complete, some)) past = omega (arith, some)

module _ (code : List Instruction) where
  -- what goes on with a limit does so with one name more
  more_names : (n : ℕ) (s : List ℕ) → IsPathWithin (Some n) s → IsPathWithin (Some (suc n)) s
  more_names n s (names, are, some, few, e) = (names, are, some, omega (arith, few), e)

  goes_further : (n k : ℕ) → GoesOn code (Some n) Rest k → GoesOn code (Some (suc n)) Rest k
  goes_further n k (s, (scalars, (c, path)), a) = (s, (scalars, (c, more_names (suc n) (c ∷ s) path)), a)

  module _ (levels : List PlaceFlags) (e f : PlaceFlags) (are : AreFlagsAfter code (Some e) f) where
    pub first_level : length levels ≡ 0 → ((m : Ahead) (k : ℕ) → Holds e m k → ⊥) → IsNextLevel code levels f
    first_level none empty = record {
      flags = subst (λ n. AreFlagsOf code (Some n) f) (sym none) (are (Some 0) (λ k h. empty Rest k h));
      after = λ n d long is. absurd (omega (arith, none, long));
    }

    pub later_level : (n : ℕ) → length levels ≡ n + 1 → slice_get levels n ≡ Some e
        → AreFlagsOf code (Some n) e → IsNextLevel code levels f
    later_level n long is fewer =
        let next : suc n ≡ length levels = omega (arith, long) in
        record {
          flags = subst (λ z. AreFlagsOf code (Some z) f) next (are (Some (suc n)) (λ k. fewer Rest k));
          after = λ x d long' is'.
              let same : x ≡ n = omega (arith, long, long') in
              let one : slice_get levels n ≡ Some d = subst (λ z. slice_get levels z ≡ Some d) same is' in
              subst (λ z. AreFlagsAfter code (Some z) f) (some_same (sym is ∙ one)) are;
        }

  -- if no place more goes on with one name more, none does with any number of names
  module _ (x : ℕ) (e f : PlaceFlags) (last : AreFlagsOf code (Some x) e)
      (are : AreFlagsAfter code (Some e) f) (within : (k : ℕ) → Holds f Rest k → Holds e Rest k) where
    abbrev StaysEarlier : ℕ → Type 0
    StaysEarlier n = IsEarlier code (Some (suc n)) (Some e)

    at_last : (n : ℕ) → n ≡ x → StaysEarlier n
    at_last n same = subst StaysEarlier (sym same) (λ k. last Rest k)

    one_more : (n : ℕ) → StaysEarlier n → StaysEarlier (suc n)
    one_more n earlier k = (
      (λ h. goes_further n k ((earlier k).0 h)),
      (λ g. within k ((are (Some (suc n)) earlier Rest k).1 g)),
    )

    stays_earlier : (n : ℕ) → x ≤ n → StaysEarlier n
    stays_earlier zero le = at_last zero (omega (arith, le))
    stays_earlier (suc n) le = elim (cases_eq (suc n) x) [
      | inl same ↦ at_last (suc n) same
      | inr other ↦ one_more n (stays_earlier n (omega (arith, le, other)))
    ]

    holds_beyond : (most : ℕ) → x + 1 ≤ most → AreFlagsOf code (Some most) f
    holds_beyond zero le = absurd (omega (arith, le))
    holds_beyond (suc most) le = are (Some (suc most)) (stays_earlier most (omega (arith, le)))

  -- one more level
  module _ (l : LevelFlags) (f : PlaceFlags) (b : Bool) (held : AreLevelsOf code l)
      (next : IsNextLevel code l.levels f) (complete : IsTrue b → HoldLast l.levels f) where
    each_pushed : (n : ℕ) (g : PlaceFlags) → slice_get (l.levels ++ f ∷ []) n ≡ Some g
        → AreFlagsOf code (Some n) g
    each_pushed n g is = elim (slice_get-pushed l.levels f g n is) [
      | inl was ↦ held.each n g was
      | inr (last, same) ↦ subst (λ z. AreFlagsOf code (Some z) g) (sym last)
          (subst (AreFlagsOf code (Some (length l.levels))) same next.flags)
    ]

    beyond_pushed : IsTrue b → (n most : ℕ) (g : PlaceFlags) → length (l.levels ++ f ∷ []) ≡ n + 1 → n ≤ most
        → slice_get (l.levels ++ f ∷ []) n ≡ Some g → AreFlagsOf code (Some most) g
    beyond_pushed t n most g long le is =
        let (x, e, before, was, within) = complete t in
        let at : n ≡ length l.levels = omega (arith, long, length-append l.levels (f ∷ [])) in
        elim (slice_get-pushed l.levels f g n is) [
          | inl old ↦ absurd (omega (arith, at, slice_get_within l.levels n g old))
          | inr (_, same) ↦ subst (AreFlagsOf code (Some most)) same
              (holds_beyond x e f (held.each x e was) (next.after x e before was) within most
              (omega (arith, le, at, before)))
        ]

    pub one_level_more : AreLevelsOf code
        (record { levels = l.levels ++ f ∷ []; is_complete = b; others = l.others })
    one_level_more = record { each = each_pushed; beyond = beyond_pushed; others = held.others }

  -- the flags for a limit that is known
  pub flags_within : (l : LevelFlags) (most : ℕ) (f : PlaceFlags) → AreLevelsOf code l
      → slice_get l.levels most ≡ Some f → AreFlagsOf code (Some most) f
  flags_within l most f are is = are.each most f is

  pub flags_beyond : (l : LevelFlags) (n most : ℕ) (f : PlaceFlags) → AreLevelsOf code l → HasLevel l most
      → length l.levels ≤ most → length l.levels ≡ n + 1 → slice_get l.levels n ≡ Some f
      → AreFlagsOf code (Some most) f
  flags_beyond l n most f are (inl lt) past long is = absurd (omega (arith, lt, past))
  flags_beyond l n most f are (inr (complete, some)) past long is =
      are.beyond complete n most f long (omega (arith, past, long)) is
