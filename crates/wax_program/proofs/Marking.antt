-- Flags that are added.
use Rattle.std.proofs.Common.{◌≡◌, ◌⊎◌, ℕ, ◌+◌, ◌*◌, ◌<◌, ◌≤◌, Bool, true, Option, Some, List, [], length}
use Rattle.std.proofs.Common.{set, slice_get, inl, inr, refl, sym, ◌∙◌, ap, subst, arith}
use Rattle.wax_program.specs.Places.{HoldsPlace, Within, member_count}
use Rattle.wax_program.specs.{declared.instruction.Instruction.Instruction, declared.onward.Ahead.Ahead}
use Rattle.wax_program.specs.declared.onward.Ahead.TheVariants.{Rest, Path, Below}
use Rattle.wax_program.specs.Onward.{PlaceFlags, GoesOn}
use Rattle.wax_program.specs.inner.Leads.{AreSoundAfter, Gains, HaveRoom, Holds, LeadsOn, Marks, flag_count}
use Rattle.wax_program.proofs.Members.{added_keeps, added_only, has_added, members_set, members_within}
use Rattle.wax_program.proofs.Leading.{leads_soundly, rest_ends}

-- ---- one set
module _ (old new : List Bool) (k : ℕ) (e : new ≡ set old k true) where
  keeps : (x : ℕ) → HoldsPlace old x → HoldsPlace new x
  keeps x h = subst (λ z. HoldsPlace z x) (sym e) (added_keeps old k x h)

  only : (x : ℕ) → HoldsPlace new x → HoldsPlace old x ⊎ (x ≡ k)
  only x h = added_only old k x (subst (λ z. HoldsPlace z x) e h)

  has : k < length old → HoldsPlace new k
  has lt = subst (λ z. HoldsPlace z k) (sym e) (has_added old k lt)

  counted : k < length old → (HoldsPlace old k → ⊥) → member_count new ≡ member_count old + 1
  counted lt none = ap member_count e ∙ members_set old k lt none

  pub still_within : (n : ℕ) → k < n → Within n old → Within n new
  still_within n lt within x h = elim (only x h) [ inl g ↦ within x g | inr same ↦ omega (arith, same, lt) ]

tagged : {A : Type 0} {B : Type 0} {C : Type 0} → C → A ⊎ B → A ⊎ (C × B)
tagged c (inl a) = inl a
tagged c (inr b) = inr (c, b)

-- ---- the three sets
module _ (f : PlaceFlags) (x : List Bool) (k : ℕ) (within : k ≤ f.size) (room : HaveRoom f) where
  pub marks_rest : (Holds f Rest k → ⊥) → x ≡ set f.rest k true
      → Marks f (record { size = f.size; rest = x; path = f.path; below = f.below }) Rest k
  marks_rest none e =
      let lt : k < length f.rest = omega (arith, within, room.rest) in
      record {
        size = refl;
        keeps = kept;
        has = has f.rest x k e lt;
        only = added;
        counted = omega (arith, counted f.rest x k e lt none);
      }
    where
      kept : (n : Ahead) (y : ℕ) → Holds f n y
          → Holds (record { size = f.size; rest = x; path = f.path; below = f.below }) n y
      kept Rest y h = keeps f.rest x k e y h
      kept Path y h = h
      kept Below y h = h

      added : (n : Ahead) (y : ℕ) → Holds (record { size = f.size; rest = x; path = f.path; below = f.below })
          n y → Holds f n y ⊎ ((n ≡ Rest) × (y ≡ k))
      added Rest y h = tagged refl (only f.rest x k e y h)
      added Path y h = inl h
      added Below y h = inl h

  pub marks_path : (Holds f Path k → ⊥) → x ≡ set f.path k true
      → Marks f (record { size = f.size; rest = f.rest; path = x; below = f.below }) Path k
  marks_path none e =
      let lt : k < length f.path = omega (arith, within, room.path) in
      record {
        size = refl;
        keeps = kept;
        has = has f.path x k e lt;
        only = added;
        counted = omega (arith, counted f.path x k e lt none);
      }
    where
      kept : (n : Ahead) (y : ℕ) → Holds f n y
          → Holds (record { size = f.size; rest = f.rest; path = x; below = f.below }) n y
      kept Rest y h = h
      kept Path y h = keeps f.path x k e y h
      kept Below y h = h

      added : (n : Ahead) (y : ℕ) → Holds (record { size = f.size; rest = f.rest; path = x; below = f.below })
          n y → Holds f n y ⊎ ((n ≡ Path) × (y ≡ k))
      added Rest y h = inl h
      added Path y h = tagged refl (only f.path x k e y h)
      added Below y h = inl h

  pub marks_below : (Holds f Below k → ⊥) → x ≡ set f.below k true
      → Marks f (record { size = f.size; rest = f.rest; path = f.path; below = x }) Below k
  marks_below none e =
      let lt : k < length f.below = omega (arith, within, room.below) in
      record {
        size = refl;
        keeps = kept;
        has = has f.below x k e lt;
        only = added;
        counted = omega (arith, counted f.below x k e lt none);
      }
    where
      kept : (n : Ahead) (y : ℕ) → Holds f n y
          → Holds (record { size = f.size; rest = f.rest; path = f.path; below = x }) n y
      kept Rest y h = h
      kept Path y h = h
      kept Below y h = keeps f.below x k e y h

      added : (n : Ahead) (y : ℕ) → Holds (record { size = f.size; rest = f.rest; path = f.path; below = x })
          n y → Holds f n y ⊎ ((n ≡ Below) × (y ≡ k))
      added Rest y h = inl h
      added Path y h = inl h
      added Below y h = tagged refl (only f.below x k e y h)

  few_of : (a b c : List Bool) → Within (f.size + 1) a → Within (f.size + 1) b → Within (f.size + 1) c
      → member_count a + member_count b + member_count c ≤ 3 * (f.size + 1)
  few_of a b c wa wb wc =
      omega (
        arith,
        members_within (f.size + 1) a wa,
        members_within (f.size + 1) b wb,
        members_within (f.size + 1) c wc,
      )

  inside : k < f.size + 1
  inside = omega (arith, within)

  pub few_rest : x ≡ set f.rest k true
      → member_count x + member_count f.path + member_count f.below ≤ 3 * (f.size + 1)
  few_rest e = few_of x f.path f.below (still_within f.rest x k e (f.size + 1) inside room.rest_within)
      room.path_within room.below_within

  pub few_path : x ≡ set f.path k true
      → member_count f.rest + member_count x + member_count f.below ≤ 3 * (f.size + 1)
  few_path e = few_of f.rest x f.below room.rest_within
      (still_within f.path x k e (f.size + 1) inside room.path_within) room.below_within

  pub few_below : x ≡ set f.below k true
      → member_count f.rest + member_count f.path + member_count x ≤ 3 * (f.size + 1)
  few_below e = few_of f.rest f.path x room.rest_within room.path_within
      (still_within f.below x k e (f.size + 1) inside room.below_within)

-- ---- the flags of a program
module _ (code : List Instruction) (o : Option PlaceFlags) where
  pub gains_none : (old new : PlaceFlags) → new ≡ old → Gains code o old new
  gains_none old new e = record {
    size = ap (λ f. f.size) e;
    keeps = λ m k h. subst (λ f. Holds f m k) (sym e) h;
    sound = λ s. subst (AreSoundAfter code o) (sym e) s;
    counted = omega (arith, ap flag_count e);
  }

  pub gains_mark : (old new : PlaceFlags) (m : Ahead) (k : ℕ) → Marks old new m k → (i : Instruction)
      → slice_get code k ≡ Some i → LeadsOn i o old m k
      → Gains code o old new
  gains_mark old new m k marks i is leads = record {
    size = marks.size;
    keeps = marks.keeps;
    sound = λ s most earlier n x h. elim (marks.only n x h) [
      | inl g ↦ s most earlier n x g
      | inr (en, ex) ↦ subst (λ n. GoesOn code most n x) (sym en)
          (subst (GoesOn code most m) (sym ex)
          (leads_soundly code most o old earlier (s most earlier) m k i is leads))
    ];
    counted = omega (arith, marks.counted);
  }

  pub gains_both : (old mid new : PlaceFlags) → Gains code o old mid → Gains code o mid new
      → Gains code o old new
  gains_both old mid new g h = record {
    size = h.size ∙ g.size;
    keeps = λ m k a. h.keeps m k (g.keeps m k a);
    sound = λ s. h.sound (g.sound s);
    counted = omega (arith, g.counted, h.counted);
  }

  -- the first flag is that of the program's end
  pub begins_soundly : (old new : PlaceFlags) (k : ℕ) → ((m : Ahead) (x : ℕ) → Holds old m x → ⊥)
      → Marks old new Rest k → k ≡ length code
      → AreSoundAfter code o new
  begins_soundly old new k none marks e most earlier m x h = elim (marks.only m x h) [
    | inl g ↦ absurd (none m x g)
    | inr (em, ex) ↦ subst (λ m. GoesOn code most m x) (sym em)
        ([], rest_ends most, (1, inl (ex ∙ e, refl)))
  ]
