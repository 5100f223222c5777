-- Pieces of a program, and which texts lead through them.
use Rattle.std.proofs.Common.{◌≡◌, ℕ, zero, suc, ◌+◌, ◌-◌, ◌≤◌, ◌⊎◌, List, [], ◌∷◌, ◌++◌, length, Some}
use Rattle.std.proofs.Common.{slice_get, refl, sym, ◌∙◌, ap, subst, inl, inr, arith, length-append}
use Rattle.std.proofs.{Common.append_assoc, lemmas.Option.slice_get_within}
use Rattle.wax_token.proofs.Copies.{AnyNumber, Many, OneThen}
use Rattle.wax_program.specs.{declared.instruction.Test.Test, declared.instruction.Instruction.Instruction}
use Rattle.wax_program.specs.declared.instruction.Instruction.TheVariants.{Check, Repeat, Components, Fork}
use Rattle.wax_program.specs.declared.instruction.Instruction.TheVariants.{Jump, Back}
use Rattle.wax_program.specs.Machine.{PassesTest, Moves, AcceptsIn, Accepts}
use Rattle.wax_program.proofs.Steps.{after_test, after_fork, after_jump, after_back, after_last, after_one}
use Rattle.wax_program.proofs.Steps.{after_any, after_slash}
use Rattle.wax_match.specs.{inner.Code.{loop, skip, choose}, inner.Ends.Stands}
use Rattle.wax_query.specs.Components.{EndsWithSlash}

-- the text has a front of P, and after it is accepted from the end on, in at most n instructions
pub record Through (P : List ℕ → Type 0) (code : List Instruction) (end n : ℕ) (s : List ℕ) : Type 0 where
  pub front : List ℕ
  pub back : List ℕ
  pub left : ℕ
  pub splits : s ≡ front ++ back
  pub meant : P front
  pub fewer : left ≤ n
  pub on : AcceptsIn code left end back

-- exactly the texts of P lead through the piece
pub record Spells (piece : List Instruction) (P : List ℕ → Type 0) : Type 0 where
  pub sound : (code : List Instruction) (at end n : ℕ) (s : List ℕ) → Stands code at piece
      → end ≡ at + length piece → AcceptsIn code n at s →
      Through P code end n s
  pub complete : (code : List Instruction) (at end : ℕ) (x y : List ℕ) → Stands code at piece
      → end ≡ at + length piece → P x → Accepts code end y →
      Accepts code at (x ++ y)

-- the instruction at a place is known
pub at_instruction : (code : List Instruction) (pc n : ℕ) (i : Instruction) (s : List ℕ)
    → slice_get code pc ≡ Some i → AcceptsIn code (suc n) pc s → Moves i (AcceptsIn code n) pc s
at_instruction code pc n i s is (inl h) = absurd (omega (arith, h.0, slice_get_within code pc i is))
at_instruction code pc n i s is (inr h) = let e : h.0 ≡ i = same (sym h.1 ∙ is) in
    subst (λ j. Moves j (AcceptsIn code n) pc s) e h.2
  where
    same : {j : Instruction} → Some j ≡ Some i → j ≡ i
    same e = cc

moved : (code : List Instruction) (a b n : ℕ) (s : List ℕ) → a ≡ b → AcceptsIn code n a s
    → AcceptsIn code n b s
moved code a b n s e h = subst (λ k. AcceptsIn code n k s) e h

pub moved_to : (code : List Instruction) (a b : ℕ) (s : List ℕ) → a ≡ b → Accepts code a s → Accepts code b s
moved_to code a b s e h = subst (λ k. Accepts code k s) e h

pub Stands-append : (code : List Instruction) (at : ℕ) (a b : List Instruction) → Stands code at (a ++ b)
    → Stands code at a × Stands code (at + length a) b
Stands-append code at [] b h = (tt, subst (λ k. Stands code k b) (let e : at ≡ at + 0 = omega arith in e) h)
Stands-append code at (i ∷ a) b h =
    let r : Stands code (at + 1) a × Stands code (at + 1 + length a) b =
    Stands-append code (at + 1) a b h.1 in (
      (h.0, r.0),
      subst (λ k. Stands code k b) (let e : at + 1 + length a ≡ at + length (i ∷ a) = omega arith in e) r.1,
    )

pub spells_empty : Spells [] (λ s. s ≡ [])
spells_empty = record {
  sound = λ code at end n s st e h. record {
    front = [];
    back = s;
    left = n;
    splits = refl;
    meant = refl;
    fewer = omega arith;
    on = moved code at end n s (omega (arith, e)) h;
  };
  complete = λ code at end x y st e p h. (
    h.0,
    subst (λ z. AcceptsIn code h.0 at (z ++ y)) (sym p) (moved code end at h.0 y (omega (arith, e)) h.1),
  );
}

abbrev pub OneOf : Test → List ℕ → Type 0
OneOf t s = (c : ℕ) × (s ≡ c ∷ []) × PassesTest t c

test_sound : (t : Test) (code : List Instruction) (at end n : ℕ) (s : List ℕ)
    → slice_get code at ≡ Some (Check t) → end ≡ at + 1 → AcceptsIn code n at s →
    Through (OneOf t) code end n s
test_sound t code at end zero s st e h = absurd h
test_sound t code at end (suc n) [] st e h = absurd (at_instruction code at n (Check t) [] st h)
test_sound t code at end (suc n) (c ∷ s) st e h =
    let r : PassesTest t c × AcceptsIn code n (at + 1) s = at_instruction code at n (Check t) (c ∷ s) st h in
    record {
      front = c ∷ [];
      back = s;
      left = n;
      splits = refl;
      meant = (c, refl, r.0);
      fewer = omega arith;
      on = moved code (at + 1) end n s (sym e) r.1;
    }

pub spells_test : (t : Test) → Spells (Check t ∷ []) (OneOf t)
spells_test t = record {
  sound = λ code at end n s st e h. test_sound t code at end n s st.0 e h;
  complete = λ code at end x y st e p h.
      subst (λ z. Accepts code at (z ++ y)) (sym p.1)
      (after_test t code at p.0 y st.0 p.2 (moved_to code end (at + 1) y e h));
}

-- a repeated test: W holds of no character, and of one that passes before a text of which it holds
module _ (t : Test) (W : List ℕ → Type 0) (nil : W [])
    (put : (c : ℕ) (s : List ℕ) → PassesTest t c → W s → W (c ∷ s))
    (take : (c : ℕ) (s : List ℕ) → W (c ∷ s) → PassesTest t c × W s) where
  module _ (code : List Instruction) (at end : ℕ) (st : slice_get code at ≡ Some (Repeat t))
      (e : end ≡ at + 1) where
    repeat_sound : (n : ℕ) (s : List ℕ) → AcceptsIn code n at s → Through W code end n s
    repeat_sound zero s h = absurd h
    repeat_sound (suc n) [] h =
        let r : AcceptsIn code n (at + 1) [] = at_instruction code at n (Repeat t) [] st h in
        record {
          front = [];
          back = [];
          left = n;
          splits = refl;
          meant = nil;
          fewer = omega arith;
          on = moved code (at + 1) end n [] (sym e) r;
        }
    repeat_sound (suc n) (c ∷ s) h = elim (at_instruction code at n (Repeat t) (c ∷ s) st h) [
      | inl g ↦ record {
        front = [];
        back = c ∷ s;
        left = n;
        splits = refl;
        meant = nil;
        fewer = omega arith;
        on = moved code (at + 1) end n (c ∷ s) (sym e) g;
      }
      | inr g ↦ (let r : Through W code end n s = repeat_sound n s g.1 in
          record {
            front = c ∷ r.front;
            back = r.back;
            left = r.left;
            splits = ap (λ z. c ∷ z) r.splits;
            meant = put c r.front g.0 r.meant;
            fewer = omega (arith, r.fewer);
            on = r.on;
          })
    ]

    repeat_complete : (x y : List ℕ) → W x → Accepts code end y → Accepts code at (x ++ y)
    repeat_complete [] y p h = after_last t code at y st (moved_to code end (at + 1) y e h)
    repeat_complete (c ∷ x) y p h =
        let q : PassesTest t c × W x = take c x p in
        after_one t code at c (x ++ y) st q.0 (repeat_complete x y q.1 h)

  pub spells_repeat : Spells (Repeat t ∷ []) W
  spells_repeat = record {
    sound = λ code at end n s st e h. repeat_sound code at end st.0 e n s h;
    complete = λ code at end x y st e p h. repeat_complete code at end st.0 e x y p h;
  }

module _ (code : List Instruction) (at end : ℕ) (st : slice_get code at ≡ Some Components)
    (e : end ≡ at + 1) where
  components_sound : (n : ℕ) (s : List ℕ) → AcceptsIn code n at s → Through EndsWithSlash code end n s
  components_sound zero s h = absurd h
  components_sound (suc n) [] h = absurd (at_instruction code at n Components [] st h)
  components_sound (suc n) (c ∷ s) h = elim (at_instruction code at n Components (c ∷ s) st h) [
    | inl g ↦ (let r : Through EndsWithSlash code end n s = components_sound n s g in
        record {
          front = c ∷ r.front;
          back = r.back;
          left = r.left;
          splits = ap (λ z. c ∷ z) r.splits;
          meant = (c ∷ r.meant.0, ap (λ z. c ∷ z) r.meant.1);
          fewer = omega (arith, r.fewer);
          on = r.on;
        })
    | inr g ↦ record {
      front = c ∷ [];
      back = s;
      left = n;
      splits = refl;
      meant = ([], ap (λ z. z ∷ []) g.0);
      fewer = omega arith;
      on = moved code (at + 1) end n s (sym e) g.1;
    }
  ]

  components_complete : (x y : List ℕ) → Accepts code end y → Accepts code at ((x ++ 47 ∷ []) ++ y)
  components_complete [] y h = after_slash code at 47 y st refl (moved_to code end (at + 1) y e h)
  components_complete (c ∷ x) y h = after_any code at c ((x ++ 47 ∷ []) ++ y) st (components_complete x y h)

pub spells_components : Spells (Components ∷ []) EndsWithSlash
spells_components = record {
  sound = λ code at end n s st e h. components_sound code at end st.0 e n s h;
  complete = λ code at end x y st e p h.
      subst (λ z. Accepts code at (z ++ y)) (sym p.1) (components_complete code at end st.0 e p.0 y h);
}

module _ {a b : List Instruction} {P Q : List ℕ → Type 0} where
  pub spells_append : Spells a P → Spells b Q → Spells (a ++ b) (OneThen P Q)
  spells_append f g = record {
    sound = λ code at end n s st e h.
        let w : Stands code at a × Stands code (at + length a) b = Stands-append code at a b st in
        let r : Through P code (at + length a) n s = f.sound code at (at + length a) n s w.0 refl h in
        let q : Through Q code end r.left r.back =
        g.sound code (at + length a) end r.left r.back w.1 (omega (arith, e, length-append a b)) r.on in
        record {
          front = r.front ++ q.front;
          back = q.back;
          left = q.left;
          splits = r.splits ∙ ap (λ z. r.front ++ z) q.splits ∙ sym (append_assoc r.front q.front q.back);
          meant = (r.front, q.front, refl, r.meant, q.meant);
          fewer = omega (arith, r.fewer, q.fewer);
          on = q.on;
        };
    complete = λ code at end x y st e p h.
        let w : Stands code at a × Stands code (at + length a) b = Stands-append code at a b st in
        let r : Accepts code (at + length a) (p.1 ++ y) =
        g.complete code (at + length a) end p.1 y w.1 (omega (arith, e, length-append a b)) p.4 h in
        let q : Accepts code at (p.0 ++ (p.1 ++ y)) =
        f.complete code at (at + length a) p.0 (p.1 ++ y) w.0 refl p.3 r in
        subst (λ z. Accepts code at z) (sym (append_assoc p.0 p.1 y) ∙ ap (λ z. z ++ y) (sym p.2)) q;
  }

module _ {a : List Instruction} {P Q : List ℕ → Type 0} where
  pub spells_same : ((s : List ℕ) → P s → Q s) → ((s : List ℕ) → Q s → P s) → Spells a P → Spells a Q
  spells_same to from f = record {
    sound = λ code at end n s st e h.
        let r : Through P code end n s = f.sound code at end n s st e h in
        record {
          front = r.front;
          back = r.back;
          left = r.left;
          splits = r.splits;
          meant = to r.front r.meant;
          fewer = r.fewer;
          on = r.on;
        };
    complete = λ code at end x y st e p h. f.complete code at end x y st e (from x p) h;
  }

module _ {a : List Instruction} {P : List ℕ → Type 0} (f : Spells a P) where
  module _ (code : List Instruction) (at end : ℕ) (st : Stands code at (loop a))
      (e : end ≡ at + length (loop a)) where
    back_at : Stands code (at + 1) a × (slice_get code (at + 1 + length a) ≡ Some (Back (length a + 1)))
    back_at = let w : Stands code (at + 1) a × Stands code (at + 1 + length a) (Back (length a + 1) ∷ []) =
        Stands-append code (at + 1) a (Back (length a + 1) ∷ []) st.1 in (w.0, w.1.0)

    loop_end : at + 1 + (length a + 1) ≡ end
    loop_end = omega (arith, e, length-append a (Back (length a + 1) ∷ []))

    -- a round of the body, the way back, and the further rounds
    round : (fuel n m : ℕ) (s x t : List ℕ) → n ≤ fuel → s ≡ x ++ t → P x → m ≤ n
        → AcceptsIn code m (at + 1 + length a) t →
        ((k : ℕ) → k ≤ fuel → AcceptsIn code k at t → Through (AnyNumber P) code end k t)
        → Through (AnyNumber P) code end (suc n) s
    round fuel n zero s x t le split p fewer h again = absurd h
    round fuel n (suc m) s x t le split p fewer h again =
        let back : AcceptsIn code m at t =
        moved code (at + 1 + length a - (length a + 1)) at m t (omega arith)
        (at_instruction code (at + 1 + length a) m (Back (length a + 1)) t back_at.1 h) in
        let q : Through (AnyNumber P) code end m t = again m (omega (arith, le, fewer)) back in
        record {
          front = x ++ q.front;
          back = q.back;
          left = q.left;
          splits = split ∙ ap (λ z. x ++ z) q.splits ∙ sym (append_assoc x q.front q.back);
          meant = (suc q.meant.0, (x, q.front, refl, p, q.meant.1));
          fewer = omega (arith, q.fewer, fewer);
          on = q.on;
        }

    -- with at most `fuel` instructions
    loop_sound : (fuel n : ℕ) (s : List ℕ) → n ≤ fuel → AcceptsIn code n at s
        → Through (AnyNumber P) code end n s
    loop_sound fuel zero s le h = absurd h
    loop_sound zero (suc n) s le h = absurd (omega (arith, le))
    loop_sound (suc fuel) (suc n) s le h =
        elim (at_instruction code at n (Fork (length a + 1)) s st.0 h) [
          | inl g ↦ (let r : Through P code (at + 1 + length a) n s =
              f.sound code (at + 1) (at + 1 + length a) n s back_at.0 refl g in
              round fuel n r.left s r.front r.back (omega (arith, le)) r.splits r.meant r.fewer r.on
              (λ k b g'. loop_sound fuel k r.back b g'))
          | inr g ↦ record {
            front = [];
            back = s;
            left = n;
            splits = refl;
            meant = (0, refl);
            fewer = omega arith;
            on = moved code (at + 1 + (length a + 1)) end n s loop_end g;
          }
        ]

    loop_complete : (k : ℕ) (x y : List ℕ) → Many P k x → Accepts code end y → Accepts code at (x ++ y)
    loop_complete zero x y p h = subst (λ z. Accepts code at (z ++ y)) (sym p)
        (after_fork (length a + 1) code at y st.0
        (inr (moved_to code end (at + 1 + (length a + 1)) y (sym loop_end) h)))
    loop_complete (suc k) x y p h =
        let r : Accepts code at (p.1 ++ y) = loop_complete k p.1 y p.4 h in
        let b : Accepts code (at + 1 + length a) (p.1 ++ y) =
        after_back (length a + 1) code (at + 1 + length a) (p.1 ++ y) back_at.1
        (moved_to code at (at + 1 + length a - (length a + 1)) (p.1 ++ y) (omega arith) r) in
        let q : Accepts code (at + 1) (p.0 ++ (p.1 ++ y)) =
        f.complete code (at + 1) (at + 1 + length a) p.0 (p.1 ++ y) back_at.0 refl p.3 b in
        subst (λ z. Accepts code at z) (sym (append_assoc p.0 p.1 y) ∙ ap (λ z. z ++ y) (sym p.2))
        (after_fork (length a + 1) code at (p.0 ++ (p.1 ++ y)) st.0 (inl q))

  pub spells_loop : Spells (loop a) (AnyNumber P)
  spells_loop = record {
    sound = λ code at end n s st e h. loop_sound code at end st e n n s (omega arith) h;
    complete = λ code at end x y st e p h. loop_complete code at end st e p.0 x y p.1 h;
  }

  module _ (code : List Instruction) (at end : ℕ) (st : Stands code at (skip a))
      (e : end ≡ at + length (skip a)) where
    skip_sound : (n : ℕ) (s : List ℕ) → AcceptsIn code n at s → Through (λ x. (x ≡ []) ⊎ P x) code end n s
    skip_sound zero s h = absurd h
    skip_sound (suc n) s h = elim (at_instruction code at n (Fork (length a)) s st.0 h) [
      | inl g ↦ (let r : Through P code end n s = f.sound code (at + 1) end n s st.1 (omega (arith, e)) g in
          record {
            front = r.front;
            back = r.back;
            left = r.left;
            splits = r.splits;
            meant = inr r.meant;
            fewer = omega (arith, r.fewer);
            on = r.on;
          })
      | inr g ↦ record {
        front = [];
        back = s;
        left = n;
        splits = refl;
        meant = inl refl;
        fewer = omega arith;
        on = moved code (at + 1 + length a) end n s (omega (arith, e)) g;
      }
    ]

    skip_complete : (x y : List ℕ) → (x ≡ []) ⊎ P x → Accepts code end y → Accepts code at (x ++ y)
    skip_complete x y (inl p) h = subst (λ z. Accepts code at (z ++ y)) (sym p)
        (after_fork (length a) code at y st.0
        (inr (moved_to code end (at + 1 + length a) y (omega (arith, e)) h)))
    skip_complete x y (inr p) h = after_fork (length a) code at (x ++ y) st.0
        (inl (f.complete code (at + 1) end x y st.1 (omega (arith, e)) p h))

  pub spells_skip : Spells (skip a) (λ s. (s ≡ []) ⊎ P s)
  spells_skip = record {
    sound = λ code at end n s st e h. skip_sound code at end st e n s h;
    complete = λ code at end x y st e p h. skip_complete code at end st e x y p h;
  }

module _ {a b : List Instruction} {P Q : List ℕ → Type 0} (f : Spells a P) (g : Spells b Q) where
  module _ (code : List Instruction) (at end : ℕ) (st : Stands code at (choose a b))
      (e : end ≡ at + length (choose a b)) where
    sides : Stands code (at + 1) a × (slice_get code (at + 1 + length a) ≡ Some (Jump (length b)))
        × Stands code (at + 1 + (length a + 1)) b
    sides =
        let w : Stands code (at + 1) a × Stands code (at + 1 + length a) (Jump (length b) ∷ b) =
        Stands-append code (at + 1) a (Jump (length b) ∷ b) st.1 in (
          w.0,
          w.1.0,
          subst (λ k. Stands code k b)
              (let z : at + 1 + length a + 1 ≡ at + 1 + (length a + 1) = omega arith in z) w.1.1,
        )

    second_end : end ≡ at + 1 + (length a + 1) + length b
    second_end = omega (arith, e, length-append a (Jump (length b) ∷ b))

    after_first : (n m : ℕ) (s x t : List ℕ) → s ≡ x ++ t → P x → m ≤ n
        → AcceptsIn code m (at + 1 + length a) t → Through (λ z. P z ⊎ Q z) code end (suc n) s
    after_first n zero s x t split p fewer h = absurd h
    after_first n (suc m) s x t split p fewer h = record {
      front = x;
      back = t;
      left = m;
      splits = split;
      meant = inl p;
      fewer = omega (arith, fewer);
      on = moved code (at + 1 + length a + 1 + length b) end m t (omega (arith, second_end))
          (at_instruction code (at + 1 + length a) m (Jump (length b)) t sides.1 h);
    }

    choose_sound : (n : ℕ) (s : List ℕ) → AcceptsIn code n at s → Through (λ z. P z ⊎ Q z) code end n s
    choose_sound zero s h = absurd h
    choose_sound (suc n) s h = elim (at_instruction code at n (Fork (length a + 1)) s st.0 h) [
      | inl k ↦ (let r : Through P code (at + 1 + length a) n s =
          f.sound code (at + 1) (at + 1 + length a) n s sides.0 refl k in
          after_first n r.left s r.front r.back r.splits r.meant r.fewer r.on)
      | inr k ↦ (let r : Through Q code end n s =
          g.sound code (at + 1 + (length a + 1)) end n s sides.2 second_end k in
          record {
            front = r.front;
            back = r.back;
            left = r.left;
            splits = r.splits;
            meant = inr r.meant;
            fewer = omega (arith, r.fewer);
            on = r.on;
          })
    ]

    choose_complete : (x y : List ℕ) → P x ⊎ Q x → Accepts code end y → Accepts code at (x ++ y)
    choose_complete x y (inl p) h = after_fork (length a + 1) code at
        (x ++ y) st.0 (inl (f.complete code (at + 1) (at + 1 + length a) x y sides.0 refl p
        (after_jump (length b) code (at + 1 + length a) y sides.1
        (moved_to code end (at + 1 + length a + 1 + length b) y (omega (arith, second_end)) h))))
    choose_complete x y (inr q) h = after_fork (length a + 1) code at (x ++ y) st.0
        (inr (g.complete code (at + 1 + (length a + 1)) end x y sides.2 second_end q h))

  pub spells_choose : Spells (choose a b) (λ s. P s ⊎ Q s)
  spells_choose = record {
    sound = λ code at end n s st e h. choose_sound code at end st e n s h;
    complete = λ code at end x y st e p h. choose_complete code at end st e x y p h;
  }
