-- A round over the places that a run has reached.
use Rattle.std.proofs.Common.{◌≡◌, ℕ, zero, suc, ◌+◌, ◌-◌, ◌*◌, ◌<◌, ◌≤◌, ◌⊎◌, Bool, List, [], ◌∷◌, length}
use Rattle.std.proofs.Common.{Some, slice_get, get_or, drop, drop-cons, refl, sym, ◌∙◌, ap, subst, inl, inr}
use Rattle.std.proofs.Common.{arith, IsUtf8, chars, encode_utf8, encode_utf8_all, length-append}
use Rattle.std.proofs.lemmas.Option.{slice_get_within}
use Rattle.std.proofs.lemmas.Str.{encodes-chars, len_utf8_bounds, length-encode, length-le-encodes}
use Rattle.std.proofs.Math.Nat.{mul-le-mul_left, mul-le-mul_right}
use Rattle.wax_program.specs.{declared.instruction.Test.Test, declared.instruction.Instruction.Instruction}
use Rattle.wax_program.specs.declared.instruction.Instruction.TheVariants.{Check, Repeat, Components, Fork}
use Rattle.wax_program.specs.declared.instruction.Instruction.TheVariants.{Jump, Back, End}
use Rattle.wax_program.specs.Machine.{PassesTest, Moves, AcceptsIn, Accepts}
use Rattle.wax_program.specs.Places.{HoldsPlace, IsEmpty, member_count}
use Rattle.wax_program.specs.Threads.{IsDone, Position, IsReached, Taken, Inserted, InsertedNext, AnyOf, Led}
use Rattle.wax_program.specs.Threads.{Handled, Followed, Round, Advances, Stays}
use Rattle.wax_program.proofs.Members.{members_some}
use Rattle.wax_program.proofs.Steps.{after_test, after_last, after_one, after_any, after_slash, after_fork}
use Rattle.wax_program.proofs.Steps.{after_jump, after_back}

-- ---- one place
some_same : {i j : Instruction} → Some i ≡ Some j → i ≡ j
some_same e = cc

handled_as : (code : List Instruction) (c k : ℕ) (p : Position) (i : Instruction) → slice_get code k ≡ Some i
    → Led i c k p → Handled code c p k
handled_as code c k p i is led j js = subst (λ z. Led z c k p) (some_same (sym is ∙ js)) led

inserted_reached : (p q : Position) (at x : ℕ) → Inserted p q at → IsReached p x → IsReached q x
inserted_reached p q at x g (inl h) = inl (g.keeps x h)
inserted_reached p q at x g (inr h) = inr (subst (λ z. HoldsPlace z x) (sym g.read) h)

next_reached : (p q : Position) (at x : ℕ) → InsertedNext p q at → IsReached p x → IsReached q x
next_reached p q at x g (inl h) = inl (subst (λ z. HoldsPlace z x) (sym g.pending) h)
next_reached p q at x g (inr h) = inr (subst (λ z. HoldsPlace z x) (sym g.read) h)

module _ (code : List Instruction) (c k : ℕ) (old new : Position) where
  pub followed_fork : (n : ℕ) (mid : Position) → slice_get code k ≡ Some (Fork n) → Inserted old mid (k + 1)
      → Inserted mid new (k + 1 + n) → Followed code c k old new
  followed_fork n mid is g h = record {
    size = h.size ∙ g.size;
    read = h.read ∙ g.read;
    handled = handled_as code c k new (Fork n) is (
      (λ lt. inserted_reached mid new (k + 1 + n) (k + 1) h (g.adds (omega (arith, lt, h.size, g.size)))),
      (λ lt. h.adds (omega (arith, lt, h.size))),
    );
    keeps = λ x e. h.keeps x (g.keeps x e);
    keeps_next = λ x e. subst (λ z. HoldsPlace z x) (sym (h.next ∙ g.next)) e;
    only = λ x e. elim (h.only x e) [
      | inl m ↦ elim (g.only x m) [
        | inl o ↦ inl o
        | inr same ↦ inr (λ s a. after_fork n code k s is (inl (subst (λ z. Accepts code z s) same a)))
      ]
      | inr same ↦ inr (λ s a. after_fork n code k s is (inr (subst (λ z. Accepts code z s) same a)))
    ];
    only_next = λ x e. inl (subst (λ z. HoldsPlace z x) (h.next ∙ g.next) e);
  }

  pub followed_jump : (n : ℕ) → slice_get code k ≡ Some (Jump n) → Inserted old new (k + 1 + n)
      → Followed code c k old new
  followed_jump n is g = record {
    size = g.size;
    read = g.read;
    handled = handled_as code c k new (Jump n) is (λ lt. g.adds (omega (arith, lt, g.size)));
    keeps = g.keeps;
    keeps_next = λ x e. subst (λ z. HoldsPlace z x) (sym g.next) e;
    only = λ x e. elim (g.only x e) [
      | inl o ↦ inl o
      | inr same ↦ inr (λ s a. after_jump n code k s is (subst (λ z. Accepts code z s) same a))
    ];
    only_next = λ x e. inl (subst (λ z. HoldsPlace z x) g.next e);
  }

  pub followed_back : (n : ℕ) → slice_get code k ≡ Some (Back n) → Inserted old new (k - n)
      → Followed code c k old new
  followed_back n is g = record {
    size = g.size;
    read = g.read;
    handled = handled_as code c k new (Back n) is (λ lt. g.adds (omega (arith, lt, g.size)));
    keeps = g.keeps;
    keeps_next = λ x e. subst (λ z. HoldsPlace z x) (sym g.next) e;
    only = λ x e. elim (g.only x e) [
      | inl o ↦ inl o
      | inr same ↦ inr (λ s a. after_back n code k s is (subst (λ z. Accepts code z s) same a))
    ];
    only_next = λ x e. inl (subst (λ z. HoldsPlace z x) g.next e);
  }

  pub followed_end : (i j : ℕ) → slice_get code k ≡ Some (End i j) → c < 1114112 → new ≡ old
      → Followed code c k old new
  followed_end i j is lt same = record {
    size = ap (λ p. p.size) same;
    read = ap (λ p. p.read) same;
    handled = handled_as code c k new (End i j) is (λ number e. absurd (omega (arith, e, lt)));
    keeps = λ x e. subst (λ p. HoldsPlace p.pending x) (sym same) e;
    keeps_next = λ x e. subst (λ p. HoldsPlace p.next x) (sym same) e;
    only = λ x e. inl (subst (λ p. HoldsPlace p.pending x) same e);
    only_next = λ x e. inl (subst (λ p. HoldsPlace p.next x) same e);
  }

  pub followed_pass : (t : Test) → slice_get code k ≡ Some (Check t) → PassesTest t c
      → InsertedNext old new (k + 1) → Followed code c k old new
  followed_pass t is p g = record {
    size = g.size;
    read = g.read;
    handled = handled_as code c k new (Check t) is (λ q lt. g.adds (omega (arith, lt, g.size)));
    keeps = λ x e. subst (λ z. HoldsPlace z x) (sym g.pending) e;
    keeps_next = g.keeps;
    only = λ x e. inl (subst (λ z. HoldsPlace z x) g.pending e);
    only_next = λ x e. elim (g.only x e) [
      | inl o ↦ inl o
      | inr same ↦ inr (λ s a. after_test t code k c s is p (subst (λ z. Accepts code z s) same a))
    ];
  }

  pub followed_more : (t : Test) (mid : Position) → slice_get code k ≡ Some (Repeat t) → PassesTest t c
      → Inserted old mid (k + 1) → InsertedNext mid new k → Followed code c k old new
  followed_more t mid is p g h = record {
    size = h.size ∙ g.size;
    read = h.read ∙ g.read;
    handled = handled_as code c k new (Repeat t) is (
      (λ lt. next_reached mid new k (k + 1) h (g.adds (omega (arith, lt, h.size, g.size)))),
      (λ q lt. h.adds (omega (arith, lt, h.size))),
    );
    keeps = λ x e. subst (λ z. HoldsPlace z x) (sym h.pending) (g.keeps x e);
    keeps_next = λ x e. h.keeps x (subst (λ z. HoldsPlace z x) (sym g.next) e);
    only = λ x e. elim (g.only x (subst (λ z. HoldsPlace z x) h.pending e)) [
      | inl o ↦ inl o
      | inr same ↦ inr (λ s a. after_last t code k s is (subst (λ z. Accepts code z s) same a))
    ];
    only_next = λ x e. elim (h.only x e) [
      | inl m ↦ inl (subst (λ z. HoldsPlace z x) g.next m)
      | inr same ↦ inr (λ s a. after_one t code k c s is p (subst (λ z. Accepts code z s) same a))
    ];
  }

  pub followed_last : (t : Test) → slice_get code k ≡ Some (Repeat t) → (PassesTest t c → ⊥)
      → Inserted old new (k + 1) → Followed code c k old new
  followed_last t is p g = record {
    size = g.size;
    read = g.read;
    handled = handled_as code c k new (Repeat t) is
        ((λ lt. g.adds (omega (arith, lt, g.size))), (λ q lt. absurd (p q)));
    keeps = g.keeps;
    keeps_next = λ x e. subst (λ z. HoldsPlace z x) (sym g.next) e;
    only = λ x e. elim (g.only x e) [
      | inl o ↦ inl o
      | inr same ↦ inr (λ s a. after_last t code k s is (subst (λ z. Accepts code z s) same a))
    ];
    only_next = λ x e. inl (subst (λ z. HoldsPlace z x) g.next e);
  }

  pub followed_any : slice_get code k ≡ Some Components → (c ≡ 47 → ⊥) → InsertedNext old new k
      → Followed code c k old new
  followed_any is p g = record {
    size = g.size;
    read = g.read;
    handled = handled_as code c k new Components is
        ((λ lt. g.adds (omega (arith, lt, g.size))), (λ q lt. absurd (p q)));
    keeps = λ x e. subst (λ z. HoldsPlace z x) (sym g.pending) e;
    keeps_next = g.keeps;
    only = λ x e. inl (subst (λ z. HoldsPlace z x) g.pending e);
    only_next = λ x e. elim (g.only x e) [
      | inl o ↦ inl o
      | inr same ↦ inr (λ s a. after_any code k c s is (subst (λ z. Accepts code z s) same a))
    ];
  }

  pub followed_slash : (mid : Position) → slice_get code k ≡ Some Components → c ≡ 47 → InsertedNext old mid k
      → InsertedNext mid new (k + 1) → Followed code c k old new
  followed_slash mid is p g h = record {
    size = h.size ∙ g.size;
    read = h.read ∙ g.read;
    handled = handled_as code c k new Components is (
      (λ lt. h.keeps k (g.adds (omega (arith, lt, h.size, g.size)))),
      (λ q lt. h.adds (omega (arith, lt, h.size))),
    );
    keeps = λ x e. subst (λ z. HoldsPlace z x) (sym (h.pending ∙ g.pending)) e;
    keeps_next = λ x e. h.keeps x (g.keeps x e);
    only = λ x e. inl (subst (λ z. HoldsPlace z x) (h.pending ∙ g.pending) e);
    only_next = λ x e. elim (h.only x e) [
      | inl m ↦ elim (g.only x m) [
        | inl o ↦ inl o
        | inr same ↦ inr (λ s a. after_any code k c s is (subst (λ z. Accepts code z s) same a))
      ]
      | inr same ↦ inr (λ s a. after_slash code k c s is p (subst (λ z. Accepts code z s) same a))
    ];
  }

-- ---- one step of a round
led_later : (i : Instruction) (c k : ℕ) (p q : Position) → q.size ≡ p.size
    → ((x : ℕ) → IsReached p x → IsReached q x) → ((x : ℕ) → HoldsPlace p.next x → HoldsPlace q.next x) →
    Led i c k p → Led i c k q
led_later (Check t) c k p q e f g h = λ a lt. g (k + 1) (h a (omega (arith, lt, e)))
led_later (Repeat t) c k p q e f g h =
    ((λ lt. f (k + 1) (h.0 (omega (arith, lt, e)))), (λ a lt. g k (h.1 a (omega (arith, lt, e)))))
led_later Components c k p q e f g h =
    ((λ lt. g k (h.0 (omega (arith, lt, e)))), (λ a lt. g (k + 1) (h.1 a (omega (arith, lt, e)))))
led_later (Fork n) c k p q e f g h =
    ((λ lt. f (k + 1) (h.0 (omega (arith, lt, e)))), (λ lt. f (k + 1 + n) (h.1 (omega (arith, lt, e)))))
led_later (Jump n) c k p q e f g h = λ lt. f (k + 1 + n) (h (omega (arith, lt, e)))
led_later (Back n) c k p q e f g h = λ lt. f (k - n) (h (omega (arith, lt, e)))
led_later (End i j) c k p q e f g h = h

pub in_range : (code : List Instruction) (n k : ℕ) (s : List ℕ) → AcceptsIn code n k s → k ≤ length code
in_range code zero k s h = absurd h
in_range code (suc n) k s (inl h) = omega (arith, h.0)
in_range code (suc n) k s (inr h) = omega (arith, slice_get_within code k h.0 h.1)

module _ (code : List Instruction) (c : ℕ) where
  pub round_start : (p : Position) → IsEmpty p.read → IsEmpty p.next → Round code c p.pending p
  round_start p no_read no_next = record {
    begins = λ k h. inl h;
    within = λ k h. absurd (no_read k h);
    handled = λ k h. absurd (no_read k h);
    no_more = λ k r s a. elim r [ inl h ↦ (k, h, a) | inr h ↦ absurd (no_read k h) ];
    no_more_next = λ k h s a. absurd (no_next k h);
  }

module _ (code : List Instruction) (c : ℕ) (old : List Bool) where
  module _ (p q r : Position) (k : ℕ) (t : Taken p q k) (f : Followed code c k q r) where
    step_reached : (x : ℕ) → IsReached p x → IsReached r x
    step_reached x (inl h) = elim (t.others x h) [
      | inl m ↦ inl (f.keeps x m)
      | inr same ↦
          inr (subst (λ z. HoldsPlace z x) (sym f.read) (subst (HoldsPlace q.read) (sym same) t.reads))
    ]
    step_reached x (inr h) = inr (subst (λ z. HoldsPlace z x) (sym f.read) (t.keeps x h))

    step_next : (x : ℕ) → HoldsPlace p.next x → HoldsPlace r.next x
    step_next x h = f.keeps_next x (subst (λ z. HoldsPlace z x) (sym t.next) h)

    step_read : (x : ℕ) → HoldsPlace r.read x → HoldsPlace p.read x ⊎ (x ≡ k)
    step_read x h = t.only x (subst (λ z. HoldsPlace z x) f.read h)

    pub round_step : Round code c old p → Round code c old r
    round_step d = record {
      begins = λ x h. step_reached x (d.begins x h);
      within = λ x h. elim (step_read x h) [
        | inl g ↦ omega (arith, d.within x g, f.size, t.size)
        | inr same ↦ omega (arith, t.below, same, f.size, t.size)
      ];
      handled = λ x h. elim (step_read x h) [
        | inl g ↦ (λ j js. led_later j c x p r (f.size ∙ t.size) step_reached step_next (d.handled x g j js))
        | inr same ↦ subst (Handled code c r) (sym same) f.handled
      ];
      no_more = λ x g s a. elim g [
        | inl h ↦ elim (f.only x h) [
          | inl m ↦ d.no_more x (inl (t.fewer x m)) s a
          | inr from ↦ d.no_more k (inl t.held) s (from s a)
        ]
        | inr h ↦ elim (step_read x h) [
          | inl m ↦ d.no_more x (inr m) s a
          | inr same ↦ d.no_more k (inl t.held) s (subst (λ z. Accepts code z s) same a)
        ]
      ];
      no_more_next = λ x h s a. elim (f.only_next x h) [
        | inl m ↦ d.no_more_next x (subst (λ z. HoldsPlace z x) t.next m) s a
        | inr from ↦ d.no_more k (inl t.held) (c ∷ s) (from s a)
      ];
    }

  -- nothing is left to be read
  module _ (p : Position) (sized : p.size ≡ length code) (done : IsDone p) (d : Round code c old p) where
    pub was_read : (x : ℕ) → IsReached p x → x < length code → HoldsPlace p.read x
    was_read x (inl h) lt = absurd (omega (arith, done x h, lt, sized))
    was_read x (inr h) lt = h

    pub read_one : (k : ℕ) → HoldsPlace old k → k < length code → 1 ≤ member_count p.read
    read_one k h lt = members_some p.read k (was_read k (d.begins k h) lt)

    below : (n k : ℕ) (s : List ℕ) → AcceptsIn code n k s → k ≤ p.size
    below n k s a = omega (arith, in_range code n k s a, sized)

    head_same : {a b : ℕ} {t : List ℕ} → a ∷ t ≡ b ∷ [] → a ≡ b
    head_same e = cc

    goes : (n k : ℕ) (s : List ℕ) (i : Instruction) → Led i c k p → Moves i (AcceptsIn code n) k (c ∷ s) →
        ((x : ℕ) → IsReached p x → AcceptsIn code n x (c ∷ s) → AnyOf code p.next s) → AnyOf code p.next s
    goes n k s (Check t) led m again = (k + 1, led m.0 (below n (k + 1) s m.1), (n, m.1))
    goes n k s (Repeat t) led (inl m) again = again (k + 1) (led.0 (below n (k + 1) (c ∷ s) m)) m
    goes n k s (Repeat t) led (inr m) again = (k, led.1 m.0 (below n k s m.1), (n, m.1))
    goes n k s Components led (inl m) again = (k, led.0 (below n k s m), (n, m))
    goes n k s Components led (inr m) again = (k + 1, led.1 m.0 (below n (k + 1) s m.1), (n, m.1))
    goes n k s (Fork b) led (inl m) again = again (k + 1) (led.0 (below n (k + 1) (c ∷ s) m)) m
    goes n k s (Fork b) led (inr m) again = again (k + 1 + b) (led.1 (below n (k + 1 + b) (c ∷ s) m)) m
    goes n k s (Jump b) led m again = again (k + 1 + b) (led (below n (k + 1 + b) (c ∷ s) m)) m
    goes n k s (Back b) led m again = again (k - b) (led (below n (k - b) (c ∷ s) m)) m
    goes n k s (End i j) led m again = absurd (led m.0 (head_same m.3))

    cons_nil : {b : ℕ} {t : List ℕ} → b ∷ t ≡ [] → ⊥
    cons_nil e = cc

    reaches : (n k : ℕ) (s : List ℕ) → IsReached p k → AcceptsIn code n k (c ∷ s) → AnyOf code p.next s
    reaches zero k s h a = absurd a
    reaches (suc n) k s h (inl a) = absurd (cons_nil a.1)
    reaches (suc n) k s h (inr a) =
        goes n k s a.0 (d.handled k (was_read k h (slice_get_within code k a.0 a.1)) a.0 a.1) a.2
        (λ x g b. reaches n x s g b)

    pub round_end : Advances code c old p.next
    round_end = record {
      onward = λ s h. reaches h.2.0 h.0 s (d.begins h.0 h.1) h.2.1;
      backward = λ s h. d.no_more_next h.0 h.1 s h.2;
    }

    pub round_accepts : HoldsPlace p.pending p.size → AnyOf code old []
    round_accepts h = d.no_more p.size (inl h) [] (1, inl (sized, refl))

    nil_cons : {b : ℕ} {t : List ℕ} → [] ≡ b ∷ t → ⊥
    nil_cons e = cc

    -- where no character is left, only the program's end accepts
    stops : (n k : ℕ) (i : Instruction) → Led i c k p → Moves i (AcceptsIn code n) k [] →
        ((x : ℕ) → IsReached p x → AcceptsIn code n x [] → HoldsPlace p.pending p.size)
        → HoldsPlace p.pending p.size
    stops n k (Check t) led m again = absurd m
    stops n k (Repeat t) led m again = again (k + 1) (led.0 (below n (k + 1) [] m)) m
    stops n k Components led m again = absurd m
    stops n k (Fork b) led (inl m) again = again (k + 1) (led.0 (below n (k + 1) [] m)) m
    stops n k (Fork b) led (inr m) again = again (k + 1 + b) (led.1 (below n (k + 1 + b) [] m)) m
    stops n k (Jump b) led m again = again (k + 1 + b) (led (below n (k + 1 + b) [] m)) m
    stops n k (Back b) led m again = again (k - b) (led (below n (k - b) [] m)) m
    stops n k (End i j) led m again = absurd (nil_cons m.3)

    at_end : (k : ℕ) → IsReached p k → k ≡ length code → HoldsPlace p.pending p.size
    at_end k (inl h) e = subst (HoldsPlace p.pending) (e ∙ sym sized) h
    at_end k (inr h) e = absurd (omega (arith, d.within k h, e, sized))

    ends : (n k : ℕ) → IsReached p k → AcceptsIn code n k [] → HoldsPlace p.pending p.size
    ends zero k h a = absurd a
    ends (suc n) k h (inl a) = at_end k h a.0
    ends (suc n) k h (inr a) = stops n k a.0
        (d.handled k (was_read k h (slice_get_within code k a.0 a.1)) a.0 a.1) a.2 (λ x g b. ends n x g b)

    pub round_ends : AnyOf code old [] → HoldsPlace p.pending p.size
    round_ends h = ends h.2.0 h.0 (d.begins h.0 h.1) h.2.1

-- ---- the whole text
pub stays_start : (code : List Instruction) (start : ℕ) (text : List ℕ) (p q : Position)
    → p.size ≡ length code → IsEmpty p.pending → IsEmpty p.read → Inserted p q start
    → Stays code start text text q.pending
stays_start code start text p q sized no_pending no_read g = record {
  onward = λ h. (start, at_start (g.adds (omega (arith, in_range code h.0 start text h.1, sized))), h);
  backward = λ h. elim (g.only h.0
      h.1) [ inl m ↦ absurd (no_pending h.0 m) | inr same ↦ subst (λ z. Accepts code z text) same h.2 ];
}
  where
    at_start : IsReached q start → HoldsPlace q.pending start
    at_start (inl h) = h
    at_start (inr h) = absurd (no_read start (subst (λ z. HoldsPlace z start) g.read h))

pub stays_step : (code : List Instruction) (start : ℕ) (text left rest : List ℕ) (set next : List Bool)
    (c : ℕ) → left ≡ c ∷ rest → Stays code start text left set → Advances code c set next
    → Stays code start text rest next
stays_step code start text left rest set next c e s a = record {
  onward = λ h. a.onward rest (subst (AnyOf code set) e (s.onward h));
  backward = λ h. s.backward (subst (AnyOf code set) (sym e) (a.backward rest h));
}

pub drop_one : (xs : List ℕ) (i c : ℕ) → i < length xs → c ≡ get_or xs i c → drop i xs ≡ c ∷ drop (i + 1) xs
drop_one xs i c h e = let n : suc i ≡ i + 1 = omega arith in
    drop-cons xs i c h ∙ ap (λ z. z ∷ drop (suc i) xs) (sym e) ∙ ap (λ z. c ∷ drop z xs) n

-- so many rounds, each of at most `len` reads
pub reads_within : (len i n old new : ℕ) → i ≤ n → new ≤ old + len * i + len → new ≤ old + len * (n + 1)
reads_within len i n old new le h =
    let a : len * (i + 1) ≤ len * (n + 1) =
    mul-le-mul_left len (let e : i + 1 ≤ n + 1 = omega (arith, le) in e) in
    omega (arith, a, h)

-- a bound by the number of instructions and one more is one by the length, which exceeds that number
pub fewer_within : (n len k old new : ℕ) → n < len → new ≤ old + (n + 1) * (k + 1)
    → new ≤ old + len * (k + 1)
fewer_within n len k old new few h =
    let a : (n + 1) * (k + 1) ≤ len * (k + 1) =
    mul-le-mul_right (k + 1) (let e : n + 1 ≤ len = omega (arith, few) in e) in
    omega (arith, a, h)

-- so many visits for each flag
pub swept_one : (x k j old mid new : ℕ) → k < j → mid ≤ old + x * k → new ≤ mid + x → new ≤ old + x * j
swept_one x k j old mid new more h g =
    let a : x * (k + 1) ≤ x * j = mul-le-mul_left x (let e : k + 1 ≤ j = omega (arith, more) in e) in
    omega (arith, a, h, g)

-- and as many once more
pub swept_all : (x k most old mid new : ℕ) → k ≤ most → mid ≤ old + x * k → new ≤ mid + x
    → new ≤ old + x * (most + 1)
swept_all x k most old mid new few h g =
    let a : x * k ≤ x * most = mul-le-mul_left x (let e : k ≤ most = few in e) in
    omega (arith, a, h, g)

-- and as many for each of at most so many
pub spent_within : (x k most old new : ℕ) → k ≤ most → new ≤ old + x * k → new ≤ old + x * most
spent_within x k most old new few h =
    let a : x * k ≤ x * most = mul-le-mul_left x (let e : k ≤ most = few in e) in
    omega (arith, a, h)

-- so many rounds, one more, and what is left is counted by its bytes
pub reads_passed : (len m r n bytes old met mid passed new : ℕ) → 4 ≤ len → (m + 1) + r ≡ n → bytes ≤ 4 * r
    → met ≤ old + len * m → mid ≤ met + len
    → passed ≤ mid + bytes → new ≤ passed + len → new ≤ old + len * (n + 1)
reads_passed len m r n bytes old met mid passed new wide e few a b d h =
    let less : 4 * r ≤ len * r = mul-le-mul_right r (let k : 4 ≤ len = wide in k) in
    subst (λ k. new ≤ old + len * (k + 1)) e (omega (arith, less, few, a, b, d, h))

-- a character takes one to four bytes
pub chars_few : (bs : List ℕ) → IsUtf8 bs → (length (chars bs) ≤ length bs)
    × (length bs ≤ 4 * length (chars bs))
chars_few bs utf8 = (omega (arith, length-le-encodes (chars bs), same), omega (arith, four (chars bs), same))
  where
    same : length (encode_utf8_all (chars bs)) ≡ length bs
    same = ap length (encodes-chars bs utf8)

    four : (cs : List ℕ) → length (encode_utf8_all cs) ≤ 4 * length cs
    four [] = omega arith
    four (c ∷ cs) = omega (
      arith,
      four cs,
      length-append (encode_utf8 c) (encode_utf8_all cs),
      length-encode c,
      (len_utf8_bounds c).1,
    )

-- where no instruction is left, no text that goes on is accepted
pub stays_done : (code : List Instruction) (start : ℕ) (text left rest : List ℕ) (c : ℕ) (p : Position)
    → left ≡ c ∷ rest → p.size ≡ length code → IsDone p → Stays code start text left p.pending
    → Accepts code start text → ⊥
stays_done code start text left rest c p e sized done s a =
    let h : AnyOf code p.pending (c ∷ rest) = subst (AnyOf code p.pending) e (s.onward a) in
    ended h.2.0 h.0 (omega (arith, done h.0 h.1, sized)) h.2.1
  where
    cons_nil : {b : ℕ} {t : List ℕ} → b ∷ t ≡ [] → ⊥
    cons_nil q = cc

    ended : (n k : ℕ) → length code ≤ k → AcceptsIn code n k (c ∷ rest) → ⊥
    ended zero k le g = g
    ended (suc n) k le (inl g) = cons_nil g.1
    ended (suc n) k le (inr g) = absurd (past (slice_get_within code k g.0 g.1))
      where
        past : k < length code → ⊥
        past lt = omega (arith, lt, le)
