-- Sets of places that most characters leave as they are.
use Rattle.std.proofs.Common.{◌≡◌, ◌≢◌, ◌≤◌, ◌+◌, ◌-◌, ◌⊎◌, ◌↔◌, ℕ, zero, suc, Bool, List, [], ◌∷◌, Option}
use Rattle.std.proofs.Common.{Some, None, IfSome, IsSomeAnd, IsTrue, length, slice_get, sym, ◌∙◌, subst, inl}
use Rattle.std.proofs.{Common.{inr, arith}, lemmas.Bool.Decides.eqb_tells, lemmas.Option.slice_get_within}
use Rattle.wax_program.specs.declared.instruction.Test.{Test}
use Rattle.wax_program.specs.declared.instruction.Test.TheVariants.{NotSlash, Any}
use Rattle.wax_program.specs.declared.instruction.Instruction.{Instruction}
use Rattle.wax_program.specs.declared.instruction.Instruction.TheVariants.{Check, Repeat, Components, Fork}
use Rattle.wax_program.specs.declared.instruction.Instruction.TheVariants.{Jump, Back, End}
use Rattle.wax_program.specs.{declared.steady.Steady.Steady, declared.steady.Watched.Watched}
use Rattle.wax_program.specs.{declared.steady.Watched.TheVariants.{Nothing, CheckAt, Unknown}, Bits.places_of}
use Rattle.wax_program.specs.Machine.{PassesTest, Moves, AcceptsIn}
use Rattle.wax_program.specs.Steady.{Alike, LedBack, ActsAlike, IsAbsorbing, IsKnown, MissesWatched, Noted}
use Rattle.wax_program.specs.{Steady.{NotedMiss, NotedRepeat}, Places.HoldsPlace}
use Rattle.wax_program.specs.Threads.{Position, IsDone, IsReached, Taken, Followed, Round, Led, AnyOf}
use Rattle.wax_program.specs.Threads.{Advances}
use Rattle.wax_program.proofs.Advancing.{in_range, round_end, was_read}

-- ---- one instruction is noted
some_same : {i j : Instruction} → Some i ≡ Some j → i ≡ j
some_same e = cc

module _ (code : List Instruction) (c k : ℕ) where
  covers_as : (watch : Watched) (i : Instruction) → slice_get code k ≡ Some i
      → ((d : ℕ) → c ≢ 47 → d ≢ 47 → MissesWatched code watch d → Alike i c d) → ActsAlike code c watch k
  covers_as watch i is h j js d cn dn lets =
      subst (λ z. Alike z c d) (some_same (sym is ∙ js)) (h d cn dn lets)

  pub noted_unknown : (old : Watched) → Noted code c k old Unknown
  noted_unknown old = record {
    stricter = λ d h. absurd h;
    covers = λ j js d cn dn lets. absurd lets;
  }

  pub noted_fork : (watch : Watched) (n : ℕ) → slice_get code k ≡ Some (Fork n) → Noted code c k watch watch
  noted_fork watch n is =
      record { stricter = λ d h. h; covers = covers_as watch (Fork n) is (λ d cn dn lets. tt) }

  pub noted_jump : (watch : Watched) (n : ℕ) → slice_get code k ≡ Some (Jump n) → Noted code c k watch watch
  noted_jump watch n is =
      record { stricter = λ d h. h; covers = covers_as watch (Jump n) is (λ d cn dn lets. tt) }

  pub noted_back : (watch : Watched) (n : ℕ) → slice_get code k ≡ Some (Back n) → Noted code c k watch watch
  noted_back watch n is =
      record { stricter = λ d h. h; covers = covers_as watch (Back n) is (λ d cn dn lets. tt) }

  pub noted_components : (watch : Watched) → slice_get code k ≡ Some Components → Noted code c k watch watch
  noted_components watch is = record {
    stricter = λ d h. h;
    covers = covers_as watch Components is (λ d cn dn lets. ((λ e. absurd (cn e)), (λ e. absurd (dn e))));
  }

  same_watch : (old new : Watched) → new ≡ old → (d : ℕ) → MissesWatched code new d → MissesWatched code old d
  same_watch old new e d h = subst (λ z. MissesWatched code z d) e h

  pub noted_miss : (old new : Watched) (t : Test) → slice_get code k ≡ Some (Check t) → (PassesTest t c → ⊥)
      → NotedMiss old new k t → Noted code c k old new
  noted_miss old new t is missed (inl h) = record {
    stricter = same_watch old new h.0;
    covers = covers_as new (Check t) is
        (λ d cn dn lets. ((λ p. absurd (missed p)), (λ p. absurd (dn (subst (λ z. PassesTest z d) h.1 p)))));
  }
  noted_miss old new t is missed (inr (inl h)) = subst (Noted code c k old) (sym h) (noted_unknown old)
  noted_miss old new t is missed (inr (inr h)) =
      subst (λ z. Noted code c k z new) (sym h.0) (subst (Noted code c k Nothing) (sym h.1) placed)
    where
      placed : Noted code c k Nothing (CheckAt k)
      placed = record {
        stricter = λ d g. tt;
        covers = covers_as (CheckAt k) (Check t) is
            (λ d cn dn lets. ((λ p. absurd (missed p)), (λ p. absurd (lets t is p))));
      }

  pub noted_repeat : (old new : Watched) (t : Test) → slice_get code k ≡ Some (Repeat t)
      → NotedRepeat old new t → Noted code c k old new
  noted_repeat old new t is (inl h) = record {
    stricter = same_watch old new h.0;
    covers = covers_as new (Repeat t) is (λ d cn dn lets. taken h.1 d cn dn);
  }
    where
      taken : (t ≡ NotSlash) ⊎ (t ≡ Any) → (d : ℕ) → c ≢ 47 → d ≢ 47 → PassesTest t c ↔ PassesTest t d
      taken (inl e) d cn dn = subst (λ z. PassesTest z c ↔ PassesTest z d) (sym e) ((λ _. dn), (λ _. cn))
      taken (inr e) d cn dn = subst (λ z. PassesTest z c ↔ PassesTest z d) (sym e) ((λ _. tt), (λ _. tt))
  noted_repeat old new t is (inr h) = subst (Noted code c k old) (sym h) (noted_unknown old)

-- ---- all that were read in a round are noted
pub watched_step : (code : List Instruction) (c k : ℕ) (p q r : Position) (old new : Watched) → Taken p q k
    → Followed code c k q r → Noted code c k old new →
    ((x : ℕ) → HoldsPlace p.read x → ActsAlike code c old x) → (x : ℕ) → HoldsPlace r.read x
    → ActsAlike code c new x
watched_step code c k p q r old new t f n h x g = elim (t.only x (subst (λ z. HoldsPlace z x) f.read g)) [
  | inl m ↦ (λ j js d cn dn lets. h x m j js d cn dn (n.stricter d lets))
  | inr same ↦ subst (ActsAlike code c new) (sym same) n.covers
]

-- ---- a round that leads back
module _ (code : List Instruction) (c : ℕ) (old : List Bool) (p : Position) (sized : p.size ≡ length code)
    (done : IsDone p) (r : Round code c old p) where
  below : (n k : ℕ) (s : List ℕ) → AcceptsIn code n k s → k ≤ p.size
  below n k s a = omega (arith, in_range code n k s a, sized)

  head_same : {a b : ℕ} {t u : List ℕ} → a ∷ t ≡ b ∷ u → a ≡ b
  head_same e = cc

  tail_same : {a b : ℕ} {t u : List ℕ} → a ∷ t ≡ b ∷ u → t ≡ u
  tail_same e = cc

  same_mark : {a b : ℕ} {t u : List ℕ} → a ≡ b → t ≡ u → a ∷ t ≡ b ∷ u
  same_mark e f = cc

  moves_alike : (a b n k : ℕ) (s : List ℕ) (i : Instruction) → Led i c k p → Alike i a b
      → Moves i (AcceptsIn code n) k (a ∷ s) →
      ((x : ℕ) → IsReached p x → AcceptsIn code n x (a ∷ s) → AcceptsIn code n x (b ∷ s))
      → Moves i (AcceptsIn code n) k (b ∷ s)
  moves_alike a b n k s (Check t) led like m again = (like.0 m.0, m.1)
  moves_alike a b n k s (Repeat t) led like (inl m) again =
      inl (again (k + 1) (led.0 (below n (k + 1) (a ∷ s) m)) m)
  moves_alike a b n k s (Repeat t) led like (inr m) again = inr (like.0 m.0, m.1)
  moves_alike a b n k s Components led like (inl m) again = inl m
  moves_alike a b n k s Components led like (inr m) again = inr (like.0 m.0, m.1)
  moves_alike a b n k s (Fork j) led like (inl m) again =
      inl (again (k + 1) (led.0 (below n (k + 1) (a ∷ s) m)) m)
  moves_alike a b n k s (Fork j) led like (inr m) again =
      inr (again (k + 1 + j) (led.1 (below n (k + 1 + j) (a ∷ s) m)) m)
  moves_alike a b n k s (Jump j) led like m again = again (k + 1 + j) (led (below n (k + 1 + j) (a ∷ s) m)) m
  moves_alike a b n k s (Back j) led like m again = again (k - j) (led (below n (k - j) (a ∷ s) m)) m
  moves_alike a b n k s (End i j) led like m again =
      (m.0, m.1, m.2, same_mark ((like m.0).0 (head_same m.3)) (tail_same m.3))

  cons_nil : {b : ℕ} {t : List ℕ} → b ∷ t ≡ [] → ⊥
  cons_nil e = cc

  alike_accepts : (a b : ℕ)
      → ((x : ℕ) (i : Instruction) → HoldsPlace p.read x → slice_get code x ≡ Some i → Alike i a b)
      → (n k : ℕ) (s : List ℕ) → IsReached p k → AcceptsIn code n k (a ∷ s) → AcceptsIn code n k (b ∷ s)
  alike_accepts a b like zero k s h g = absurd g
  alike_accepts a b like (suc n) k s h (inl g) = absurd (cons_nil g.1)
  alike_accepts a b like (suc n) k s h (inr g) =
      let read : HoldsPlace p.read k =
      was_read code c old p sized done r k h (slice_get_within code k g.0 g.1) in
      inr (
        g.0,
        g.1,
        moves_alike a b n k s g.0 (r.handled k read g.0 g.1) (like k g.0 read g.1) g.2
            (λ x reached m. alike_accepts a b like n x s reached m),
      )

  flip : (i : Instruction) (a b : ℕ) → Alike i a b → Alike i b a
  flip (Check t) a b h = (h.1, h.0)
  flip (Repeat t) a b h = (h.1, h.0)
  flip Components a b h = (h.1, h.0)
  flip (Fork n) a b h = tt
  flip (Jump n) a b h = tt
  flip (Back n) a b h = tt
  flip (End m n) a b h = λ number. ((h number).1, (h number).0)

  pub round_steady : (watch : Watched) → ((x : ℕ) → HoldsPlace p.read x → ActsAlike code c watch x) → c ≢ 47
      → p.next ≡ old → (d : ℕ) → d ≢ 47 → MissesWatched code watch d → Advances code d old old
  round_steady watch covers cn back d dn lets = record {
    onward = λ s h. subst (λ z. AnyOf code z s) back (ends.onward s (
      h.0,
      h.1,
      (
        h.2.0,
        alike_accepts d c (λ x i read is. flip i c d (like x i read is)) h.2.0 h.0 s (r.begins h.0 h.1) h.2.1,
      ),
    ));
    backward = λ s h. turned s (ends.backward s (subst (λ z. AnyOf code z s) (sym back) h));
  }
    where
      ends : Advances code c old p.next
      ends = round_end code c old p sized done r

      like : (x : ℕ) (i : Instruction) → HoldsPlace p.read x → slice_get code x ≡ Some i → Alike i c d
      like x i read is = covers x read i is d cn dn lets

      turned : (s : List ℕ) → AnyOf code old (c ∷ s) → AnyOf code old (d ∷ s)
      turned s h = (h.0, h.1, (h.2.0, alike_accepts c d like h.2.0 h.0 s (r.begins h.0 h.1) h.2.1))

  -- what a round that leads back tells
  pub round_known : (watch : Watched) → ((x : ℕ) → HoldsPlace p.read x → ActsAlike code c watch x)
      → (here : Option ℕ) → IfSome here (λ word. old ≡ places_of word) →
      (result : Option Steady) → IfSome result (LedBack code c p.next here watch)
      → IfSome result (IsKnown code)
  round_known watch covers here began None h = tt
  round_known watch covers here began (Some s) h = let known : IsKnown code s = record {
    below = h.below;
    steady = λ d dn missed. steady d dn (h.misses d missed);
    slash = λ t. absurd (h.not_by_slash t);
    others = λ t d dn. steady d dn (h.others t d);
  } in known
    where
      is : old ≡ places_of s.word
      is = let e : IfSome (Some s.word) (λ word. old ≡ places_of word) =
          subst (λ z. IfSome z (λ word. old ≡ places_of word)) h.began began in e

      steady : (d : ℕ) → d ≢ 47 → MissesWatched code watch d
          → Advances code d (places_of s.word) (places_of s.word)
      steady d dn lets =
          subst (λ z. Advances code d z z) is (round_steady watch covers h.other (h.back ∙ sym is) d dn lets)

-- a round by `/` that leads back
pub slash_back : (code : List Instruction) (c : ℕ) (old next : List Bool) (here : Option ℕ) → c ≡ 47
    → Advances code c old next → IfSome here (λ word. old ≡ places_of word) →
    IsSomeAnd here (λ word. next ≡ places_of word)
    → IfSome here (λ word. Advances code 47 (places_of word) (places_of word))
slash_back code c old next None e a h g = tt
slash_back code c old next (Some word) e a h g =
    subst (λ z. Advances code z (places_of word) (places_of word)) e
    (subst (λ z. Advances code c z (places_of word)) h (subst (λ z. Advances code c old z) g a))

-- ---- a set that each character leads back to
pub absorbing : (code : List Instruction) (s : Steady) (set : List Bool) → IsKnown code s → IsTrue s.by_slash
    → IsTrue s.by_others → set ≡ places_of s.word → IsAbsorbing code set
absorbing code s set known slash others e d =
    subst (λ z. Advances code d z z) (sym e) (elim (eqb_tells d 47) [
      | inl h ↦
          subst (λ z. Advances code z (places_of s.word) (places_of s.word)) (sym h.1) (known.slash slash)
      | inr h ↦ known.others others d h.1
    ])

-- what is left of the text changes nothing
pub absorbed : (code : List Instruction) (set : List Bool) → IsAbsorbing code set → (s : List ℕ)
    → AnyOf code set s ↔ AnyOf code set []
absorbed code set a [] = ((λ h. h), (λ h. h))
absorbed code set a (d ∷ s) = (
  (λ h. (absorbed code set a s).0 ((a d).onward s h)),
  (λ h. (a d).backward s ((absorbed code set a s).1 h)),
)
