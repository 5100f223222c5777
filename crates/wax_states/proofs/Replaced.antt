-- Characters that stand for one another at the beginning of a text.
use Rattle.std.proofs.Common.{◌≡◌, ◌+◌, ◌-◌, ◌↔◌, ℕ, zero, suc, List, [], ◌∷◌, inl, inr}
use Rattle.wax_program.specs.declared.instruction.Instruction.{Instruction}
use Rattle.wax_program.specs.declared.instruction.Instruction.TheVariants.{Check, Repeat, Components, Fork}
use Rattle.wax_program.specs.declared.instruction.Instruction.TheVariants.{Jump, Back, End}
use Rattle.wax_program.specs.{Machine.{Moves, AcceptsIn, mark}, Steady.Alike, Threads.AnyAmong}
use Rattle.wax_states.specs.{Alike.AreAlike, States.LeadsNext, declared.table.Next.Next}
use Rattle.wax_states.specs.declared.table.Next.TheVariants.{To, Nothing, Everything}
use Rattle.wax_states.specs.declared.table.State.{State}

flip : (i : Instruction) (c d : ℕ) → Alike i c d → Alike i d c
flip (Check t) c d h = (h.1, h.0)
flip (Repeat t) c d h = (h.1, h.0)
flip Components c d h = (h.1, h.0)
flip (Fork n) c d h = tt
flip (Jump n) c d h = tt
flip (Back n) c d h = tt
flip (End low high) c d h = λ number. let s = h number in (s.1, s.0)

pub alike_turned : (code : List Instruction) (c d : ℕ) → AreAlike code c d → AreAlike code d c
alike_turned code c d h k i is = flip i c d (h k i is)

-- an instruction does the same by a character as by itself
pub same_alike : (code : List Instruction) (c : ℕ) → AreAlike code c c
same_alike code c k (Check t) is = ((λ h. h), (λ h. h))
same_alike code c k (Repeat t) is = ((λ h. h), (λ h. h))
same_alike code c k Components is = ((λ h. h), (λ h. h))
same_alike code c k (Fork n) is = tt
same_alike code c k (Jump n) is = tt
same_alike code c k (Back n) is = tt
same_alike code c k (End low high) is = λ number. ((λ h. h), (λ h. h))

heads : {a b : ℕ} {s t : List ℕ} → a ∷ s ≡ b ∷ t → (a ≡ b) × (s ≡ t)
heads e = (cc, cc)

-- a text that is a mark stays one
pub marked : (c d number : ℕ) (s : List ℕ) → (c ≡ mark number) ↔ (d ≡ mark number) → c ∷ s ≡ mark number ∷ []
    → d ∷ s ≡ mark number ∷ []
marked c d number s like e = let parts = heads e in let is = like.0 parts.0 in let rest = parts.1 in cc

module _ (code : List Instruction) (c d : ℕ) (like : AreAlike code c d) where
  moved : (n k : ℕ) (s : List ℕ) (i : Instruction) → Alike i c d → Moves i (AcceptsIn code n) k (c ∷ s)
      → ((x : ℕ) → AcceptsIn code n x (c ∷ s) → AcceptsIn code n x (d ∷ s))
      → Moves i (AcceptsIn code n) k (d ∷ s)
  moved n k s (Check t) h m again = (h.0 m.0, m.1)
  moved n k s (Repeat t) h (inl m) again = inl (again (k + 1) m)
  moved n k s (Repeat t) h (inr m) again = inr (h.0 m.0, m.1)
  moved n k s Components h (inl m) again = inl m
  moved n k s Components h (inr m) again = inr (h.0 m.0, m.1)
  moved n k s (Fork j) h (inl m) again = inl (again (k + 1) m)
  moved n k s (Fork j) h (inr m) again = inr (again (k + 1 + j) m)
  moved n k s (Jump j) h m again = again (k + 1 + j) m
  moved n k s (Back j) h m again = again (k - j) m
  moved n k s (End low high) h m again = (m.0, m.1, m.2, marked c d m.0 s (h m.0) m.3)

  cons_nil : {b : ℕ} {t : List ℕ} → b ∷ t ≡ [] → ⊥
  cons_nil e = cc

  accepts_in : (n k : ℕ) (s : List ℕ) → AcceptsIn code n k (c ∷ s) → AcceptsIn code n k (d ∷ s)
  accepts_in zero k s h = absurd h
  accepts_in (suc n) k s (inl h) = absurd (cons_nil h.1)
  accepts_in (suc n) k s (inr h) =
      inr (h.0, h.1, moved n k s h.0 (like k h.0 h.1) h.2 (λ x m. accepts_in n x s m))

  pub replaced : (places s : List ℕ) → AnyAmong code places (c ∷ s) → AnyAmong code places (d ∷ s)
  replaced places s h = (h.0, h.1, (h.2.0, accepts_in h.2.0 h.0 s h.2.1))

-- where a character leads, one that is like it leads, too
pub leads_alike : (code : List Instruction) (states : List State) (places : List ℕ) (c d : ℕ)
    → AreAlike code c d → (next : Next) → LeadsNext code states places d next
    → LeadsNext code states places c next
leads_alike code states places c d like (To t) h = record {
  has_state = h.has_state;
  leads = λ s. (
    (λ a. (h.leads s).0 (replaced code c d like places s a)),
    (λ b. replaced code d c (alike_turned code c d like) places s ((h.leads s).1 b)),
  );
}
leads_alike code states places c d like Nothing h = λ s a. h s (replaced code c d like places s a)
leads_alike code states places c d like Everything h =
    λ s. replaced code d c (alike_turned code c d like) places s (h s)
