-- What is read before a character is taken.
use Rattle.std.proofs.Common.{◌≡◌, ◌+◌, ◌-◌, ◌<◌, ℕ, zero, suc, List, [], ◌∷◌, Some, Contains, length}
use Rattle.std.proofs.Common.{slice_get, slice_index, sym, ◌∙◌, ap, subst, inl, inr, arith}
use Rattle.std.proofs.{lemmas.Bool.cases_lt, lemmas.List.{get_or_append_left, get_or_default}}
use Rattle.std.proofs.{lemmas.List.Elements.Contains-append_left, lemmas.Option.slice_get_within}
use Rattle.wax_program.specs.declared.instruction.Instruction.{Instruction}
use Rattle.wax_program.specs.declared.instruction.Instruction.TheVariants.{Check, Repeat, Components, Fork}
use Rattle.wax_program.specs.declared.instruction.Instruction.TheVariants.{Jump, Back, End}
use Rattle.wax_program.specs.{Machine.{AcceptsIn, Moves}, Steady.Alike, Threads.AnyAmong}
use Rattle.wax_compare.specs.inner.Cutting.{AreKept}
use Rattle.wax_compare.specs.inner.Distinctions.{Extends, GoesOnIn, GoesTo, IsClosing, IsClosure, IsInClosure}
use Rattle.wax_states.proofs.Replaced.{marked}

-- ---- lists that grow

pub extends_kept : (xs ys : List ℕ) → Extends xs ys → AreKept xs ys
extends_kept xs ys f k h = subst (λ l. Contains l k) (sym f.1) (Contains-append_left xs f.0 k h)

extends_read : (xs ys : List ℕ) (j : ℕ) → Extends xs ys → j < length xs → slice_index ys j ≡ slice_index xs j
extends_read xs ys j f lt = ap (λ l. slice_index l j) f.1 ∙ get_or_append_left xs f.0 0 j lt

-- ---- places that are listed
module _ (code : List Instruction) (old new : List ℕ) (kept : AreKept old new) where
  in_closure_kept : (k : ℕ) → IsInClosure code old k → IsInClosure code new k
  in_closure_kept k h lt = kept k (h lt)

  goes_kept : (k : ℕ) (i : Instruction) → GoesTo code old k i → GoesTo code new k i
  goes_kept k (Check t) h = tt
  goes_kept k (Repeat t) h = in_closure_kept (k + 1) h
  goes_kept k Components h = tt
  goes_kept k (Fork n) h = (in_closure_kept (k + 1) h.0, in_closure_kept (k + 1 + n) h.1)
  goes_kept k (Jump n) h = in_closure_kept (k + 1 + n) h
  goes_kept k (Back n) h = in_closure_kept (k - n) h
  goes_kept k (End low high) h = tt

pub closing_more : (code : List Instruction) (places old new : List ℕ) (done : ℕ) → done < length old
    → Extends old new → IsClosing code places old done → GoesOnIn code new (slice_index old done)
    → IsClosing code places new (done + 1)
closing_more code places old new done within f h next = record {
  begins = λ k has. in_closure_kept code old new (extends_kept old new f) k (h.begins k has);
  closed = λ j lt. elim (cases_lt j done) [
    | inl less ↦ subst (GoesOnIn code new) (sym (extends_read old new j f (omega (arith, less, within))))
        (λ i is. goes_kept code old new (extends_kept old new f) (slice_index old j) i (h.closed j less i is))
    | inr past ↦ (let same : done ≡ j = omega (arith, lt, past) in
        subst (GoesOnIn code new) (sym (extends_read old new j f (omega (arith, same, within))
        ∙ ap (slice_index old) (sym same))) next)
  ];
}

-- ---- two characters by which each listed instruction does the same
module _ (code : List Instruction) (listed : List ℕ) (c d : ℕ)
    (closed : (k : ℕ) → Contains listed k → GoesOnIn code listed k)
    (like : (k : ℕ) (i : Instruction) → Contains listed k → slice_get code k ≡ Some i → Alike i c d) where
  moved : (n k : ℕ) (s : List ℕ) (i : Instruction) → Alike i c d → GoesTo code listed k i
      → Moves i (AcceptsIn code n) k (c ∷ s)
      → ((x : ℕ) → IsInClosure code listed x → AcceptsIn code n x (c ∷ s) → AcceptsIn code n x (d ∷ s))
      → Moves i (AcceptsIn code n) k (d ∷ s)
  moved n k s (Check t) h g m again = (h.0 m.0, m.1)
  moved n k s (Repeat t) h g (inl m) again = inl (again (k + 1) g m)
  moved n k s (Repeat t) h g (inr m) again = inr (h.0 m.0, m.1)
  moved n k s Components h g (inl m) again = inl m
  moved n k s Components h g (inr m) again = inr (h.0 m.0, m.1)
  moved n k s (Fork j) h g (inl m) again = inl (again (k + 1) g.0 m)
  moved n k s (Fork j) h g (inr m) again = inr (again (k + 1 + j) g.1 m)
  moved n k s (Jump j) h g m again = again (k + 1 + j) g m
  moved n k s (Back j) h g m again = again (k - j) g m
  moved n k s (End low high) h g m again = (m.0, m.1, m.2, marked c d m.0 s (h m.0) m.3)

  cons_nil : {b : ℕ} {t : List ℕ} → b ∷ t ≡ [] → ⊥
  cons_nil e = cc

  accepts_in : (n k : ℕ) (s : List ℕ) → IsInClosure code listed k → AcceptsIn code n k (c ∷ s)
      → AcceptsIn code n k (d ∷ s)
  accepts_in zero k s has h = absurd h
  accepts_in (suc n) k s has (inl h) = absurd (cons_nil h.1)
  accepts_in (suc n) k s has (inr h) =
      let listed_here : Contains listed k = has (slice_get_within code k h.0 h.1) in
      inr (
        h.0,
        h.1,
        moved n k s h.0 (like k h.0 listed_here h.1) (closed k listed_here h.0 h.1) h.2
            (λ x in_list m. accepts_in n x s in_list m),
      )

  pub replaced_among : (places s : List ℕ) → ((k : ℕ) → Contains places k → IsInClosure code listed k)
      → AnyAmong code places (c ∷ s) → AnyAmong code places (d ∷ s)
  replaced_among places s begins h = (h.0, h.1, (h.2.0, accepts_in h.2.0 h.0 s (begins h.0 h.1) h.2.1))

pub closed_at : (code : List Instruction) (places listed : List ℕ) → IsClosure code places listed → (k : ℕ)
    → Contains listed k → GoesOnIn code listed k
closed_at code places listed h k has =
    subst (GoesOnIn code listed) (get_or_default listed has.0 0 k has.1 ∙ has.2) (h.closed has.0 has.1)
