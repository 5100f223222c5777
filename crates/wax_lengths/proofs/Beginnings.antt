-- The beginnings of a text that a program accepts, by the sets that its run reaches.
use Rattle.std.proofs.Common.{◌≡◌, ℕ, suc, ◌+◌, ◌-◌, ◌<◌, ◌↔◌, Bool, false, IsTrue, List, [], ◌∷◌, ◌++◌}
use Rattle.std.proofs.Common.{length, get_or, take, drop, refl, sym, ◌∙◌, ap, subst, inl, inr, arith}
use Rattle.std.proofs.{Common.{append_assoc, append-nil, true≢false}, Math.Seq.{take-add, get_or-append_seam}}
use Rattle.std.proofs.{lemmas.Bool.cases_lt, lemmas.List.{get_or_append_left, get_or_past}}
use Rattle.wax_program.specs.{declared.instruction.Instruction.Instruction, Machine.Accepts, Places.IsEmpty}
use Rattle.wax_program.specs.Threads.{IsDone, Position, Inserted, AnyOf, Advances, Stays}
use Rattle.wax_lengths.specs.Ends.{MarksBeginnings}
use Rattle.wax_program.proofs.Advancing.{stays_start, stays_done, drop_one}

-- the set accepts what goes on from the front exactly where the program accepts both together
pub record Leads (code : List Instruction) (front : List ℕ) (set : List Bool) : Type 0 where
  pub onward : (s : List ℕ) → Accepts code 0 (front ++ s) → AnyOf code set s
  pub backward : (s : List ℕ) → AnyOf code set s → Accepts code 0 (front ++ s)

module _ (code : List Instruction) where
  pub leads_start : (p q : Position) → p.size ≡ length code → IsEmpty p.pending → IsEmpty p.read
      → Inserted p q 0 → Leads code [] q.pending
  leads_start p q sized no_pending no_read g = record {
    onward = λ s h. (stays_start code 0 s p q sized no_pending no_read g).onward h;
    backward = λ s h. (stays_start code 0 s p q sized no_pending no_read g).backward h;
  }

  pub leads_step : (front : List ℕ) (set next : List Bool) (c : ℕ) → Leads code front set
      → Advances code c set next → Leads code (front ++ c ∷ []) next
  leads_step front set next c l a = record {
    onward = λ s h. a.onward s (l.onward (c ∷ s) (subst (Accepts code 0) (append_assoc front (c ∷ []) s) h));
    backward = λ s h. subst (Accepts code 0) (sym (append_assoc front (c ∷ []) s))
        (l.backward (c ∷ s) (a.backward s h));
  }

  -- whether the front itself is accepted
  pub leads_here : (front : List ℕ) (set : List Bool) (b : Bool) → Leads code front set
      → (IsTrue b ↔ AnyOf code set []) → IsTrue b ↔ Accepts code 0 front
  leads_here front set b l e = (
    (λ h. subst (Accepts code 0) (append-nil front) (l.backward [] (e.0 h))),
    (λ h. e.1 (l.onward [] (subst (Accepts code 0) (sym (append-nil front)) h))),
  )

  -- where no instruction is left, nothing longer is
  pub leads_done : (front : List ℕ) (p : Position) → Leads code front p.pending → p.size ≡ length code
      → IsDone p → (c : ℕ) (s : List ℕ) → Accepts code 0 (front ++ c ∷ s) → ⊥
  leads_done front p l sized done c s h =
      let t : Stays code 0 (front ++ c ∷ s) (c ∷ s) p.pending =
      record { onward = λ a. l.onward (c ∷ s) a; backward = λ a. l.backward (c ∷ s) a } in
      stays_done code 0 (front ++ c ∷ s) (c ∷ s) s c p refl sized done t h

  module _ (text : List ℕ) where
    pub marked_push : (ends : List Bool) (n : ℕ) (b : Bool) → length ends ≡ n
        → MarksBeginnings code text ends n → (IsTrue b ↔ Accepts code 0 (take n text))
        → MarksBeginnings code text (ends ++ b ∷ []) (n + 1)
    marked_push ends n b count marked here i lt = elim (cases_lt i n) [
      | inl less ↦ (let e : get_or (ends ++ b ∷ []) i false ≡ get_or ends i false =
          get_or_append_left ends (b ∷ []) false i (omega (arith, less, count)) in
          ((λ h. (marked i less).0 (sym e ∙ h)), (λ h. e ∙ (marked i less).1 h)))
      | inr more ↦ (let same : i ≡ n = omega (arith, more, lt) in
          let at : i ≡ length ends = same ∙ sym count in
          let e : get_or (ends ++ b ∷ []) i false ≡ b =
          ap (λ k. get_or (ends ++ b ∷ []) k false) at ∙ get_or-append_seam ends b [] false in (
            (λ h. subst (λ k. Accepts code 0 (take k text)) (sym same) (here.0 (sym e ∙ h))),
            (λ h. e ∙ here.1 (subst (λ k. Accepts code 0 (take k text)) same h)),
          ))
    ]

    -- a longer beginning
    longer : (n i c : ℕ) → n < length text → c ≡ get_or text n c → n < i
        → take i text ≡ take n text ++ c ∷ take (i - n - 1) (drop (n + 1) text)
    longer n i c lt e more =
        let s : i ≡ n + suc (i - n - 1) = omega (arith, more) in
        ap (λ k. take k text) s ∙ take-add n (suc (i - n - 1)) text
        ∙ ap (λ z. take n text ++ take (suc (i - n - 1)) z) (drop_one text n c lt e)

    -- the flags that are missing are false
    pub marked_done : (ends : List Bool) (n m c : ℕ) (p : Position) → length ends ≡ n + 1
        → MarksBeginnings code text ends (n + 1) → n < length text → c ≡ get_or text n c
        → Leads code (take n text) p.pending → p.size ≡ length code → IsDone p
        → MarksBeginnings code text ends m
    marked_done ends n m c p count marked lt e leads sized done i within = elim (cases_lt i (n + 1)) [
      | inl less ↦ marked i less
      | inr more ↦ (
        (λ h. absurd (true≢false (sym h ∙ get_or_past ends i false (omega (arith, more, count))))),
        (λ h. absurd (leads_done (take n text) p leads sized done c (take (i - n - 1) (drop (n + 1) text))
            (subst (Accepts code 0) (longer n i c lt e (omega (arith, more))) h))),
      )
    ]
