-- A text that is followed from state to state.
use Rattle.std.proofs.Common.{◌≡◌, ℕ, suc, ◌+◌, ◌<◌, ◌↔◌, Bool, IsTrue, List, [], ◌∷◌, ◌++◌, length, get_or}
use Rattle.std.proofs.Common.{drop, refl, sym, ◌∙◌, ap, subst, arith, drop-cons}
use Rattle.wax_lazy.specs.inner.Cached.{DecidesLeft, LeadsFor}
use Rattle.wax_states.specs.declared.table.Next.{Next}
use Rattle.wax_states.specs.declared.table.Next.TheVariants.{To, Nothing, Everything}
use Rattle.wax_states.specs.{declared.table.State.State, States.{HasState, LeadOn, places_at}}
use Rattle.wax_program.specs.{declared.instruction.Instruction.Instruction, Machine.Accepts, Threads.AnyAmong}

-- a character that is left leads on
pub stays_on : (code : List Instruction) (start : ℕ) (text left places rest others : List ℕ) (c : ℕ)
    → Accepts code start text ↔ AnyAmong code places left
    → left ≡ c ∷ rest → LeadOn code c places others → Accepts code start text ↔ AnyAmong code others rest
stays_on code start text left places rest others c stays e leads = (
  (λ h. (leads rest).0 (subst (AnyAmong code places) e (stays.0 h))),
  (λ h. stays.1 (subst (AnyAmong code places) (sym e) ((leads rest).1 h))),
)

module _ (code : List Instruction) (Holds : List ℕ → Type 0) (states : List State) where
  -- a step leads on
  pub leads_on : (places left after : List ℕ) (next : Next)
      → ((s : List ℕ) → Holds s ↔ AnyAmong code places (left ++ s))
      → DecidesLeft code states places left after next → LeadsFor code states Holds after next
  leads_on places left after (To at) stays d =
      (d.0, (λ s. ((λ h. (d.1 s).0 ((stays s).0 h)), (λ a. (stays s).1 ((d.1 s).1 a)))))
  leads_on places left after Nothing stays dead = λ s h. dead s ((stays s).0 h)
  leads_on places left after Everything stays all = λ s. (stays s).1 (all s)

  -- where no state is next, it doesn't matter what is left
  pub leads_past : (left : List ℕ) (next : Next) → ((at : ℕ) → next ≡ To at → ⊥)
      → LeadsFor code states Holds left next → LeadsFor code states Holds [] next
  leads_past left (To at) apart l = absurd (apart at refl)
  leads_past left Nothing apart l = l
  leads_past left Everything apart l = l

  -- at the end, the state is where the text leads
  pub leads_end : (left : List ℕ) (at : ℕ) → left ≡ [] → HasState states at
      → ((s : List ℕ) → Holds s ↔ AnyAmong code (places_at states at) (left ++ s))
      → LeadsFor code states Holds [] (To at)
  leads_end left at none has_state stays =
      subst (λ z. LeadsFor code states Holds z (To at)) none (has_state, stays)

pub next_of : (text : List ℕ) (i : ℕ) → i < length text → drop i text ≡ get_or text i 0 ∷ drop (i + 1) text
next_of text i lt =
    let one : suc i ≡ i + 1 = omega arith in
    drop-cons text i 0 lt ∙ ap (λ k. get_or text i 0 ∷ drop k text) one

-- what decides a fact decides another that holds exactly where it does
pub decides_by : (b : Bool) (A B : Type 0) → B ↔ A → (IsTrue b ↔ B) → (IsTrue b ↔ A)
decides_by b A B e d = ((λ h. e.0 (d.0 h)), (λ a. d.1 (e.1 a)))
