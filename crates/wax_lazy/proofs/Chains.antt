-- Places by themselves, which checks follow.
use Rattle.std.proofs.Common.{IsPermutation, ◌≡◌, ℕ, zero, suc, ◌+◌, ◌<◌, ◌⊎◌, ◌↔◌, inl, inr, Bool, true}
use Rattle.std.proofs.Common.{false, List, [], ◌∷◌, ◌++◌, Option, Some, None, IfSome, IsTrue, length}
use Rattle.std.proofs.Common.{slice_get, refl, sym, ◌∙◌, ap, subst, true≢false, arith}
use Rattle.std.proofs.lemmas.List.Elements.{Contains-append_left, Contains-push, Contains-push_cases}
use Rattle.std.proofs.lemmas.List.Sorted.{Contains-permutation, IsPermutation-sym}
use Rattle.std.proofs.lemmas.Option.{slice_get_within}
use Rattle.wax_lazy.specs.{declared.cache.chains.Chain.Chain, inner.Cached.{DecidesLeft, IsChain}}
use Rattle.wax_lazy.specs.inner.Table.{IsFailureState, IsTable, IsJoinOf, own_at}
use Rattle.wax_states.specs.declared.table.Next.{Next}
use Rattle.wax_states.specs.declared.table.Next.TheVariants.{To, Nothing, Everything}
use Rattle.wax_states.specs.declared.table.State.{State}
use Rattle.wax_states.specs.States.{HasState, LeadsNext, TakesAll, state_of, places_at, places_in}
use Rattle.wax_states.specs.States.{places_or_none}
use Rattle.wax_lazy.proofs.Tables.{one_place, failure_at}
use Rattle.wax_program.specs.{Checks.IsCheckAt, declared.instruction.Instruction.Instruction}
use Rattle.wax_program.specs.declared.instruction.Instruction.TheVariants.{Check}
use Rattle.wax_program.specs.{Machine.{Accepts, AcceptsIn, Moves}, Threads.AnyAmong}

-- ---- checks
same_instruction : {i j : Instruction} → Some i ≡ Some j → i ≡ j
same_instruction e = cc

not_nil : {c : ℕ} {s : List ℕ} → c ∷ s ≡ [] → ⊥
not_nil e = cc

-- a check takes the character, and the rest of the text follows at the next place
pub check_on : (code : List Instruction) (at c : ℕ) (passes : Bool) (s : List ℕ) → IsCheckAt code at c passes
    → Accepts code at (c ∷ s) ↔ (IsTrue passes × Accepts code (at + 1) s)
check_on code at c passes s (i, is, (t, check, tests)) =
    ((λ h. onward h.0 h.1), (λ h. (suc h.1.0, inr (i, is, moved h.0 h.1.0 h.1.1))))
  where
    moved : (ok : IsTrue passes) (n : ℕ) → AcceptsIn code n (at + 1) s → Moves i (AcceptsIn code n) at (c ∷ s)
    moved ok n a = subst (λ j. Moves j (AcceptsIn code n) at (c ∷ s)) (sym check) (tests.0 ok, a)

    onward : (n : ℕ) → AcceptsIn code n at (c ∷ s) → IsTrue passes × Accepts code (at + 1) s
    onward zero a = absurd a
    onward (suc n) (inl e) = absurd (not_nil e.1)
    onward (suc n) (inr m) =
        let j : m.0 ≡ i = same_instruction (sym m.1 ∙ is) in
        let here : Moves (Check t) (AcceptsIn code n) at (c ∷ s) =
        subst (λ k. Moves k (AcceptsIn code n) at (c ∷ s)) (j ∙ check) m.2 in
        (tests.1 here.0, (n, here.1))

-- ---- lists
pub joined_place : (code : List Instruction) (target sorted : List ℕ) (place : ℕ)
    → IsPermutation (target ++ place ∷ []) sorted → IsJoinOf code sorted target (place ∷ [])
joined_place code target sorted place p s = (
  (λ h. elim (Contains-push_cases target place h.0 (Contains-permutation sorted (target ++ place ∷ []) h.0
      (IsPermutation-sym (target ++ place ∷ []) sorted p) h.1)) [
        | inl g ↦ inl (h.0, g, h.2)
        | inr e ↦ inr ((one_place code place s).0 (subst (λ k. Accepts code k s) (sym e) h.2))
      ]),
  (λ h. elim h [
    | inl g ↦ (
      g.0,
      Contains-permutation (target ++ place ∷ []) sorted g.0 p
          (Contains-append_left target (place ∷ []) g.0 g.1),
      g.2,
    )
    | inr g ↦ (
      place,
      Contains-permutation (target ++ place ∷ []) sorted place p (Contains-push target place),
      (one_place code place s).1 g,
    )
  ]),
)

pub parted_chain : (code : List Instruction) (states : List State) (failure : Option ℕ)
    (reached others : List ℕ) → IfSome failure (HasState states)
    → IsJoinOf code reached (places_or_none states failure) others
    → IfSome failure (IsFailureState code states reached others)
parted_chain code states (Some at) reached others has_state union =
    record { has_state = has_state; union = union }
parted_chain code states None reached others has_state union = tt

-- ---- following a text
-- one character
pub next_decides : (code : List Instruction) (states : List State) (places left after : List ℕ) (c : ℕ)
    (next : Next) → left ≡ c ∷ after
    → LeadsNext code states places c next → DecidesLeft code states places left after next
next_decides code states places left after c (To at) e l = (
  l.has_state,
  (λ s. (
    (λ h. (l.leads (after ++ s)).0 (subst (AnyAmong code places) (ap (λ z. z ++ s) e) h)),
    (λ h. subst (AnyAmong code places) (sym (ap (λ z. z ++ s) e)) ((l.leads (after ++ s)).1 h)),
  )),
)
next_decides code states places left after c Nothing e dead =
    λ s h. dead (after ++ s) (subst (AnyAmong code places) (ap (λ z. z ++ s) e) h)
next_decides code states places left after c Everything e all =
    λ s. subst (AnyAmong code places) (sym (ap (λ z. z ++ s) e)) (all (after ++ s))

module _ (code : List Instruction) (states : List State) (places part text left after : List ℕ) (place c : ℕ)
    (stays : (s : List ℕ) → AnyAmong code places (text ++ s)
    ↔ (AnyAmong code part (left ++ s) ⊎ Accepts code place (left ++ s))) (one : left ≡ c ∷ after) where
  begins : (s : List ℕ) → left ++ s ≡ c ∷ after ++ s
  begins s = ap (λ z. z ++ s) one

  -- the check takes the character: both lead on
  pub both_on : (next : Next) → IsCheckAt code place c true → LeadsNext code states part c next
      → (next ≡ Everything → ⊥)
      → (s : List ℕ) → AnyAmong code places (text ++ s) ↔ (AnyAmong code
      (places_or_none states (state_of next)) (after ++ s) ⊎ Accepts code (place + 1) (after ++ s))
  both_on next check leads apart s = (
    (λ h. elim ((stays s).0 h) [
      | inl g ↦ inl ((onward next leads apart).0 (subst (AnyAmong code part) (begins s) g))
      | inr g ↦
          inr ((check_on code place c true (after ++ s) check).0 (subst (Accepts code place) (begins s) g)).1
    ]),
    (λ h. elim h [
      | inl g ↦
          (stays s).1 (inl (subst (AnyAmong code part) (sym (begins s)) ((onward next leads apart).1 g)))
      | inr g ↦ (stays s).1 (inr (subst (Accepts code place) (sym (begins s))
          ((check_on code place c true (after ++ s) check).1 (refl, g))))
    ]),
  )
    where
      nothing_in : AnyAmong code [] (after ++ s) → ⊥
      nothing_in h = absurd (let lt : h.1.0 < 0 = h.1.1 in omega (arith, lt))

      onward : (next : Next) → LeadsNext code states part c next → (next ≡ Everything → ⊥)
          → AnyAmong code part (c ∷ after ++ s)
          ↔ AnyAmong code (places_or_none states (state_of next)) (after ++ s)
      onward (To at) l apart = l.leads (after ++ s)
      onward Nothing dead apart = ((λ h. absurd (dead (after ++ s) h)), (λ h. absurd (nothing_in h)))
      onward Everything all apart = absurd (apart refl)

  -- every text is accepted, whether the check takes the character or not
  pub all_on : TakesAll code part c → (s : List ℕ) → AnyAmong code places (text ++ s)
  all_on all s = (stays s).1 (inl (subst (AnyAmong code part) (sym (begins s)) (all (after ++ s))))

  -- the check doesn't take the character: the failure state decides
  pub failure_on : (next : Next) → IsCheckAt code place c false → LeadsNext code states part c next
      → DecidesLeft code states places text after next
  failure_on (To at) check l = (
    l.has_state,
    (λ s. (
      (λ h. elim ((stays s).0 h) [
        | inl g ↦ (l.leads (after ++ s)).0 (subst (AnyAmong code part) (begins s) g)
        | inr g ↦ absurd (true≢false (sym
            ((check_on code place c false (after ++ s) check).0 (subst (Accepts code place) (begins s) g)).0))
      ]),
      (λ h. (stays s).1 (inl (subst (AnyAmong code part) (sym (begins s)) ((l.leads (after ++ s)).1 h)))),
    )),
  )
  failure_on Nothing check dead = λ s h. elim ((stays s).0 h) [
    | inl g ↦ dead (after ++ s) (subst (AnyAmong code part) (begins s) g)
    | inr g ↦ absurd (true≢false (sym
        ((check_on code place c false (after ++ s) check).0 (subst (Accepts code place) (begins s) g)).0))
  ]
  failure_on Everything check all = all_on all

pub next_placed : (code : List Instruction) (states : List State) (part : List ℕ) (c : ℕ) (next : Next)
    → LeadsNext code states part c next → IfSome (state_of next) (HasState states)
next_placed code states part c (To at) l = l.has_state
next_placed code states part c Nothing l = tt
next_placed code states part c Everything l = tt

pub check_within : (code : List Instruction) (at c : ℕ) (passes : Bool)
    → IsCheckAt code at c passes → at < length code
check_within code at c passes h = slice_get_within code at h.0 h.1

-- at first, the place of the chain and those of its failure state are all places
pub chain_begins : (code : List Instruction) (states : List State) (places : List ℕ) (chain : Chain)
    (text : List ℕ) → IsChain code states places chain
    → AnyAmong code places text
    ↔ (AnyAmong code (places_or_none states chain.failure) text ⊎ Accepts code chain.place text)
chain_begins code states places chain text l = (
  (λ h. elim ((l.union text).0 h) [ inl g ↦ inl g | inr g ↦ inr ((one_place code chain.place text).1 g) ]),
  (λ h. elim h [
    | inl g ↦ (l.union text).1 (inl g)
    | inr g ↦ (l.union text).1 (inr ((one_place code chain.place text).0 g))
  ]),
)

-- at last, the state of both decides
pub chain_ends : (code : List Instruction) (places held failure text after : List ℕ) (place : ℕ)
    → AnyAmong code places text ↔ (AnyAmong code failure after ⊎ Accepts code place after)
    → IsJoinOf code held failure (place ∷ [])
    → AnyAmong code places text ↔ AnyAmong code held after
chain_ends code places held failure text after place stays union = (
  (λ h.
      (union after).1 (elim (stays.0 h) [ inl g ↦ inl g | inr g ↦ inr ((one_place code place after).0 g) ])),
  (λ h.
      stays.1 (elim ((union after).0 h) [ inl g ↦ inl g | inr g ↦ inr ((one_place code place after).1 g) ])),
)

-- ---- whether a text may end
module _ (code : List Instruction) (states : List State) (cells : List ℕ) (at : ℕ) (s : State)
    (table : IsTable code states cells) (is : slice_get states at ≡ Some s) where
  pub said_ends : (b : Bool) → s.accepts ≡ Some b → IsTrue b ↔ AnyAmong code (places_at states at) []
  said_ends b said = subst (λ z. IsTrue b ↔ AnyAmong code z []) (sym (ap places_in is))
      (subst (λ o. IfSome o (λ b. IsTrue b ↔ AnyAmong code s.places.items [])) said (table.rows at s is).ends)

  pub own_ends : (failure : ℕ) → s.failure ≡ Some failure → AnyAmong code (own_at states at) []
      → AnyAmong code (places_at states at) []
  own_ends failure has h = ((failure_at code states cells at s failure table is has).union []).1 (inr h)

  pub failure_ends : (failure : ℕ) (b : Bool) → s.failure ≡ Some failure → b ≡ false
      → (IsTrue b ↔ AnyAmong code (own_at states at) [])
      → AnyAmong code (places_at states at) [] ↔ AnyAmong code (places_at states failure) []
  failure_ends failure b has unsaid ends =
      let union = (failure_at code states cells at s failure table is has).union [] in (
        (λ h. elim (union.0 h) [ inl g ↦ g | inr g ↦ absurd (true≢false (sym (ends.1 g) ∙ unsaid)) ]),
        (λ h. union.1 (inl h)),
      )
