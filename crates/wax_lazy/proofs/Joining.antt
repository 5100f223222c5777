-- The numbers of a state, by those of its own places and those of its failure state.
use Rattle.std.proofs.Common.{IsPermutation, ◌≡◌, ◌<◌, ◌⊎◌, ◌↔◌, ◌++◌, ◌∷◌, [], inl, inr, ℕ, List, Contains}
use Rattle.std.proofs.{Common.{ap, arith, length, subst, sym}, Math.Dec.eqb}
use Rattle.std.proofs.lemmas.List.Elements.{Contains-append_cases, Contains-append_left}
use Rattle.std.proofs.{lemmas.List.Elements.Contains-append_right, lemmas.List.Filters.dedup_is}
use Rattle.std.proofs.lemmas.List.Kept.{Contains-dedup_nat, Contains-from_dedup}
use Rattle.std.proofs.lemmas.List.Sorted.{Contains-permutation, IsPermutation-sym}
use Rattle.std.proofs.lemmas.Map.Keys.{IsStrictlyIncreasing-dedup}
use Rattle.std.specs.{List.dedup, List.Retain.{DiffersFromLast, IsFiltered}}
use Rattle.std.specs.{List.Sorted.{IsSorted, IsStrictlyIncreasing}, Ordering.nat_cmp}
use Rattle.wax_lazy.specs.inner.Table.{AreJoined, AreNumbersOf, IsFailureState, KeepsStates}
use Rattle.wax_lazy.proofs.Tables.{places_keep}
use Rattle.wax_program.specs.{declared.instruction.Instruction.Instruction, Machine.mark, Threads.AnyAmong}
use Rattle.wax_states.specs.{declared.table.State.State, Reached.AreEndsMarked, States.{HasState, places_at}}

-- these are the numbers of both lists
abbrev pub AreEither : List ℕ → List ℕ → List ℕ → Type 0
AreEither one other all = (number : ℕ) → Contains all number ↔ (Contains one number ⊎ Contains other number)

-- these are the numbers of the list and those that the places end
abbrev pub AreAdded : List Instruction → List ℕ → List ℕ → List ℕ → Type 0
AreAdded code places before after = (number : ℕ)
    → Contains after number ↔ (Contains before number ⊎ AnyAmong code places (mark number ∷ []))

pub added_numbers : (code : List Instruction) (places before listed after : List ℕ)
    → AreEndsMarked code places listed → after ≡ before ++ listed → AreAdded code places before after
added_numbers code places before listed after ends is number = (
  (λ h. elim (Contains-append_cases before listed number (subst (λ z. Contains z number) is h)) [
    | inl old ↦ inl old
    | inr new ↦ inr ((ends number).0 new)
  ]),
  (λ h. subst (λ z. Contains z number) (sym is) (elim h [
    | inl old ↦ Contains-append_left before listed number old
    | inr new ↦ Contains-append_right before listed number ((ends number).1 new)
  ])),
)

module _ (code : List Instruction) (states : List State) (at : ℕ) where
  pub joined_none : (own : List ℕ) → own ≡ [] → AreJoined code states at own at
  joined_none own none number = (
    (λ h. inr h),
    (λ h. elim h [
      | inl g ↦ absurd (let lt : g.0 < length own = g.1 in omega (arith, lt, ap length none))
      | inr g ↦ g
    ]),
  )

  -- a state goes on by its failure state
  pub joined_more : (own more own_places : List ℕ) (here failure : ℕ) → AreJoined code states at own here
      → IsFailureState code states (places_at states here) own_places failure
      → AreAdded code own_places own more → AreJoined code states at more failure
  joined_more own more own_places here failure joined parts added number = (
    (λ h. elim ((joined number).0 h) [
      | inl old ↦ inl ((added number).1 (inl old))
      | inr g ↦ elim ((parts.union (mark number ∷ [])).0 g) [
        | inl rest ↦ inr rest
        | inr mine ↦ inl ((added number).1 (inr mine))
      ]
    ]),
    (λ h. elim h [
      | inl g ↦ elim ((added number).0 g) [
        | inl old ↦ (joined number).1 (inl old)
        | inr mine ↦ (joined number).1 (inr ((parts.union (mark number ∷ [])).1 (inr mine)))
      ]
      | inr rest ↦ (joined number).1 (inr ((parts.union (mark number ∷ [])).1 (inl rest)))
    ]),
  )

  -- the numbers of both, in one list
  pub joined_numbers : (own left others merged : List ℕ) (rest : ℕ) → AreJoined code states at own rest
      → ((number : ℕ) → Contains left number ↔ Contains own number)
      → AreNumbersOf code (places_at states rest) others
      → AreEither left others merged
      → IsStrictlyIncreasing merged → AreNumbersOf code (places_at states at) merged
  joined_numbers own left others merged rest joined same known all up = (
    (λ number. (
      (λ h. (joined number).1 (elim ((all number).0 h) [
        | inl g ↦ inl ((same number).0 g)
        | inr g ↦ inr ((known.0 number).0 g)
      ])),
      (λ h. (all number).1 (elim ((joined number).0 h) [
        | inl g ↦ inl ((same number).1 g)
        | inr g ↦ inr ((known.0 number).1 g)
      ])),
    )),
    up,
  )

-- the same, among states that are kept
pub joined_keeps : (code : List Instruction) (old new : List State) → KeepsStates old new → (at rest : ℕ)
    (own : List ℕ) → HasState old at → HasState old rest → AreJoined code old at own rest
    → AreJoined code new at own rest
joined_keeps code old new keeps at rest own here there joined number =
    subst (λ z. AnyAmong code z (mark number ∷ [])
    ↔ (Contains own number ⊎ AnyAmong code (places_at new rest) (mark number ∷ [])))
    (sym (places_keep old new keeps at here))
    (subst (λ z. AnyAmong code (places_at old at) (mark number ∷ [])
    ↔ (Contains own number ⊎ AnyAmong code z (mark number ∷ []))) (sym (places_keep old new keeps rest there))
    (joined number))

-- numbers that were sorted, each once
pub sorted_same : (own sorted left : List ℕ) → IsPermutation own sorted
    → IsFiltered (DiffersFromLast eqb) [] sorted left
    → (number : ℕ) → Contains left number ↔ Contains own number
sorted_same own sorted left p f number =
    let e : left ≡ dedup eqb sorted = dedup_is eqb sorted left f in (
      (λ h. Contains-permutation sorted own number (IsPermutation-sym own sorted p)
          (Contains-from_dedup eqb sorted number (subst (λ z. Contains z number) e h))),
      (λ h. subst (λ z. Contains z number) (sym e)
          (Contains-dedup_nat sorted number (Contains-permutation own sorted number p h))),
    )

pub sorted_ascends : (sorted left : List ℕ) → IsSorted nat_cmp sorted
    → IsFiltered (DiffersFromLast eqb) [] sorted left → IsStrictlyIncreasing left
sorted_ascends sorted left s f =
    subst IsStrictlyIncreasing (sym (dedup_is eqb sorted left f)) (IsStrictlyIncreasing-dedup sorted s)
