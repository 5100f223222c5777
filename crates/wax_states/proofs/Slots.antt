-- Numbers in the slots of an index.
use Rattle.std.proofs.Common.{◌≡◌, ◌≢◌, ◌⊎◌, ◌+◌, ◌<◌, ◌≤◌, ◌∷◌, ◌++◌, ℕ, List, [], Some, length, set}
use Rattle.std.proofs.Common.{slice_get, slice_index, length-set, length-append, get_or-set_same}
use Rattle.std.proofs.Common.{get_or-set_other, map, refl, sym, ◌∙◌, ap, subst, arith, inl, inr}
use Rattle.std.proofs.{lemmas.Bool.{cases_eq, cases_lt}, lemmas.List.length-map}
use Rattle.std.proofs.lemmas.Option.{same_Some, slice_get-map, slice_get_cases, slice_get_within}
use Rattle.std.specs.Option.{option_map}
use Rattle.wax_states.specs.Indexed.{AreIndexed, HasNone}
use Rattle.wax_states.specs.inner.Slots.{NoneFoundBefore, IsEntered, IsFull, KeepsEntered, hash_of}
use Rattle.wax_states.specs.inner.Slots.{slot_after, slot_index}
use Rattle.wax_states.proofs.Listings.{slice_get_append, slice_get_end}

-- ---- a number is written into an empty slot
module _ (slots : List ℕ) (at number : ℕ) (inside : at < length slots)
    (empty : slice_index slots at ≡ 0) where
  -- a slot that isn't empty stays as it is
  stays : (hash probe n : ℕ) → n ≢ 0 → slot_after slots hash probe ≡ n
      → slot_after (set slots at (number + 1)) hash probe ≡ n
  stays hash probe n full is =
      ap (λ z. slice_index (set slots at (number + 1)) (slot_index z hash probe))
      (length-set slots at (number + 1))
      ∙ get_or-set_other slots at (slot_index (length slots) hash probe) (number + 1) 0
      (λ e. full (sym is ∙ ap (slice_index slots) e ∙ empty))
      ∙ is

  pub keeps_entered : KeepsEntered slots (set slots at (number + 1))
  keeps_entered hash t held = record {
    probe = held.probe;
    within = omega (arith, held.within, length-set slots at (number + 1));
    there = stays hash held.probe (t + 1) (λ e. omega (arith, e)) held.there;
    before = λ q lt e. held.before q lt
        (sym (stays hash q (slot_after slots hash q) (held.before q lt) refl) ∙ e);
  }

  pub is_entered : (hash probe : ℕ) → probe < length slots → at ≡ slot_index (length slots) hash probe
      → IsFull slots hash probe → IsEntered (set slots at (number + 1)) hash (number + 1)
  is_entered hash probe lt e full = record {
    probe = probe;
    within = omega (arith, lt, length-set slots at (number + 1));
    there = ap (λ z. slice_index (set slots at (number + 1)) (slot_index z hash probe))
        (length-set slots at (number + 1))
        ∙ ap (slice_index (set slots at (number + 1))) (sym e)
        ∙ get_or-set_same slots at (number + 1) 0 inside;
    before = λ q less is. full q less
        (sym (stays hash q (slot_after slots hash q) (full q less) refl) ∙ is);
  }

-- one more slot that isn't empty
pub full_more : (slots : List ℕ) (hash probe : ℕ) → slot_after slots hash probe ≢ 0 → IsFull slots hash probe
    → IsFull slots hash (probe + 1)
full_more slots hash probe here full q lt = elim (cases_lt q probe) [
  | inl less ↦ full q less
  | inr past ↦ (let same : q ≡ probe = omega (arith, lt, past) in
      subst (λ n. slot_after slots hash n ≢ 0) (sym same) here)
]

-- ---- states are entered one after another

-- those before a number are found
abbrev pub AreIndexedBefore : List ℕ → List (List ℕ) → ℕ → Type 0
AreIndexedBefore slots lists end = (t : ℕ) (places : List ℕ) → t < end → slice_get lists t ≡ Some places
    → IsEntered slots (hash_of places) (t + 1)

module _ (old new : List ℕ) (lists : List (List ℕ)) (kept : KeepsEntered old new) where
  pub indexed_more : (number : ℕ) (places : List ℕ) → slice_get lists number ≡ Some places
      → IsEntered new (hash_of places) (number + 1) → AreIndexedBefore old lists number
      → AreIndexedBefore new lists (number + 1)
  indexed_more number places at entered before t ps lt is = elim (cases_lt t number) [
    | inl less ↦ kept (hash_of ps) t (before t ps less is)
    | inr past ↦ (let same : t ≡ number = omega (arith, lt, past) in
        let one : places ≡ ps = same_Some places ps (sym at ∙ ap (slice_get lists) (sym same) ∙ is) in
        subst (λ z. IsEntered new (hash_of z) (t + 1)) one
        (subst (λ n. IsEntered new (hash_of places) (n + 1)) (sym same) entered))
  ]

  pub indexed_push : (places : List ℕ) → IsEntered new (hash_of places) (length lists + 1)
      → AreIndexed old lists → AreIndexed new (lists ++ places ∷ [])
  indexed_push places entered indexed t ps is = elim (cases_lt t (length lists)) [
    | inl less ↦ kept (hash_of ps) t
        (indexed t ps (sym (slice_get_append lists (places ∷ []) t less) ∙ is))
    | inr past ↦ (let within : t < length (lists ++ places ∷ []) =
        slice_get_within (lists ++ places ∷ []) t ps is in
        let last : t ≡ length lists =
        omega (arith, past, within, length-append lists (places ∷ [])) in
        let one : places ≡ ps = same_Some places ps
        (sym (slice_get_end lists places) ∙ ap (slice_get (lists ++ places ∷ [])) (sym last) ∙ is) in
        subst (λ z. IsEntered new (hash_of z) (t + 1)) one
        (subst (λ n. IsEntered new (hash_of places) (n + 1)) (sym last) entered))
  ]

pub indexed_all : (slots : List ℕ) (lists : List (List ℕ)) (end : ℕ) → length lists ≤ end
    → AreIndexedBefore slots lists end → AreIndexed slots lists
indexed_all slots lists end all before t places is =
    before t places (omega (arith, all, slice_get_within lists t places is)) is

-- ---- a state is looked for
module _ (slots : List ℕ) (lists : List (List ℕ)) (places : List ℕ) (probe : ℕ)
    (others : NoneFoundBefore slots lists places probe) where
  -- no state has the places, if an empty slot or the last one is reached
  pub none_found : (slot_after slots (hash_of places) probe ≡ 0) ⊎ (length slots ≤ probe)
      → AreIndexed slots lists → HasNone lists places
  none_found end indexed t is =
      let here = indexed t places is in
      elim (cases_lt here.probe probe) [
        | inl less ↦ (others here.probe less).1 t here.there is
        | inr past ↦ elim end [
          | inr all ↦ (let no : ⊥ = omega (arith, past, all, here.within) in no)
          | inl empty ↦ elim (cases_eq here.probe probe) [
            | inl same ↦ (let slot : slot_after slots (hash_of places) probe ≡ t + 1 =
                ap (slot_after slots (hash_of places)) (sym same) ∙ here.there in
                let no : ⊥ = omega (arith, slot, empty) in no)
            | inr other ↦ here.before probe (omega (arith, past, other)) empty
          ]
        ]
      ]

  pub others_more : (slot_after slots (hash_of places) probe ≢ 0)
      → ((t : ℕ) → slot_after slots (hash_of places) probe ≡ t + 1 → slice_get lists t ≢ Some places)
      → NoneFoundBefore slots lists places (probe + 1)
  others_more full other q lt = elim (cases_lt q probe) [
    | inl less ↦ others q less
    | inr past ↦ (let same : q ≡ probe = omega (arith, lt, past) in (
      (λ e. full (ap (slot_after slots (hash_of places)) (sym same) ∙ e)),
      (λ t e. other t (ap (slot_after slots (hash_of places)) (sym same) ∙ e)),
    ))
  ]

-- the item of which a list of places is
pub mapped_at : {X : Type 0} (places_of : X → List ℕ) (xs : List X) (t : ℕ) (places : List ℕ)
    → slice_get (map places_of xs) t ≡ Some places
    → (x : X) × (slice_get xs t ≡ Some x) × (places_of x ≡ places)
mapped_at {X} places_of xs t places is = elim (slice_get_cases xs t).1 [
  | inl found ↦ (
    found.0,
    found.2,
    same_Some (places_of found.0) places
        (sym (slice_get-map places_of xs t ∙ ap (option_map places_of) found.2) ∙ is),
  )
  | inr past ↦ (let within : t < length (map places_of xs) =
      slice_get_within (map places_of xs) t places is in
      absurd (omega (arith, past.0, within, length-map xs places_of)))
]
