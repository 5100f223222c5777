-- Lines that are found are no more than the list has, and are written if there is room for so many.
use Rattle.std.proofs.Common.{◌≡◌, ◌≤◌, ◌<◌, ◌+◌, ◌∙◌, ℕ, ℤ, suc, Bool, true, false, List, [], ◌∷◌, Some}
use Rattle.std.proofs.Common.{Result, Ok, Err, IfOk, ap, arith, filter, get_or, length, nat_abs, neg_ℤ, not}
use Rattle.std.proofs.{Common.{pos, refl, slice_get, subst, sym}, lemmas.List.Filters.length-filter_both}
use Rattle.std.proofs.lemmas.List.Kept.{AllPairs-from_increasing}
use Rattle.std.proofs.lemmas.Option.{get_or_from_slice_get, slice_get_within}
use Rattle.std.specs.List.Sorted.{IsStrictlyIncreasing}
use Rattle.wax.specs.{Comparing.{AreIdle, TidiesUp}, declared.NoMemory.NoMemory}
use Rattle.wax.specs.{declared.ignoring.IgnoreList.IgnoreList, declared.walk.IdleLine.IdleLine}
use Rattle.wax_c.specs.Lines.{ListsFound, ListsWithin, is_sure, lines_number, sure_indexes, unsure_indexes}
use Rattle.wax_c.specs.declared.error.CallError.{CallError}
use Rattle.wax_c.specs.declared.error.CallError.TheVariants.{Build, NotText, NoRoom}
use Rattle.wax_c.specs.{declared.lines.FoundLines.FoundLines, inner.FoundLines.AreFoundLines}
use lib.ListN.{length-map}

-- ---- elements whose numbers rise from one number to another are no more than there are numbers between
abbrev RisesBy : {X : Type 0} → (X → ℕ) → List X → Type 0
RisesBy {X} f xs =
    (j k : ℕ) (x y : X) → j < k → slice_get xs j ≡ Some x → slice_get xs k ≡ Some y → f x < f y

few_between : {X : Type 0} (f : X → ℕ) (xs : List X) (low high : ℕ) → low ≤ high
    → ((k : ℕ) (x : X) → slice_get xs k ≡ Some x → low ≤ f x)
    → ((k : ℕ) (x : X) → slice_get xs k ≡ Some x → f x < high) → RisesBy f xs → low + length xs ≤ high
few_between f [] low high some above below up = omega (arith, some)
few_between f (x ∷ xs) low high some above below up =
    let next : f x + 1 ≤ high = omega (arith, below 0 x refl) in omega (
      arith,
      above 0 x refl,
      few_between f xs (f x + 1) high next (λ k y e. omega (arith, up 0 (suc k) x y (omega arith) refl e))
          (λ k y e. below (suc k) y e)
          (λ j k y z lt here there. up (suc j) (suc k) y z (omega (arith, lt)) here there),
    )

few_below : {X : Type 0} (f : X → ℕ) (xs : List X) (high : ℕ)
    → ((k : ℕ) (x : X) → slice_get xs k ≡ Some x → f x < high) → RisesBy f xs → length xs ≤ high
few_below f xs high below up = omega (
  arith,
  few_between f xs 0 high (omega arith) (λ k x e. omega arith) below up,
)

-- ---- so there are few lines that decide nothing, or of which it isn't known, and few that are enough
few_idle : (list : IgnoreList) (idle : List IdleLine) → AreIdle list idle → length idle ≤ length list
few_idle list idle are = few_below (λ x. x.index) idle (length list) are.within are.ascending

parts_of : (idle : List IdleLine) → length (sure_indexes idle) + length (unsure_indexes idle) ≡ length idle
parts_of idle =
    let sure : IdleLine → Bool = λ x. is_sure x.reason in let unsure : IdleLine → Bool = λ x. not (sure x) in
    omega (
      arith,
      length-filter_both sure unsure (λ x. refl) idle,
      length-map (filter sure idle) (λ x. x.index),
      length-map (filter unsure idle) (λ x. x.index),
    )

pub few_sure : (list : IgnoreList) (idle : List IdleLine) (indexes : List ℕ) → AreIdle list idle
    → indexes ≡ sure_indexes idle → length indexes ≤ length list
few_sure list idle indexes are same =
    omega (arith, few_idle list idle are, parts_of idle, ap length same)

pub few_unsure : (list : IgnoreList) (idle : List IdleLine) (indexes : List ℕ) → AreIdle list idle
    → indexes ≡ unsure_indexes idle → length indexes ≤ length list
few_unsure list idle indexes are same =
    omega (arith, few_idle list idle are, parts_of idle, ap length same)

rises_from : (xs : List ℕ) → IsStrictlyIncreasing xs → RisesBy (λ n. n) xs
rises_from xs up j k x y lt here there =
    subst (λ a. a < y) (get_or_from_slice_get xs j x 0 here)
    (subst (λ b. get_or xs j 0 < b) (get_or_from_slice_get xs k y 0 there)
    (AllPairs-from_increasing xs up j k 0 lt (slice_get_within xs k y there)))

pub few_enough : (list tidy : IgnoreList) (removed : List IdleLine) (indexes unknown : List ℕ)
    → TidiesUp list removed indexes tidy unknown → length indexes ≤ length list
few_enough list tidy removed indexes unknown tidies =
    few_below (λ n. n) indexes (length list)
    (λ k n e. ((tidies.removes.others n).0
    (k, slice_get_within indexes k n e, get_or_from_slice_get indexes k n n e)).0)
    (rises_from indexes tidies.removes.ascending)

-- ---- what is found is written
no_room : (most : ℕ) (found : Result FoundLines NoMemory) (before after : List ℕ) (count : ℕ)
    (outcome : Result Bool CallError) → IfOk found (λ found. length found.indexes.items ≤ most)
    → ListsFound (AreFoundLines found) before after count outcome → most ≤ length before
    → lines_number outcome ≡ neg_ℤ (pos 21) → ⊥
no_room most found before after count (Ok true) few lists enough is = omega (arith, ap nat_abs is)
no_room most found before after count (Ok false) few lists enough is = omega (arith, ap nat_abs is)
no_room most (Ok found) before after count (Err NoRoom) few
    (indexes, all, (same, known), over, kept, counted) enough is =
    omega (arith, few, ap length same, over, enough)
no_room most (Err error) before after count (Err NoRoom) few (indexes, all, wrong, over, kept, counted)
    enough is = absurd wrong
no_room most found before after count (Err NotText) few wrong enough is = absurd wrong
no_room most found before after count (Err (Build error)) few (memory, kept, zero) enough is =
    let ten = subst (λ error. lines_number (Err (Build error)) ≡ neg_ℤ (pos 21)) memory is in
    omega (arith, ap nat_abs ten)

are_found : (Found : List ℕ → Bool → Type 0) (found : Result FoundLines NoMemory) (indexes : List ℕ)
    (all : Bool) → IfOk found (λ found. Found found.indexes.items found.is_all_known)
    → AreFoundLines found indexes all → Found indexes all
are_found Found (Ok found) indexes all has (same, known) =
    subst (λ xs. Found xs all) (sym same) (subst (Found found.indexes.items) (sym known) has)
are_found Found (Err error) indexes all has wrong = absurd wrong

lists_found : (Found : List ℕ → Bool → Type 0) (found : Result FoundLines NoMemory)
    (before after : List ℕ) (count : ℕ) (outcome : Result Bool CallError)
    → IfOk found (λ found. Found found.indexes.items found.is_all_known)
    → ListsFound (AreFoundLines found) before after count outcome
    → ListsFound Found before after count outcome
lists_found Found found before after count (Ok all) has (indexes, is, holds, counted) =
    (indexes, are_found Found found indexes all has is, holds, counted)
lists_found Found found before after count (Err NoRoom) has
    (indexes, all, is, over, kept, counted) =
    (indexes, all, are_found Found found indexes all has is, over, kept, counted)
lists_found Found found before after count (Err NotText) has wrong = absurd wrong
lists_found Found found before after count (Err (Build error)) has rest = rest

pub lists_within : (Found : List ℕ → Bool → Type 0) (most : ℕ) (found : Result FoundLines NoMemory)
    (before after : List ℕ) (count : ℕ) (number : ℤ)
    → IfOk found (λ found. Found found.indexes.items found.is_all_known)
    → IfOk found (λ found. length found.indexes.items ≤ most)
    → (outcome : Result Bool CallError) × ListsFound (AreFoundLines found) before after count outcome
    × (number ≡ lines_number outcome) → ListsWithin most Found before after count number
lists_within Found most found before after count number has few (outcome, lists, is) = (
  outcome,
  lists_found Found found before after count outcome has lists,
  is,
  λ enough wrong. no_room most found before after count outcome few lists enough (sym is ∙ wrong),
)
