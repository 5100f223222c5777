-- The greatest of numbers that ascend.
use Rattle.std.proofs.Common.{◌≡◌, ◌∙◌, ◌↔◌, ◌+◌, ◌-◌, ◌<◌, ◌≤◌, ℕ, zero, suc, Bool, IsTrue, List, [], ◌∷◌}
use Rattle.std.proofs.Common.{Some, Contains, ap, arith, get_or, length, slice_get, subst, sym}
use Rattle.std.proofs.{lemmas.List.get_or_default, lemmas.Option.{get_or_from_slice_get, slice_get_within}}
use Rattle.std.specs.List.Sorted.{IsStrictlyIncreasing}
use Rattle.wax_compare.proofs.Selecting.{odd_as}
use Rattle.wax_compare.specs.{Selected.{HasOddLast, IsSelected, is_odd}, declared.wanted.Criterion.Criterion}
use Rattle.wax_compare.specs.declared.wanted.Criterion.TheVariants.{OddLast}
use Rattle.wax_program.specs.{Machine.mark, Threads.AnyAmong, declared.instruction.Instruction.Instruction}
use Rattle.wax_states.specs.Reached.{AreEndsMarked}

rising : (xs : List ℕ) (k more : ℕ) → IsStrictlyIncreasing xs → k + more < length xs
    → get_or xs k 0 ≤ get_or xs (k + more) 0
rising xs k zero up lt = let e : k + 0 ≡ k = omega arith in omega (arith, ap (λ j. get_or xs j 0) e)
rising xs k (suc more) up lt =
    let e : k + suc more ≡ k + more + 1 = omega arith in
    let before : k + more < length xs = omega (arith, lt) in
    let next : k + more + 1 < length xs = omega (arith, lt) in
    omega (arith, rising xs k more up before, up (k + more) next, ap (λ j. get_or xs j 0) e)

module _ (numbers : List ℕ) (last : ℕ) (up : IsStrictlyIncreasing numbers)
    (at : slice_get numbers (length numbers - 1) ≡ Some last) where
  contained : Contains numbers last
  contained = (
    length numbers - 1,
    slice_get_within numbers (length numbers - 1) last at,
    get_or_from_slice_get numbers (length numbers - 1) last last at,
  )

  greatest : (number : ℕ) → Contains numbers number → number ≤ last
  greatest number h =
      let j : ℕ = length numbers - 1 in
      let more : h.0 + (j - h.0) ≡ j = omega (arith, h.1) in
      let within : h.0 + (j - h.0) < length numbers = omega (arith, h.1) in
      let here : get_or numbers h.0 0 ≡ number = get_or_default numbers h.0 0 number h.1 ∙ h.2 in
      let there : get_or numbers j 0 ≡ last = get_or_from_slice_get numbers j last 0 at in
      omega (arith, rising numbers h.0 (j - h.0) up within, ap (λ i. get_or numbers i 0) more, here, there)

  -- the last one is the greatest
  pub last_is_odd : IsTrue (is_odd last) ↔ HasOddLast (Contains numbers)
  last_is_odd = (
    (λ e. record { last = last; holds = contained; greatest = greatest; odd = e }),
    (λ h. (let low : h.last ≤ last = greatest h.last h.holds in
        let high : last ≤ h.last = h.greatest last contained in
        let same : last ≡ h.last = omega (arith, low, high) in
        ap is_odd same ∙ h.odd)),
  )

-- a text that leads to places is selected if the last of their numbers is odd
pub selected_by_numbers : (criterion : Criterion) (code : List Instruction) (places numbers : List ℕ)
    (odd : Bool) → criterion ≡ OddLast → AreEndsMarked code places numbers
    → IsTrue odd ↔ HasOddLast (Contains numbers)
    → IsTrue odd ↔ IsSelected criterion (AnyAmong code places) []
selected_by_numbers criterion code places numbers odd e ends by =
    subst (λ v. IsTrue odd ↔ IsSelected v (AnyAmong code places) []) (sym e)
    (let same = odd_as (Contains numbers) (λ k. AnyAmong code places (mark k ∷ [])) ends in
    ((λ h. same.0 (by.0 h)), (λ h. by.1 (same.1 h))))
