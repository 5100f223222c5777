-- The table of characters with one folding is in order, so a search tells whether a character is in it.
use Rattle.std.proofs.Common.{◌≡◌, ◌≢◌, ◌↔◌, ℕ, zero, suc, ◌<◌, ◌≤◌, ◌==◌, ◌&&◌, ◌||◌, nat_lt, Bool, true}
use Rattle.std.proofs.Common.{List, [], ◌∷◌, length, get_or, Result, Ok, Err, refl, sym, ◌∙◌, ap, inl, inr}
use Rattle.std.proofs.{Common.{arith, rules, true≢false, IsTrue}, lemmas.Bool.{cases_eq, cases_lt}}
use Rattle.std.proofs.{lemmas.Cmp.ranked, lemmas.Bool.Decides.nat_tests}
use Rattle.std.proofs.lemmas.List.Elements.{at_from_Contains, Contains-get_or}
use Rattle.std.proofs.lemmas.List.Sorted.{IsNonDecreasingBy-from_default}
use Rattle.std.specs.{List.HoldsAt, List.Sorted.{IsSearchInRange, IsBinarySearchResult, IsNonDecreasingBy}}
use Rattle.std.specs.Ordering.{nat_cmp, ordering_index}
use Rattle.std.specs.{declared.cmp.Ordering.TheVariants.{Less, Equal, Greater}, Result.is_err}
use Rattle.unicode.specs.CaseFolding.{simple_fold, fold_pairs, IsFoldPairs}
use Rattle.unicode.proofs.BoundLemmas.{pairs_rise, pairs_rise-fold_pairs}
use Rattle.wax_token.specs.Meaning.{SameFold}
use Rattle.wax_facts.specs.InvariantText.{FoldsAlone}
use Rattle.wax_facts.proofs.Truths.{and_parts, or_parts}

less : (m n : ℕ) → nat_lt m n ≡ true → m < n
less m n e = search rules

equal : (m n : ℕ) → (m == n) ≡ true → m ≡ n
equal m n e = search rules

next_above : (m n k l : ℕ) → (nat_lt m n || ((m == n) && nat_lt k l)) ≡ true → m ≤ n
next_above m n k l e = elim (or_parts (nat_lt m n) ((m == n) && nat_lt k l) e) [
  | inl f ↦ omega (arith, less m n f)
  | inr f ↦ omega (arith, equal m n (and_parts (m == n) (nat_lt k l) f).0)
]

step : (last p : ℕ × ℕ) (ps : List (ℕ × ℕ)) → pairs_rise last (p ∷ ps) ≡ true
    → (last.0 ≤ p.0) × (pairs_rise p ps ≡ true)
unfolding pairs_rise
step last p ps e =
    let k : ((nat_lt last.0 p.0 || ((last.0 == p.0) && nat_lt last.1 p.1)) ≡ true)
    × (pairs_rise p ps ≡ true) =
    and_parts (nat_lt last.0 p.0 || ((last.0 == p.0) && nat_lt last.1 p.1)) (pairs_rise p ps) e in
    (next_above last.0 p.0 last.1 p.1 k.0, k.1)

all_above : (last : ℕ × ℕ) (ps : List (ℕ × ℕ)) → pairs_rise last ps ≡ true → (j : ℕ) → j < length ps
    → last.0 ≤ (get_or ps j (0, 0)).0
all_above last [] e j lt = absurd (omega (arith, lt))
all_above last (p ∷ ps) e zero lt = (step last p ps e).0
all_above last (p ∷ ps) e (suc j) lt =
    omega (arith, (step last p ps e).0, all_above p ps (step last p ps e).1 j (omega (arith, lt)))

rises : (last : ℕ × ℕ) (ps : List (ℕ × ℕ)) → pairs_rise last ps ≡ true → (i j : ℕ) → i ≤ j → j < length ps
    → (get_or ps i (0, 0)).0 ≤ (get_or ps j (0, 0)).0
rises last [] e i j le lt = absurd (omega (arith, lt))
rises last (p ∷ ps) e zero zero le lt = omega arith
rises last (p ∷ ps) e zero (suc j) le lt = all_above p ps (step last p ps e).1 j (omega (arith, lt))
rises last (p ∷ ps) e (suc i) zero le lt = absurd (omega (arith, le))
rises last (p ∷ ps) e (suc i) (suc j) le lt =
    rises p ps (step last p ps e).1 i j (omega (arith, le)) (omega (arith, lt))

comparisons_rise : (c : ℕ) → IsNonDecreasingBy (λ pair. ordering_index (nat_cmp pair.0 c)) fold_pairs
comparisons_rise c =
    IsNonDecreasingBy-from_default (λ pair. ordering_index (nat_cmp pair.0 c)) fold_pairs (0, 0) (λ i j le lt.
    let e : (get_or fold_pairs i (0, 0)).0 ≤ (get_or fold_pairs j (0, 0)).0 =
    rises (0, 0) fold_pairs pairs_rise-fold_pairs i j le lt in
    grind (arith, nat_tests, e))

module _ (c : ℕ) (meaning : IsFoldPairs fold_pairs) where
  -- a pair with the character
  shared : (i : ℕ) → i < length fold_pairs
      → HoldsAt (λ y. nat_cmp y.0 c ≡ Equal) fold_pairs i → FoldsAlone c → ⊥
  unfolding SameFold
  shared i lt h f =
      let y : ℕ × ℕ = get_or fold_pairs i (0, 0) in
      let e : y.0 ≡ c = ranked y.0 c Equal (sym (h (0, 0))) in
      let k : (y.0 ≢ y.1) × (simple_fold y.0 ≡ simple_fold y.1) =
      (meaning y.0 y.1).0 (Contains-get_or fold_pairs i (0, 0) lt) in
      k.0 (e ∙ sym (f y.1 (sym (ap simple_fold e) ∙ k.1)))

  -- no pair has it
  missed : (i : ℕ) → IsBinarySearchResult (λ y. nat_cmp y.0 c) fold_pairs (Err i) → FoldsAlone c
  unfolding SameFold
  missed i found d s = elim (cases_eq d c) [
    | inl e ↦ e
    | inr n ↦ absurd (at_pair (at_from_Contains fold_pairs (c, d) ((meaning c d).1 ((λ e. n (sym e)), s))))
  ]
    where
      at_pair : (k : ℕ) × (k < length fold_pairs) × HoldsAt (λ y. y ≡ (c, d)) fold_pairs k → ⊥
      at_pair h =
          let e : (get_or fold_pairs h.0 (0, 0)).0 ≡ c = ap (λ z. z.0) (h.2 (0, 0)) in
          let parted = found (comparisons_rise c) in
          elim (cases_lt h.0 i) [
            | inl lt ↦ (let k : (get_or fold_pairs h.0 (0, 0)).0 < c =
                ranked _ c Less (sym (parted.0 h.0 (0, 0) (omega arith) lt)) in omega (arith, k, e))
            | inr le ↦ (let k : c < (get_or fold_pairs h.0 (0, 0)).0 =
                ranked _ c Greater (sym (parted.1 h.0 (0, 0) le h.1)) in omega (arith, k, e))
          ]

  searched : (r : Result ℕ ℕ) → IsSearchInRange r (length fold_pairs)
      → IsBinarySearchResult (λ y. nat_cmp y.0 c) fold_pairs r → IsTrue (is_err r) ↔ FoldsAlone c
  searched (Ok i) bound found = ((λ e. absurd (true≢false (sym e))), λ f. absurd (shared i bound found f))
  searched (Err i) bound found = ((λ e. missed i found), λ f. refl)

pub searched_alone : (pairs : List (ℕ × ℕ)) (c : ℕ) (r : Result ℕ ℕ) (b : Bool) → pairs ≡ fold_pairs
    → IsFoldPairs pairs → IsSearchInRange r (length pairs) →
    IsBinarySearchResult (λ y. nat_cmp y.0 c) pairs r → b ≡ is_err r → IsTrue b ↔ FoldsAlone c
searched_alone pairs c r b table meaning bound found is =
    rw is (searched c (rw table at meaning) r (rw table at bound) (rw table at found))
