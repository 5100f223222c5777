-- Ranges of numbers, the least number outside of them, and what those of a class leave.
use Rattle.std.proofs.Common.{◌≡◌, ◌≢◌, ℕ, ◌+◌, ◌<◌, ◌≤◌, ◌==◌, ◌&&◌, ◌||◌, nat_le, nat_lt, Bool, true, false}
use Rattle.std.proofs.Common.{List, [], ◌∷◌, length, get_or, map, max, inl, inr, refl, sym, ap, ap₂, subst}
use Rattle.std.proofs.{Common.{true≢false, ◌∙◌, arith}, lemmas.Bool.{cases_eq, cases_lt}}
use Rattle.std.proofs.{lemmas.Bool.Decides.nat_tests, lemmas.List.Elements.All-from_get_or}
use Rattle.std.proofs.lemmas.List.Folds.{list_any_at, list_any_none}
use Rattle.std.proofs.{lemmas.List.Sorted.list_any-IsPermutation, Math.Utf8.low_scalar}
use Rattle.std.specs.{Char.IsScalar, List.list_any, List.Sorted.{IsNonDecreasingBy, IsPermutation}}
use Rattle.wax_token.specs.{Meaning.in_archetype, declared.token.Archetype.Archetype}
use Rattle.wax_token.specs.declared.token.Archetype.TheVariants.{Character, Range}
use Rattle.wax_program.proofs.Scalars.{scalar_small}
use Rattle.wax_program.specs.Onward.{LeavesOther}
use Rattle.wax_program.specs.inner.Ranges.{IsLeastOutside, NumberRange, lies_in, number_range_of, ranges_with}

-- ---- one range
before : (c : ℕ) (r : NumberRange) → c < r.0 → lies_in c r ≡ false
before c r lt = grind (arith, nat_tests)

after : (c : ℕ) (r : NumberRange) → r.1 ≤ c → lies_in c r ≡ false
after c r le = grind (arith, nat_tests)

within : (c : ℕ) (r : NumberRange) → r.0 ≤ c → c < r.1 → lies_in c r ≡ true
within c r le lt = grind (arith, nat_tests)

-- ---- the least number outside

abbrev range_at : List NumberRange → ℕ → NumberRange
range_at ranges i = get_or ranges i (0, 0)

-- the first ranges end at the number or before it, and each lesser one is in a range
pub record IsSwept (ranges : List NumberRange) (i least : ℕ) : Type 0 where
  pub ends : (j : ℕ) → j < i → (range_at ranges j).1 ≤ least
  pub lesser : (c : ℕ) → c < least → list_any (lies_in c) ranges ≡ true

pub swept_none : (ranges : List NumberRange) → IsSwept ranges 0 0
swept_none ranges = record {
  ends = λ j lt. absurd (omega (arith, lt));
  lesser = λ c lt. absurd (omega (arith, lt));
}

outside_all : (ranges : List NumberRange) (n : ℕ)
    → ((j : ℕ) → j < length ranges → lies_in n (range_at ranges j) ≡ false)
    → list_any (lies_in n) ranges ≡ false
outside_all ranges n none =
    list_any_none (lies_in n) ranges (All-from_get_or (λ r. lies_in n r ≡ false) ranges (0, 0) none)

module _ (ranges : List NumberRange) (i least : ℕ) (swept : IsSwept ranges i least) where
  pub swept_more : i < length ranges → (range_at ranges i).0 ≤ least
      → IsSwept ranges (i + 1) (max least (range_at ranges i).1)
  swept_more lt begins =
      let r = range_at ranges i in
      record {
        ends = λ j lj. elim (cases_eq j i) [
          | inl e ↦ subst (λ k. (range_at ranges k).1 ≤ max least r.1) (sym e) (omega arith)
          | inr ne ↦ (let h = swept.ends j (omega (arith, lj, ne)) in omega (arith, h))
        ];
        lesser = λ c lc. elim (cases_lt c least) [
          | inl lo ↦ swept.lesser c lo
          | inr hi ↦ list_any_at (lies_in c) ranges i (0, 0) lt
              (within c r (omega (arith, begins, hi)) (omega (arith, lc, hi)))
        ];
      }

  pub swept_all : length ranges ≤ i → IsLeastOutside ranges least
  swept_all all = record {
    outside = outside_all ranges least
        (λ j lt. after least (range_at ranges j) (swept.ends j (omega (arith, lt, all))));
    lesser = swept.lesser;
  }

  -- the next range begins beyond the number
  pub swept_gap : IsNonDecreasingBy (λ (r : NumberRange). r.0) ranges → least < (range_at ranges i).0
      → IsLeastOutside ranges least
  swept_gap rises gap = record {
    outside = outside_all ranges least (λ j lt. elim (cases_lt j i) [
      | inl lo ↦ after least (range_at ranges j) (swept.ends j lo)
      | inr hi ↦
          let h = rises i j (0, 0) hi lt in
          before least (range_at ranges j) (omega (arith, h, gap))
    ]);
    lesser = swept.lesser;
  }

-- ---- those of a class

alone : (c d : ℕ) → (nat_le d c && nat_lt c (d + 1)) ≡ (c == d)
alone c d = grind (arith, nat_tests)

up_to : (c low high : ℕ) → (nat_le low c && nat_lt c (high + 1)) ≡ (nat_le low c && nat_le c high)
up_to c low high = grind (arith, nat_tests)

in_mapped : (xs : List Archetype) (c : ℕ)
    → list_any (lies_in c) (map number_range_of xs) ≡ list_any (in_archetype c) xs
in_mapped [] c = refl
in_mapped (Character d ∷ xs) c = ap₂ (λ a b. a || b) (alone c d) (in_mapped xs c)
in_mapped (Range low high ∷ xs) c = ap₂ (λ a b. a || b) (up_to c low high) (in_mapped xs c)

-- a number that is in neither of two, and in none of the others
none_of : (a b c : Bool) → (a || (b || c)) ≡ false → (a ≡ false) × (b ≡ false) × (c ≡ false)
none_of true b c h = absurd (true≢false h)
none_of false true c h = absurd (true≢false h)
none_of false false c h = (refl, refl, h)

all_false : (a b c : Bool) → a ≡ false → b ≡ false → c ≡ false → (a || (b || c)) ≡ false
all_false a b c e f g = ap₂ (λ x y. x || y) e (ap₂ (λ x y. x || y) f g)

no_slash : (c : ℕ) → lies_in c (47, 48) ≡ false → c ≢ 47
no_slash c h e = grind (arith, nat_tests)

not_slash : (c : ℕ) → c ≢ 47 → lies_in c (47, 48) ≡ false
not_slash c ne = grind (arith, nat_tests)

high_scalar : (c : ℕ) → 57344 ≤ c → c ≤ 1114111 → IsScalar c
high_scalar c low high = grind (arith, nat_tests)

is_scalar : (c : ℕ) → c ≤ 1114111 → lies_in c (55296, 57344) ≡ false → IsScalar c
is_scalar c le h = elim (cases_lt c 55296) [
  | inl lo ↦ low_scalar c lo
  | inr hi ↦ elim (cases_lt c 57344) [
    | inl lt ↦ absurd (true≢false (sym (within c (55296, 57344) hi lt) ∙ h))
    | inr ge ↦ high_scalar c ge le
  ]
]

no_surrogate : (c : ℕ) → IsScalar c → lies_in c (55296, 57344) ≡ false
no_surrogate c h = grind (arith, nat_tests)

module _ (xs : List Archetype) (ranges sorted : List NumberRange) (e : ranges ≡ ranges_with xs)
    (same : IsPermutation ranges sorted) (n : ℕ) (is : IsLeastOutside sorted n) where
  listed : (c : ℕ) → list_any (lies_in c) sorted ≡ list_any (lies_in c) (ranges_with xs)
  listed c = sym (list_any-IsPermutation (lies_in c) ranges sorted same) ∙ ap (list_any (lies_in c)) e

  pub leaves_least : n ≤ 1114111 → LeavesOther xs
  leaves_least le =
      let (slash, surrogates, others) = none_of _ _ _ (sym (listed n) ∙ is.outside) in
      (n, (is_scalar n le surrogates, no_slash n slash), sym (in_mapped xs n) ∙ others)

  pub least_left : LeavesOther xs → n ≤ 1114111
  least_left (c, other, h) =
      let small = scalar_small c other.0 in
      let outside : list_any (lies_in c) sorted ≡ false = listed c
      ∙ all_false _ _ _ (not_slash c other.1) (no_surrogate c other.0) (in_mapped xs c ∙ h) in
      elim (cases_lt c n) [
        | inl lt ↦ absurd (true≢false (sym (is.lesser c lt) ∙ outside))
        | inr ge ↦ omega (arith, ge, small)
      ]
