-- Lists without some of their elements, and the elements of a list at some indexes.
use Rattle.std.proofs.Common.{◌≡◌, ◌↔◌, ◌∙◌, ◌<◌, ◌≤◌, ◌+◌, ◌++◌, ◌∷◌, [], ℕ, zero, suc, Bool, true, false}
use Rattle.std.proofs.Common.{cond, Contains, List, Option, Some, None, ap, append-nil, append_assoc, arith}
use Rattle.std.proofs.Common.{filter, filter_map, get_or, inl, inr, length, map-id, refl, slice_get, subst}
use Rattle.std.proofs.{Common.{sym, take}, lemmas.Bool.{cases_eq, cases_lt}}
use Rattle.std.proofs.lemmas.List.{length_push, take_more}
use Rattle.std.proofs.lemmas.List.Elements.{Contains-append_right, filter_map-append}
use Rattle.std.proofs.lemmas.List.FromFn.{get_or-range_with_len, length-range_with_len}
use Rattle.std.proofs.{lemmas.List.FromFn.map-range_with_len_more, lemmas.List.Kept.AllPairs-from_increasing}
use Rattle.std.proofs.lemmas.Option.{get_or_from_slice_get, none-some, same_Some, slice_get-get_or}
use Rattle.std.proofs.lemmas.Option.{slice_get_within}
use Rattle.std.specs.{List.{AllZip, cons_option, range_with_len}, List.Sorted.IsStrictlyIncreasing}
use Rattle.wax_exclude.specs.{Idle.drop_where, Tidy.AreAt}

-- ---- elements and their indexes
pub found_at : {X : Type 0} (xs : List X) (x : X) → Contains xs x → (k : ℕ) × (slice_get xs k ≡ Some x)
found_at xs x h = (h.0, slice_get-get_or xs h.0 x h.1 ∙ ap Some h.2)

pub contains_at : {X : Type 0} (xs : List X) (k : ℕ) (x : X) → slice_get xs k ≡ Some x → Contains xs x
contains_at xs k x e = (k, slice_get_within xs k x e, get_or_from_slice_get xs k x x e)

picked_later : {X : Type 0} (first : Option X) (xs : List X) (x : X) → Contains xs x
    → Contains (cons_option first xs) x
picked_later None xs x h = h
picked_later (Some y) xs x h = Contains-append_right (y ∷ []) xs x h

-- the element at one of some indexes is among those at these indexes
pub picked : {X : Type 0} (xs : List X) (ks : List ℕ) (j k : ℕ) (x : X) → slice_get ks j ≡ Some k
    → slice_get xs k ≡ Some x → Contains (filter_map (slice_get xs) ks) x
picked xs [] j k x here is = absurd (none-some k here)
picked xs (i ∷ ks) zero k x here is =
    contains_at (filter_map (slice_get xs) (i ∷ ks)) 0 x
    (ap (λ o. slice_get (cons_option o (filter_map (slice_get xs) ks)) 0)
    (ap (slice_get xs) (same_Some i k here) ∙ is))
picked xs (i ∷ ks) (suc j) k x here is =
    picked_later (slice_get xs i) (filter_map (slice_get xs) ks) x (picked xs ks j k x here is)

-- ---- lists of which each element has a number below those of all after it
abbrev pub RisesBy : {X : Type 0} → (X → ℕ) → List X → Type 0
RisesBy {X} f xs =
    (j k : ℕ) (x y : X) → j < k → slice_get xs j ≡ Some x → slice_get xs k ≡ Some y → f x < f y

pub rises_first : {X : Type 0} (f : X → ℕ) (x : X) (xs : List X) → RisesBy f (x ∷ xs) → (k : ℕ) (y : X)
    → slice_get xs k ≡ Some y → f x < f y
rises_first f x xs up k y e = up 0 (suc k) x y (omega arith) refl e

pub rises_rest : {X : Type 0} (f : X → ℕ) (x : X) (xs : List X) → RisesBy f (x ∷ xs) → RisesBy f xs
rises_rest f x xs up j k y z lt here there = up (suc j) (suc k) y z (omega (arith, lt)) here there

rises_more : {X : Type 0} (f : X → ℕ) (x : X) (xs : List X)
    → ((k : ℕ) (y : X) → slice_get xs k ≡ Some y → f x < f y) → RisesBy f xs → RisesBy f (x ∷ xs)
rises_more f x xs above up zero zero y z lt here there = absurd (omega (arith, lt))
rises_more f x xs above up zero (suc k) y z lt here there =
    subst (λ w. f w < f z) (same_Some x y here) (above k z there)
rises_more f x xs above up (suc j) zero y z lt here there = absurd (omega (arith, lt))
rises_more f x xs above up (suc j) (suc k) y z lt here there = up j k y z (omega (arith, lt)) here there

pub rises_from : (xs : List ℕ) → IsStrictlyIncreasing xs → RisesBy (λ n. n) xs
rises_from xs up j k x y lt here there =
    subst (λ a. a < y) (get_or_from_slice_get xs j x 0 here)
    (subst (λ b. get_or xs j 0 < b) (get_or_from_slice_get xs k y 0 there)
    (AllPairs-from_increasing xs up j k 0 lt (slice_get_within xs k y there)))

pub increasing_from : (xs : List ℕ) → RisesBy (λ n. n) xs → IsStrictlyIncreasing xs
increasing_from xs up k lt =
    up k (k + 1) (get_or xs k 0) (get_or xs (k + 1) 0) (omega arith)
    (slice_get-get_or xs k 0 (omega (arith, lt))) (slice_get-get_or xs (k + 1) 0 lt)

pub comes_before : (xs : List ℕ) → RisesBy (λ n. n) xs → (j k x y : ℕ) → slice_get xs j ≡ Some x
    → slice_get xs k ≡ Some y → x < y → j < k
comes_before xs up j k x y here there lt = elim (cases_lt j k) [
  | inl before ↦ before
  | inr past ↦ elim (cases_eq j k) [
    | inl same ↦ (let e : x ≡ y = same_Some x y (sym here ∙ ap (slice_get xs) same ∙ there) in
        absurd (omega (arith, lt, e)))
    | inr other ↦ (let over : y < x = up k j y x (omega (arith, past, other)) there here in
        absurd (omega (arith, lt, over)))
  ]
]

pub same_index : (xs : List ℕ) → RisesBy (λ n. n) xs → (j k x : ℕ) → slice_get xs j ≡ Some x
    → slice_get xs k ≡ Some x → j ≡ k
same_index xs up j k x here there = elim (cases_eq j k) [
  | inl same ↦ same
  | inr other ↦ elim (cases_lt j k) [
    | inl before ↦ (let lt : x < x = up j k x x before here there in absurd (omega (arith, lt)))
    | inr past ↦
        (let lt : x < x = up k j x x (omega (arith, past, other)) there here in absurd (omega (arith, lt)))
  ]
]

-- ---- elements that pass a test
passed_if : {X : Type 0} (p : X → Bool) (x : X) (xs : List X) (y : X) (passes : Bool) (k : ℕ) → p x ≡ passes
    → ((j : ℕ) → slice_get (filter p xs) j ≡ Some y → (q : ℕ) × (p y ≡ true) × (slice_get xs q ≡ Some y))
    → slice_get (cond passes (x ∷ filter p xs) (filter p xs)) k ≡ Some y
    → (q : ℕ) × (p y ≡ true) × (slice_get (x ∷ xs) q ≡ Some y)
passed_if p x xs y true zero is later e = (0, subst (λ z. p z ≡ true) (same_Some x y e) is, e)
passed_if p x xs y true (suc k) is later e = let f = later k e in (suc f.0, f.1, f.2)
passed_if p x xs y false k is later e = let f = later k e in (suc f.0, f.1, f.2)

pub passed : {X : Type 0} (p : X → Bool) (xs : List X) (k : ℕ) (y : X) → slice_get (filter p xs) k ≡ Some y
    → (q : ℕ) × (p y ≡ true) × (slice_get xs q ≡ Some y)
passed p [] k y e = absurd (none-some y e)
passed p (x ∷ xs) k y e = passed_if p x xs y (p x) k refl (λ j. passed p xs j y) e

passes_if : {X : Type 0} (first x : X) (some : List X) (keeps : Bool) → Contains some x
    → Contains (cond keeps (first ∷ some) some) x
passes_if first x some true h = Contains-append_right (first ∷ []) some x h
passes_if first x some false h = h

pub passes : {X : Type 0} (p : X → Bool) (xs : List X) (k : ℕ) (x : X) → slice_get xs k ≡ Some x
    → p x ≡ true → Contains (filter p xs) x
passes p [] k x e pass = absurd (none-some x e)
passes p (y ∷ xs) zero x e pass =
    let some = filter p xs in
    let first : p y ≡ true = ap p (same_Some y x e) ∙ pass in
    subst (λ b. Contains (cond b (y ∷ some) some) x) (sym first) (contains_at (y ∷ some) 0 x e)
passes p (y ∷ xs) (suc k) x e pass = passes_if y x (filter p xs) (p y) (passes p xs k x e pass)

rises_if : {X : Type 0} (f : X → ℕ) (x : X) (some : List X) (passes : Bool)
    → ((k : ℕ) (y : X) → slice_get some k ≡ Some y → f x < f y) → RisesBy f some
    → RisesBy f (cond passes (x ∷ some) some)
rises_if f x some true above up = rises_more f x some above up
rises_if f x some false above up = up

pub rises_passed : {X : Type 0} (f : X → ℕ) (p : X → Bool) (xs : List X) → RisesBy f xs
    → RisesBy f (filter p xs)
rises_passed f p [] up = up
rises_passed f p (x ∷ xs) up =
    rises_if f x (filter p xs) (p x)
    (λ k y e. let g = passed p xs k y e in rises_first f x xs up g.0 y g.2)
    (rises_passed f p xs (rises_rest f x xs up))

-- ---- elements that stay while others go
module _ {X : Type 0} where
  abbrev FoundIn : (ℕ → Bool) → List X → X → Type 0
  FoundIn goes xs y = (q : ℕ) × (goes q ≡ false) × (slice_get xs q ≡ Some y)

  stayed_if : (goes : ℕ → Bool) (x : X) (xs some : List X) (y : X) (gone : Bool) (k : ℕ) → goes 0 ≡ gone
      → ((j : ℕ) → slice_get some j ≡ Some y → FoundIn (λ i. goes (suc i)) xs y)
      → slice_get (cond gone some (x ∷ some)) k ≡ Some y → FoundIn goes (x ∷ xs) y
  stayed_if goes x xs some y true k is later e = let f = later k e in (suc f.0, f.1, f.2)
  stayed_if goes x xs some y false zero is later e = (0, is, e)
  stayed_if goes x xs some y false (suc k) is later e = let f = later k e in (suc f.0, f.1, f.2)

  pub stayed : (goes : ℕ → Bool) (xs : List X) (k : ℕ) (y : X) → slice_get (drop_where goes xs) k ≡ Some y
      → FoundIn goes xs y
  stayed goes [] k y e = absurd (none-some y e)
  stayed goes (x ∷ xs) k y e =
      stayed_if goes x xs (drop_where (λ i. goes (suc i)) xs) y (goes 0) k refl
      (λ j. stayed (λ i. goes (suc i)) xs j y) e

  stays_later : (x : X) (some : List X) (y : X) (gone : Bool) (k : ℕ) → slice_get some k ≡ Some y
      → (j : ℕ) × (slice_get (cond gone some (x ∷ some)) j ≡ Some y)
  stays_later x some y true k e = (k, e)
  stays_later x some y false k e = (suc k, e)

  pub stays_at : (goes : ℕ → Bool) (xs : List X) (q : ℕ) (y : X) → slice_get xs q ≡ Some y → goes q ≡ false
      → (k : ℕ) × (slice_get (drop_where goes xs) k ≡ Some y)
  stays_at goes [] q y e stay = absurd (none-some y e)
  stays_at goes (x ∷ xs) zero y e stay =
      let some = drop_where (λ i. goes (suc i)) xs in
      (0, ap (λ g. slice_get (cond g some (x ∷ some)) 0) stay ∙ e)
  stays_at goes (x ∷ xs) (suc q) y e stay =
      let f = stays_at (λ i. goes (suc i)) xs q y e stay in
      stays_later x (drop_where (λ i. goes (suc i)) xs) y (goes 0) f.0 f.1

  rises_unless : (f : X → ℕ) (x : X) (some : List X) (gone : Bool)
      → ((k : ℕ) (y : X) → slice_get some k ≡ Some y → f x < f y) → RisesBy f some
      → RisesBy f (cond gone some (x ∷ some))
  rises_unless f x some true above up = up
  rises_unless f x some false above up = rises_more f x some above up

  pub rises_dropped : (f : X → ℕ) (goes : ℕ → Bool) (xs : List X) → RisesBy f xs
      → RisesBy f (drop_where goes xs)
  rises_dropped f goes [] up = up
  rises_dropped f goes (x ∷ xs) up =
      let later = λ (i : ℕ). goes (suc i) in
      rises_unless f x (drop_where later xs) (goes 0)
      (λ k y e. let g = stayed later xs k y e in rises_first f x xs up g.0 y g.2)
      (rises_dropped f later xs (rises_rest f x xs up))

  -- ---- how many stay
  no_longer : (goes : ℕ → Bool) (xs : List X) → length (drop_where goes xs) ≤ length xs
  no_longer goes [] = omega arith
  no_longer goes (x ∷ xs) = at (goes 0) (drop_where (λ i. goes (suc i)) xs) (no_longer (λ i. goes (suc i)) xs)
    where
      at : (gone : Bool) (some : List X) → length some ≤ length xs
          → length (cond gone some (x ∷ some)) ≤ suc (length xs)
      at true some le = omega (arith, le)
      at false some le = omega (arith, le)

  pub shorter_at : (goes : ℕ → Bool) (xs : List X) (q : ℕ) (y : X) → slice_get xs q ≡ Some y → goes q ≡ true
      → length (drop_where goes xs) < length xs
  shorter_at goes [] q y e go = absurd (none-some y e)
  shorter_at goes (x ∷ xs) zero y e go =
      let some = drop_where (λ i. goes (suc i)) xs in
      let le : length some ≤ length xs = no_longer (λ i. goes (suc i)) xs in
      subst (λ g. length (cond g some (x ∷ some)) < suc (length xs)) (sym go) (omega (arith, le))
  shorter_at goes (x ∷ xs) (suc q) y e go =
      at (goes 0) (drop_where (λ i. goes (suc i)) xs) (shorter_at (λ i. goes (suc i)) xs q y e go)
    where
      at : (gone : Bool) (some : List X) → length some < length xs
          → length (cond gone some (x ∷ some)) < suc (length xs)
      at true some lt = omega (arith, lt)
      at false some lt = omega (arith, lt)

  -- ---- one more element
  push_if : (gone : Bool) (x : X) (some last : List X)
      → cond gone (some ++ last) (x ∷ (some ++ last)) ≡ cond gone some (x ∷ some) ++ last
  push_if true x some last = refl
  push_if false x some last = refl

  pub drop_push : (goes : ℕ → Bool) (xs : List X) (y : X)
      → drop_where goes (xs ++ y ∷ []) ≡ drop_where goes xs ++ cond (goes (length xs)) [] (y ∷ [])
  drop_push goes [] y = refl
  drop_push goes (x ∷ xs) y =
      let later = λ (i : ℕ). goes (suc i) in
      ap (λ some. cond (goes 0) some (x ∷ some)) (drop_push later xs y)
      ∙ push_if (goes 0) x (drop_where later xs) (cond (later (length xs)) [] (y ∷ []))

-- ---- lists of which each element is related to the one with its index in another
module _ {X Y : Type 0} where
  pub zip_first : (xs : List X) (ys : List Y) (R : X → Y → Type 0) → AllZip R xs ys → (k : ℕ) (x : X)
      → slice_get xs k ≡ Some x → (y : Y) × (slice_get ys k ≡ Some y) × R x y
  zip_first [] ys R h k z e = absurd (none-some z e)
  zip_first (x ∷ xs) [] R h k z e = absurd h
  zip_first (x ∷ xs) (y ∷ ys) R h zero z e = (y, refl, subst (λ w. R w y) (same_Some x z e) h.0)
  zip_first (x ∷ xs) (y ∷ ys) R h (suc k) z e = zip_first xs ys R h.1 k z e

  pub zip_second : (xs : List X) (ys : List Y) (R : X → Y → Type 0) → AllZip R xs ys → (k : ℕ) (y : Y)
      → slice_get ys k ≡ Some y → (x : X) × (slice_get xs k ≡ Some x) × R x y
  zip_second [] [] R h k z e = absurd (none-some z e)
  zip_second [] (y ∷ ys) R h k z e = absurd h
  zip_second (x ∷ xs) [] R h k z e = absurd h
  zip_second (x ∷ xs) (y ∷ ys) R h zero z e = (x, refl, subst (λ w. R x w) (same_Some y z e) h.0)
  zip_second (x ∷ xs) (y ∷ ys) R h (suc k) z e = zip_second xs ys R h.1 k z e

  pub zip_length : (xs : List X) (ys : List Y) (R : X → Y → Type 0) → AllZip R xs ys → length xs ≡ length ys
  zip_length [] [] R h = refl
  zip_length [] (y ∷ ys) R h = absurd h
  zip_length (x ∷ xs) [] R h = absurd h
  zip_length (x ∷ xs) (y ∷ ys) R h = ap suc (zip_length xs ys R h.1)

  zip_unless : (R : X → Y → Type 0) (gone : Bool) (x : X) (xs : List X) (y : Y) (ys : List Y) → R x y
      → AllZip R xs ys → AllZip R (cond gone xs (x ∷ xs)) (cond gone ys (y ∷ ys))
  zip_unless R true x xs y ys r h = h
  zip_unless R false x xs y ys r h = (r, h)

  pub zip_dropped : (xs : List X) (ys : List Y) (R : X → Y → Type 0) (goes : ℕ → Bool) → AllZip R xs ys
      → AllZip R (drop_where goes xs) (drop_where goes ys)
  zip_dropped [] [] R goes h = tt
  zip_dropped [] (y ∷ ys) R goes h = absurd h
  zip_dropped (x ∷ xs) [] R goes h = absurd h
  zip_dropped (x ∷ xs) (y ∷ ys) R goes h =
      let later = λ (i : ℕ). goes (suc i) in
      zip_unless R (goes 0) x (drop_where later xs) y (drop_where later ys) h.0
      (zip_dropped xs ys R later h.1)

-- ---- elements at some indexes
module _ {X : Type 0} where
  -- there is only one list of them
  pub at_is : (xs : List X) (ks : List ℕ) (found : List X) → AreAt xs ks found
      → found ≡ filter_map (slice_get xs) ks
  at_is xs [] [] h = refl
  at_is xs [] (y ∷ ys) h = absurd h
  at_is xs (k ∷ ks) [] h = absurd h
  at_is xs (k ∷ ks) (y ∷ ys) h =
      ap (λ r. y ∷ r) (at_is xs ks ys h.1)
      ∙ ap (λ o. cons_option o (filter_map (slice_get xs) ks)) (sym h.0)

  last_at : (before : List X) (x : X) (xs : List X) → slice_get (before ++ x ∷ xs) (length before) ≡ Some x
  last_at [] x xs = refl
  last_at (b ∷ before) x xs = last_at before x xs

  pub all_at : (before xs : List X) → AreAt (before ++ xs) (range_with_len (length before) (length xs)) xs
  all_at before [] = tt
  all_at before (x ∷ xs) = (
    last_at before x xs,
    subst (λ ys. AreAt ys (range_with_len (length before + 1) (length xs)) xs)
        (append_assoc before (x ∷ []) xs)
        (subst (λ n. AreAt ((before ++ x ∷ []) ++ xs) (range_with_len n (length xs)) xs)
        (length_push before x) (all_at (before ++ x ∷ []) xs)),
  )

-- ---- the indexes of all elements
pub range_rises : (n : ℕ) → IsStrictlyIncreasing (range_with_len 0 n)
range_rises n k lt =
    let long = length-range_with_len 0 n in
    let low = get_or-range_with_len 0 n k 0 (omega (arith, lt, long)) in
    let high = get_or-range_with_len 0 n (k + 1) 0 (omega (arith, lt, long)) in
    omega (arith, low, high)

pub in_range : (n k : ℕ) → Contains (range_with_len 0 n) k ↔ (k < n)
in_range n k =
    let long = length-range_with_len 0 n in (
      (λ h.
          let lt : h.0 < n = omega (arith, h.1, long) in
          let at = get_or-range_with_len 0 n h.0 k lt in
          omega (arith, lt, at, h.2)),
      (λ lt. let at = get_or-range_with_len 0 n k k lt in (k, omega (arith, lt, long), omega (arith, at))),
    )

pub range_more : (n : ℕ) → range_with_len 0 n ++ n ∷ [] ≡ range_with_len 0 (n + 1)
range_more n =
    ap (λ ks. ks ++ n ∷ []) (sym (map-id (range_with_len 0 n)))
    ∙ sym (map-range_with_len_more (λ (k : ℕ). k) 0 n n (omega arith))
    ∙ map-id (range_with_len 0 (n + 1))

module _ {X : Type 0} where
  -- the indexes up to one that is there
  pub found_more : (xs : List X) (ks : List ℕ) (i : ℕ) (x : X) (old new : List X) → i < length ks
      → slice_get xs (get_or ks i 0) ≡ Some x → old ≡ filter_map (slice_get xs) (take i ks)
      → new ≡ old ++ x ∷ [] → new ≡ filter_map (slice_get xs) (take (i + 1) ks)
  found_more xs ks i x old new lt is was grown =
      let k = get_or ks i 0 in
      grown ∙ ap (λ r. r ++ x ∷ []) was
      ∙ ap (λ o. filter_map (slice_get xs) (take i ks) ++ cons_option o []) (sym is)
      ∙ sym (filter_map-append (slice_get xs) (take i ks) (k ∷ []))
      ∙ ap (filter_map (slice_get xs)) (sym (take_more ks i 0 lt))

  -- and up to one that isn't
  pub none_more : (xs : List X) (ks : List ℕ) (i : ℕ) (old : List X) → i < length ks
      → slice_get xs (get_or ks i 0) ≡ None → old ≡ filter_map (slice_get xs) (take i ks)
      → old ≡ filter_map (slice_get xs) (take (i + 1) ks)
  none_more xs ks i old lt is was =
      let k = get_or ks i 0 in
      was ∙ sym (append-nil (filter_map (slice_get xs) (take i ks)))
      ∙ ap (λ o. filter_map (slice_get xs) (take i ks) ++ cons_option o []) (sym is)
      ∙ sym (filter_map-append (slice_get xs) (take i ks) (k ∷ []))
      ∙ ap (filter_map (slice_get xs)) (sym (take_more ks i 0 lt))
