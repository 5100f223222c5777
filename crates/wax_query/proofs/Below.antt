-- Plain paths of at most so many names, character by character.
use Rattle.std.proofs.Common.{◌≡◌, ◌≢◌, ◌↔◌, ◌⊎◌, ℕ, zero, suc, List, [], ◌∷◌, ◌++◌, length, Option, Some}
use Rattle.std.proofs.{Common.{None, inl, inr, refl, sym, ap, subst, arith}, lemmas.List.append-nil}
use Rattle.wax_query.specs.Below.{AreNames, IsBelow, IsBelowWithin, IsPathWithin, joined_names, one_more_name}
use Rattle.wax_query.specs.{Below.slashed, Components.HasNoSlash, Ranges.AtMost}

abbrev mutual
  -- a plain path of at most so many names
  pub Begins : Option ℕ → List ℕ → Type 0
  Begins most [] = ⊥
  Begins None (c ∷ s) = (c ≢ 47) × GoesOn None s
  Begins (Some zero) (c ∷ s) = ⊥
  Begins (Some (suc most)) (c ∷ s) = (c ≢ 47) × GoesOn (Some most) s

  -- what completes a plain path after a character of a name, with at most so many names after that one
  pub GoesOn : Option ℕ → List ℕ → Type 0
  GoesOn most [] = Unit {0}
  GoesOn most (c ∷ s) = ((c ≢ 47) × GoesOn most s) ⊎ ((c ≡ 47) × Begins most s)

goes_on : (most : Option ℕ) (names : List (List ℕ)) (n : List ℕ) → HasNoSlash n → AreNames names
    → AtMost (length names) most → GoesOn most (n ++ slashed names)
goes_on most [] [] h a few = tt
goes_on most ([] ∷ names) [] h a few = absurd (a.0 refl)
goes_on None ((c ∷ m) ∷ names) [] h a few = inr (refl, (a.1.0, goes_on None names m a.1.1 a.2 tt))
goes_on (Some zero) ((c ∷ m) ∷ names) [] h a few = absurd (omega (arith, few))
goes_on (Some (suc most)) ((c ∷ m) ∷ names) [] h a few =
    inr (refl, (a.1.0, goes_on (Some most) names m a.1.1 a.2 (omega (arith, few))))
goes_on most names (c ∷ n) h a few = inl (h.0, goes_on most names n h.1 a few)

-- a name, and at most so many names after it
abbrev Parts : Option ℕ → List ℕ → Type 0
Parts most s = (n : List ℕ) × (names : List (List ℕ)) × HasNoSlash n × AreNames names
    × AtMost (length names) most × (s ≡ n ++ slashed names)

not_empty : (c : ℕ) (s : List ℕ) → c ∷ s ≡ [] → ⊥
not_empty c s e = cc

some_names : (n : List ℕ) (names : List (List ℕ)) → n ∷ names ≡ [] → ⊥
some_names n names e = cc

after_slash : (c d : ℕ) (s n : List ℕ) (names : List (List ℕ)) → c ≡ 47 → s ≡ n ++ slashed names
    → c ∷ d ∷ s ≡ [] ++ slashed ((d ∷ n) ∷ names)
after_slash c d s n names e f = cc

parts : (most : Option ℕ) (s : List ℕ) → GoesOn most s → Parts most s
parts None [] h = ([], [], tt, tt, tt, refl)
parts (Some most) [] h = ([], [], tt, tt, omega arith, refl)
parts most (c ∷ s) (inl h) = let (n, names, hn, a, few, e) = parts most s h.1 in
    (c ∷ n, names, (h.0, hn), a, few, ap (λ z. c ∷ z) e)
parts most (c ∷ []) (inr h) = absurd h.1
parts None (c ∷ d ∷ s) (inr h) =
    let (n, names, hn, a, few, e) = parts None s h.1.1 in
    ([], (d ∷ n) ∷ names, tt, (not_empty d n, (h.1.0, hn), a), tt, after_slash c d s n names h.0 e)
parts (Some zero) (c ∷ d ∷ s) (inr h) = absurd h.1
parts (Some (suc most)) (c ∷ d ∷ s) (inr h) =
    let (n, names, hn, a, few, e) = parts (Some most) s h.1.1 in (
      [],
      (d ∷ n) ∷ names,
      tt,
      (not_empty d n, (h.1.0, hn), a),
      omega (arith, few),
      after_slash c d s n names h.0 e,
    )

-- ---- a first character, and the rest of a name
opened : (most : Option ℕ) (c : ℕ) (s : List ℕ) → c ≢ 47 → GoesOn most s → Begins (one_more_name most) (c ∷ s)
opened None c s ne h = (ne, h)
opened (Some most) c s ne h = (ne, h)

after_first : (most : Option ℕ) (c : ℕ) (s : List ℕ) → Begins (one_more_name most) (c ∷ s)
    → (c ≢ 47) × GoesOn most s
after_first None c s h = h
after_first (Some most) c s h = h

fewer : (most : Option ℕ) (n : ℕ) → AtMost (suc n) (one_more_name most) → AtMost n most
fewer None n h = tt
fewer (Some most) n h = omega (arith, h)

pub one_more : (most : Option ℕ) (n : ℕ) → AtMost n most → AtMost (suc n) (one_more_name most)
one_more None n h = tt
one_more (Some most) n h = omega (arith, h)

-- a limit that allows a name is one more than another
pub lowered : (most : Option ℕ) (n : ℕ) → AtMost (suc n) most
    → (fewer : Option ℕ) × (most ≡ one_more_name fewer)
lowered None n h = (None, refl)
lowered (Some zero) n h = absurd (omega (arith, h))
lowered (Some (suc most)) n h = (Some most, refl)

module _ (most : Option ℕ) where
  of_names : (c : ℕ) (n : List ℕ) (names : List (List ℕ)) → AreNames ((c ∷ n) ∷ names)
      → AtMost (suc (length names)) (one_more_name most)
      → Begins (one_more_name most) ((c ∷ n) ++ slashed names)
  of_names c n names a few = opened most c (n ++ slashed names) a.1.0
      (goes_on most names n a.1.1 a.2 (fewer most (length names) few))

pub path_begins : (most : Option ℕ) (s : List ℕ) → IsPathWithin most s ↔ Begins most s
path_begins most s = ((λ h. to h.0 h.1 h.2 h.3 h.4), from most s)
  where
    to : (names : List (List ℕ)) → AreNames names → (names ≡ [] → ⊥) → AtMost (length names) most
        → s ≡ joined_names names → Begins most s
    to [] a some few e = absurd (some refl)
    to ([] ∷ names) a some few e = absurd (a.0 refl)
    to ((c ∷ n) ∷ names) a some few e =
        let (less, is) = lowered most (length names) few in
        subst (λ m. Begins m s) (sym is) (subst (Begins (one_more_name less)) (sym e)
        (of_names less c n names a (subst (AtMost (suc (length names))) is few)))

    from : (most : Option ℕ) (s : List ℕ) → Begins most s → IsPathWithin most s
    from most [] h = absurd h
    from None (c ∷ s) h =
        let (n, names, hn, a, few, e) = parts None s h.1 in
        ((c ∷ n) ∷ names, (not_empty c n, (h.0, hn), a), some_names (c ∷ n) names, tt, ap (λ z. c ∷ z) e)
    from (Some zero) (c ∷ s) h = absurd h
    from (Some (suc most)) (c ∷ s) h =
        let (n, names, hn, a, few, e) = parts (Some most) s h.1 in (
          (c ∷ n) ∷ names,
          (not_empty c n, (h.0, hn), a),
          some_names (c ∷ n) names,
          omega (arith, few),
          ap (λ z. c ∷ z) e,
        )

-- after a character of a name
pub path_goes_on : (most : Option ℕ) (s : List ℕ)
    → ((c : ℕ) × IsPathWithin (one_more_name most) (c ∷ s)) ↔ GoesOn most s
path_goes_on most s = (
  (λ h. (after_first most h.0 s ((path_begins (one_more_name most) (h.0 ∷ s)).0 h.1)).1),
  (λ h. (0, (path_begins (one_more_name most) (0 ∷ s)).1 (opened most 0 s (zero_other 0 refl) h))),
)
  where
    zero_other : (c : ℕ) → c ≡ 0 → c ≢ 47
    zero_other c z e = omega (arith, z, e)

-- ---- one name
pub one_name : (most : Option ℕ) (c : ℕ) (n : List ℕ) → AtMost 1 most → HasNoSlash (c ∷ n)
    → IsPathWithin most (c ∷ n)
one_name most c n few h =
    ((c ∷ n) ∷ [], (not_empty c n, h, tt), some_names (c ∷ n) [], few, sym (append-nil (c ∷ n)))

-- ---- a limit that isn't there
pub without_limit : (folder s : List ℕ) → IsBelowWithin None folder s ↔ IsBelow folder s
without_limit folder s = (
  (λ (path, (names, are, some, few, e), f). (path, (names, are, some, e), f)),
  (λ (path, (names, are, some, e), f). (path, (names, are, some, tt, e), f)),
)

-- something below a folder is there with its limit, if it has one
pub allows_one : (most : Option ℕ) (s : List ℕ) → IsPathWithin most s → AtMost 1 most
allows_one most s (names, are, some, few, e) = of most names some few
  where
    of : (most : Option ℕ) (names : List (List ℕ)) → (names ≡ [] → ⊥) → AtMost (length names) most
        → AtMost 1 most
    of most [] some few = absurd (some refl)
    of None (n ∷ names) some few = tt
    of (Some most) (n ∷ names) some few = omega (arith, few)
