-- A candidate holds no two adjacent `/`.
use Rattle.std.proofs.Common.{◌≡◌, ℕ, Bool, true, false, List, [], ◌∷◌, ◌++◌, refl}
use Rattle.wax_token.specs.Meaning.{HasNoSlash}
use Rattle.wax_query.specs.Below.{slashed, AreNames}
use Rattle.wax_exclude.specs.Candidates.{text_at}

abbrev NoneIn : List ℕ → Type 0
NoneIn s = (x y : List ℕ) → s ≡ x ++ 47 ∷ 47 ∷ y → ⊥

after_name : (names : List (List ℕ)) → NoneIn (slashed names) → (n : List ℕ) → HasNoSlash n
    → NoneIn (n ++ slashed names)
after_name names f [] h x y e = f x y e
after_name names f (c ∷ n) h [] y e = h.0 (let i : c ≡ 47 = cc in i)
after_name names f (c ∷ n) h (d ∷ x) y e = after_name names f n h.1 x y (cc)

none_slashed : (names : List (List ℕ)) → AreNames names → NoneIn (slashed names)
none_slashed [] h [] y e = cc
none_slashed [] h (c ∷ x) y e = cc
none_slashed ([] ∷ names) h x y e = h.0 refl
none_slashed ((c ∷ n) ∷ names) h [] y e = h.1.0 (let i : c ≡ 47 = cc in i)
none_slashed ((c ∷ n) ∷ names) h (d ∷ x) y e = after_name names (none_slashed names h.2) (c ∷ n) h.1 x y (cc)

-- no candidate has two adjacent `/`
pub none_adjacent : (rooted : Bool) (names : List (List ℕ)) → AreNames names → NoneIn (text_at rooted names)
none_adjacent false [] h x y e = none_slashed [] h x y e
none_adjacent true [] h [] y e = cc
none_adjacent true [] h (c ∷ x) y e = none_slashed [] h x y (cc)
none_adjacent false (n ∷ names) h x y e = after_name names (none_slashed names h.2) n h.1 x y e
none_adjacent true (n ∷ names) h x y e = none_slashed (n ∷ names) h x y e
