-- ASCII characters whose forms in any case are ASCII characters, too.
use Rattle.std.proofs.Common.{◌≡◌, ◌≢◌, ℕ, zero, suc, ◌<◌, ◌==◌, ◌&&◌, ◌||◌, not, nat_lt, Bool, true, List}
use Rattle.std.proofs.Common.{[], ◌∷◌, ◌++◌, length, get_or, refl, sym, ap, subst, inl, inr, arith, rules}
use Rattle.std.proofs.{Common.{Contains, eqb-true, map}, lemmas.Bool.{and_parts, cases_eq, or_cases}}
use Rattle.std.specs.{Str.IsAscii, Char.to_ascii_lowercase, List.list_all}
use Rattle.unicode.proofs.FoldPairsLemmas.{IsFoldPairs-fold_pairs}
use Rattle.unicode.specs.CaseFolding.{fold_pairs}
use Rattle.ucd_case.specs.FoldOtherRows.{fold_other_rows}
use Rattle.wax_prefilter.specs.inner.Forms.{HasAsciiForms}
use Rattle.wax_token.specs.Meaning.{SameFold, SameText}

-- the Kelvin sign is a form of k, and the long s is one of s
abbrev is_excepted : ℕ → Bool
is_excepted d = not (nat_lt d 128) || ((to_ascii_lowercase d == 107) || (to_ascii_lowercase d == 115))

abbrev is_ascii_form : ℕ × ℕ → Bool
is_ascii_form p = nat_lt p.1 128 && (to_ascii_lowercase p.1 == to_ascii_lowercase p.0)

all_forms : list_all (λ p. is_excepted p.0 || is_ascii_form p) fold_pairs ≡ true
unfolding fold_pairs fold_other_rows
all_forms = refl

-- ---- the forms of an ASCII character other than k and s

pub all_of : {X : Type 0} (p : X → Bool) (xs : List X) (x : X) → list_all p xs ≡ true → Contains xs x
    → p x ≡ true
all_of p [] x all (k, lt, at) = absurd (omega (arith, lt))
all_of p (y ∷ ys) x all (zero, lt, at) = subst (λ z. p z ≡ true) at (and_parts (p y) (list_all p ys) all).0
all_of p (y ∷ ys) x all (suc k, lt, at) =
    all_of p ys x (and_parts (p y) (list_all p ys) all).1 (k, omega (arith, lt), at)

not_excepted : (d : ℕ) → d < 128 → to_ascii_lowercase d ≢ 107 → to_ascii_lowercase d ≢ 115
    → is_excepted d ≡ true → ⊥
not_excepted d low not_k not_s h =
    elim (or_cases (not (nat_lt d 128)) ((to_ascii_lowercase d == 107) || (to_ascii_lowercase d == 115)) h) [
      | inl high ↦ search (rules, low, high)
      | inr either ↦ elim (or_cases (to_ascii_lowercase d == 107) (to_ascii_lowercase d == 115) either) [
        | inl k ↦ not_k (eqb-true _ _ k)
        | inr s ↦ not_s (eqb-true _ _ s)
      ]
    ]

form_of : (d c : ℕ) → is_ascii_form (d, c) ≡ true
    → (c < 128) × (to_ascii_lowercase c ≡ to_ascii_lowercase d)
form_of d c h =
    let (low, same) = and_parts (nat_lt c 128) (to_ascii_lowercase c == to_ascii_lowercase d) h in
    (search (rules, low), eqb-true _ _ same)

pub has_forms : (d : ℕ) → d < 128 → to_ascii_lowercase d ≢ 107 → to_ascii_lowercase d ≢ 115 → HasAsciiForms d
unfolding SameFold
has_forms d low not_k not_s = (
  low,
  λ c same. elim (cases_eq d c) [
    | inl is ↦ (omega (arith, low, is), ap to_ascii_lowercase (sym is))
    | inr apart ↦ elim (or_cases (is_excepted d) (is_ascii_form (d, c))
        (all_of _ fold_pairs (d, c) all_forms ((IsFoldPairs-fold_pairs d c).1 (apart, same)))) [
          | inl excepted ↦ absurd (not_excepted d low not_k not_s excepted)
          | inr is ↦ form_of d c is
        ]
  ],
)

-- ---- texts that are others in any case

pub alike : (held text : List ℕ) → SameText true held text
    → ((k : ℕ) → k < length held → HasAsciiForms (get_or held k 0))
    → IsAscii text × (map to_ascii_lowercase text ≡ map to_ascii_lowercase held)
alike [] [] h each = ((λ i. omega arith), refl)
alike [] (c ∷ text) h each = absurd h
alike (d ∷ held) [] h each = absurd h
alike (d ∷ held) (c ∷ text) h each =
    let (low, same) = (each 0 (omega arith)).1 c h.0 in
    let (ascii, rest) = alike held text h.1 (λ k lt. each (suc k) (omega (arith, lt))) in
    (ascii_more c text low ascii, λ i. same i ∷ rest i)
  where
    ascii_more : (c : ℕ) (text : List ℕ) → c < 128 → IsAscii text → IsAscii (c ∷ text)
    ascii_more c text low ascii zero = low
    ascii_more c text low ascii (suc i) = ascii i

-- a beginning of the text is a beginning of the other in any case
pub same_beginning : (front rest text : List ℕ) → SameText true (front ++ rest) text
    → (x : List ℕ) × (y : List ℕ) × (text ≡ x ++ y) × SameText true front x
same_beginning [] rest text h = ([], text, refl, tt)
same_beginning (c ∷ front) rest [] h = absurd h
same_beginning (c ∷ front) rest (d ∷ text) h =
    let (x, y, e, g) = same_beginning front rest text h.1 in (d ∷ x, y, ap (λ t. d ∷ t) e, (h.0, g))

pub held_ascii : (held : List ℕ)
    → ((k : ℕ) → k < length held → HasAsciiForms (get_or held k 0)) → IsAscii held
held_ascii [] each i = omega arith
held_ascii (d ∷ held) each zero = (each 0 (omega arith)).0
held_ascii (d ∷ held) each (suc i) = held_ascii held (λ k lt. each (suc k) (omega (arith, lt))) i
