-- How many bytes the outputs of calls take at most.
use Rattle.std.proofs.Common.{◌≡◌, ◌≤◌, ◌+◌, ◌*◌, ◌==◌, ◌++◌, ◌∷◌, ◌∙◌, if◌then◌else◌, ℕ, suc, Bool, true}
use Rattle.std.proofs.Common.{false, Result, Ok, Err, IfErr, OnErr, List, [], IsUtf8, chars, length}
use Rattle.std.proofs.{Common.{length-append, ap, arith, subst}, Math.Utf8.{encode, encodes}}
use Rattle.std.proofs.lemmas.Str.{encodes-chars, len_utf8_bounds, length-encode}
use Rattle.wax.specs.{Language.{all_spelled, escapable, is_one_of}, Matching.{Filters, WritesMeant, lines}}
use Rattle.wax_lines.specs.Lines.{Gives, text, no_text, meant, not_meant, onto_lines}
use Rattle.wax_c.specs.{Outcomes.{Fills, Output}, declared.error.CallError.CallError}
use Rattle.wax_c.specs.declared.error.CallError.TheVariants.{NoRoom}

-- ---- an output isn't too small for bytes that are no more than its own

pub fits : (bytes before : List ℕ) (output : Output) (most : ℕ) (error : CallError) → length bytes ≤ most
    → Fills (λ out. out ≡ bytes) before output (Err error) → output.bytes ≡ before → most ≤ length before
    → error ≡ NoRoom → ⊥
fits bytes before output most error few fills kept enough is =
    let over = subst (λ error. Fills (λ out. out ≡ bytes) before output (Err error)) is fills in
    omega (arith, few, ap length over.1, over.2, over.3, ap length kept, enough)

pub all_fit : (bytes before : List ℕ) (output : Output) (most : ℕ) (outcome : Result (Unit {0}) CallError)
    → length bytes ≤ most → Fills (λ out. out ≡ bytes) before output outcome
    → OnErr outcome (output.bytes ≡ before) → most ≤ length before
    → IfErr outcome (λ error. error ≡ NoRoom → ⊥)
all_fit bytes before output most (Ok done) few fills kept enough = tt
all_fit bytes before output most (Err error) few fills kept enough =
    fits bytes before output most error few fills kept enough

-- ---- escaped texts: each character is itself, perhaps after a backslash

kept_bytes : (c : ℕ) (rest : List ℕ)
    → length (encodes (c ∷ rest)) ≤ 2 * length (encode c) + length (encodes rest)
kept_bytes c rest = omega (arith, length-append (encode c) (encodes rest))

escaped_one : (c : ℕ) (rest : List ℕ)
    → length (encodes (92 ∷ c ∷ rest)) ≤ 2 * length (encode c) + length (encodes rest)
escaped_one c rest = omega (
  arith,
  length-append (encode 92) (encode c ++ encodes rest),
  length-encode 92,
  length-append (encode c) (encodes rest),
  length-encode c,
  (len_utf8_bounds c).0,
)

spelled_bytes : (c : ℕ) (rest : List ℕ)
    → length (encodes ((if is_one_of escapable c then 92 ∷ c ∷ [] else c ∷ []) ++ rest))
    ≤ 2 * length (encode c) + length (encodes rest)
spelled_bytes c rest =
    elim (is_one_of escapable c) as (λ b. length (encodes ((if b then 92 ∷ c ∷ [] else c ∷ []) ++ rest))
    ≤ 2 * length (encode c) + length (encodes rest)) [
      | true ↦ escaped_one c rest
      | false ↦ kept_bytes c rest
    ]

spelled_each : (cs : List ℕ) → length (encodes (all_spelled escapable cs)) ≤ 2 * length (encodes cs)
spelled_each [] = omega arith
spelled_each (c ∷ cs) = omega (
  arith,
  spelled_bytes c (all_spelled escapable cs),
  spelled_each cs,
  length-append (encode c) (encodes cs),
)

pub escaped_bytes : (given escaped : List ℕ) → IsUtf8 given → IsUtf8 escaped
    → chars escaped ≡ all_spelled escapable (chars given) → length escaped ≤ 2 * length given
escaped_bytes given escaped is_text utf8 exact = omega (
  arith,
  spelled_each (chars given),
  ap (λ cs. length (encodes cs)) exact,
  ap length (encodes-chars given is_text),
  ap length (encodes-chars escaped utf8),
)

-- ---- lines of the input, each with a line feed

abbrev total : List (List ℕ) → ℕ
total [] = 0
total (line ∷ rest) = length line + 1 + total rest

one_only : (n : ℕ) → 1 + 1 + 0 ≤ n + 2
one_only n = omega arith

one_more : (a b n : ℕ) → a + 1 + b ≤ n + 1 → suc a + 1 + b ≤ n + 2
one_more a b n few = omega (arith, few)

nothing : (n : ℕ) → 0 ≤ n
nothing n = omega arith

none_first : (a n : ℕ) → a ≤ n + 1 → 0 + 1 + a ≤ n + 2
none_first a n few = omega (arith, few)

counted : (n k : ℕ) → k ≤ n + 2 → k ≤ suc n + 1
counted n k few = omega (arith, few)

joined : (a b x y w : ℕ) → w ≡ x + y → x ≤ a + 1 → y ≤ b → w ≤ a + 1 + b
joined a b x y w same few others = omega (arith, same, few, others)

onto_total : (b : ℕ) (rest : List (List ℕ)) (n : ℕ) → total rest ≤ n + 1
    → total (onto_lines b rest) ≤ n + 2
onto_total b [] n few = one_only n
onto_total b (line ∷ rest) n few = one_more (length line) (total rest) n few

first_total : (b n : ℕ) (rest : List (List ℕ)) (is_feed : Bool) → total rest ≤ n + 1
    → total (if is_feed then [] ∷ rest else onto_lines b rest) ≤ n + 2
first_total b n rest true few = none_first (total rest) n few
first_total b n rest false few = onto_total b rest n few

lines_total : (bytes : List ℕ) → total (lines bytes) ≤ length bytes + 1
lines_total [] = nothing 1
lines_total (b ∷ bs) = counted (length bs) (total (lines (b ∷ bs)))
    (first_total b (length bs) (lines bs) (b == 10) (lines_total bs))

given_bytes : (Means : List ℕ → Type 0) (line out : List ℕ) (bad : ℕ) → Gives (WritesMeant Means) line out bad
    → length out ≤ length line + 1
given_bytes Means line out bad (text utf8 (meant means same) good) = omega (
  arith,
  ap length same,
  length-append (encodes (chars line)) (10 ∷ []),
  ap length (encodes-chars line utf8),
)
given_bytes Means line out bad (text utf8 (not_meant not same) good) = omega (arith, ap length same)
given_bytes Means line out bad (no_text not same one) = omega (arith, ap length same)

filtered_bytes : (Means : List ℕ → Type 0) (whole : List (List ℕ)) (out : List ℕ) (bad : ℕ)
    → Filters (WritesMeant Means) whole out bad → length out ≤ total whole
filtered_bytes Means [] out bad (same, none) = omega (arith, ap length same)
filtered_bytes Means (line ∷ rest) out bad (x, y, m, n, gives, others, same, sum) =
    joined (length line) (total rest) (length x) (length y) (length out) (ap length same ∙ length-append x y)
    (given_bytes Means line x m gives) (filtered_bytes Means rest y n others)

-- these are as many bytes as the input has, and a line feed, at most
pub lines_bytes : (Means : List ℕ → Type 0) (input out : List ℕ) (bad : ℕ)
    → Filters (WritesMeant Means) (lines input) out bad → length out ≤ length input + 1
lines_bytes Means input out bad filters = omega (
  arith,
  filtered_bytes Means (lines input) out bad filters,
  lines_total input,
)
