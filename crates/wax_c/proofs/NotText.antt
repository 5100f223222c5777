-- How many lines of an input aren't text.
use Rattle.std.proofs.Common.{◌≡◌, ◌+◌, ◌∙◌, ◌==◌, ℕ, suc, Bool, true, false, List, [], ◌∷◌, Some, None, ap}
use Rattle.std.proofs.Common.{ap₂, arith, cond, drop, if◌then◌else◌, inl, inr, nat_lt, not, length, refl}
use Rattle.std.proofs.Common.{subst, sym, take, ◌≤◌, ◌<◌}
use Rattle.std.specs.{Option.unwrap_or, List.position_or_len}
use Rattle.wax.specs.Matching.{Filters, WritesMeant, lines}
use Rattle.wax_lines.specs.Lines.{Gives, no_text, onto_lines, text}
use Rattle.wax_c.specs.NotText.{AreNotText, IsNotText}

-- ---- the number is that of the filters
one_line : (Means : List ℕ → Type 0) (line out : List ℕ) (bad n : ℕ) → Gives (WritesMeant Means) line out bad
    → IsNotText line n → bad ≡ n
one_line Means line out bad n (text utf8 writes good) (inl is) = good ∙ sym is.1
one_line Means line out bad n (text utf8 writes good) (inr is) = absurd (is.0 utf8)
one_line Means line out bad n (no_text not same one) (inl is) = absurd (not is.0)
one_line Means line out bad n (no_text not same one) (inr is) = one ∙ sym is.1

pub excluded : (Means : List ℕ → Type 0) (whole : List (List ℕ)) (out : List ℕ) (bad n : ℕ)
    → Filters (WritesMeant Means) whole out bad → AreNotText whole n → bad ≡ n
excluded Means [] out bad n (same, none) is = none ∙ sym is
excluded Means (line ∷ rest) out bad n (x, y, m, k, gives, others, same, sum) (m', k', is, are, sum') =
    sum ∙ ap₂ (λ a b. a + b) (one_line Means line x m m' gives is) (excluded Means rest y k k' others are)
    ∙ sym sum'

-- ---- the first line, and the others
abbrev pub end_of : List ℕ → ℕ
end_of bytes = position_or_len (λ byte. byte == 10) bytes

abbrev pub cut : List ℕ → List (List ℕ)
cut bytes = take (end_of bytes) bytes ∷ lines (drop (end_of bytes + 1) bytes)

-- the same of a test of the first byte
abbrev cut_by : Bool → List ℕ → List ℕ → List (List ℕ)
cut_by is_feed bytes rest = let n = cond (not is_feed) (1 + end_of rest) 0 in
    take n bytes ∷ lines (drop (n + 1) bytes)

abbrev lines_by : Bool → ℕ → List ℕ → List (List ℕ)
lines_by is_feed b rest = if is_feed then [] ∷ lines rest else onto_lines b (lines rest)

one : (is_feed : Bool) (b : ℕ) → lines_by is_feed b [] ≡ cut_by is_feed (b ∷ []) []
one true b = refl
one false b = refl

more : (is_feed : Bool) (b : ℕ) (bs : List ℕ) → lines bs ≡ cut bs
    → lines_by is_feed b bs ≡ cut_by is_feed (b ∷ bs) bs
more true b bs is = refl
more false b bs is =
    let next : 1 + end_of bs ≡ suc (end_of bs) = omega arith in
    let after : 1 + end_of bs + 1 ≡ suc (end_of bs + 1) = omega arith in
    ap (onto_lines b) is
    ∙ sym (ap₂ (λ i j. take i (b ∷ bs) ∷ lines (drop j (b ∷ bs))) next after)

pub first_line : (b : ℕ) (bs : List ℕ) → lines (b ∷ bs) ≡ cut (b ∷ bs)
first_line b [] = one (b == 10) b
first_line b (c ∷ cs) = more (b == 10) b (c ∷ cs) (first_line c cs)

-- ---- where a line ends
pub line_end : (n len : ℕ) → n ≤ len → unwrap_or (cond (nat_lt n len) (Some n) None) len ≡ n
line_end n len few = by_test (nat_lt n len) (grind arith)
  where
    by_test : (b : Bool) → nat_lt n len ≡ b → unwrap_or (cond b (Some n) None) len ≡ n
    by_test true e = refl
    by_test false e = grind (arith, few, e)

-- ---- counting line by line
line_counted : (b : ℕ) (bs line rest : List ℕ) (m n : ℕ) → lines (b ∷ bs) ≡ line ∷ lines rest
    → IsNotText line m → AreNotText (lines rest) n → AreNotText (lines (b ∷ bs)) (m + n)
line_counted b bs line rest m n is counts others =
    subst (λ whole. AreNotText whole (m + n)) (sym is) (m, n, counts, others, refl)

-- what is counted before the rest is missing from what is counted of the rest
abbrev pub AreMissing : List ℕ → List ℕ → ℕ → Type 0
AreMissing whole rest count = (n : ℕ) → AreNotText (lines rest) n → AreNotText (lines whole) (count + n)

pub more_counted : (whole rest after : List ℕ) (count m : ℕ) → 0 < length rest
    → IsNotText (take (end_of rest) rest) m → after ≡ drop (end_of rest + 1) rest
    → AreMissing whole rest count → AreMissing whole after (count + m)
more_counted whole [] after count m some counts same before n others = absurd (omega (arith, some))
more_counted whole (b ∷ bs) after count m some counts same before n others =
    let rest = b ∷ bs in let line = take (end_of rest) rest in
    let is : lines rest ≡ line ∷ lines after = first_line b bs ∙ ap (λ ls. line ∷ lines ls) (sym same) in
    let sum : count + (m + n) ≡ count + m + n = omega arith in
    subst (AreNotText (lines whole)) sum (before (m + n) (line_counted b bs line after m n is counts others))

pub all_counted : (whole rest : List ℕ) (count : ℕ) → length rest ≡ 0 → AreMissing whole rest count
    → AreNotText (lines whole) count
all_counted whole [] count none before =
    let same : count + 0 ≡ count = omega arith in subst (AreNotText (lines whole)) same (before 0 refl)
all_counted whole (b ∷ bs) count none before = absurd (omega (arith, none))
