-- The bounds of repetitions.
use Rattle.std.proofs.Common.{true≢false, codes, leb, leb-true, ◌&&◌, append_assoc, inl, inr, ◌≡◌, ℕ, ◌+◌}
use Rattle.std.proofs.Common.{◌*◌, ◌-◌, ◌^◌, ◌<◌, ◌≤◌, ltb, Bool, true, false, List, [], ◌∷◌, ◌++◌, Option}
use Rattle.std.proofs.Common.{Some, None, if◌then◌else◌, refl, sym, ◌∙◌, ap, subst, arith}
use Rattle.std.proofs.lemmas.Bool.Decides.{eqb_tells}
use Rattle.std.specs.{Char.is_ascii_digit, List.list_all}
use borrow.Author.Tests.{ltb-true, lt-ltb}
use Rattle.wax_token.specs.Reads.{decimal_from, IsNumber, ReadsBounds, any_number, at_least_one, exactly}
use Rattle.wax_token.specs.Reads.{at_least, between}
use Rattle.wax_parse.specs.inner.Parser.{strip, digit_step, digits_run, digits_after, number_run, with_value}
use Rattle.wax_parse.specs.inner.Parser.{with_lower, upper_end, upper_or, read_upper, upper_after}
use Rattle.wax_parse.specs.inner.Parser.{lower_after, read_numbers, numbers_or, bounds_after, read_bounds}
use Rattle.wax_parse.specs.inner.Reading.{HasSuffix}
use Rattle.wax_parse.proofs.{Runs.none_some, Trees.strip_is}

same_pair : (x y : ℕ × List ℕ) → Some x ≡ Some y → x ≡ y
same_pair x y e = cc

-- ---- the loop over digits
abbrev Digit : ℕ → List ℕ → List ℕ → Type 0
Digit d s r = (c : ℕ) × (s ≡ c ∷ r) × (is_ascii_digit c ≡ true) × (d ≡ c - 48)

-- what an end of the text is read as, of which it is known whether it begins with a digit
abbrev digit_if : ℕ → List ℕ → Bool → Option (ℕ × List ℕ)
digit_if c s b = if b then Some (c - 48, s) else None

pub digit_is : (s : List ℕ) (d : ℕ) (r : List ℕ) → digit_step s ≡ Some (d, r) → Digit d s r
digit_is [] d r e = absurd (let p : ℕ × List ℕ = (d, r) in none_some p e)
digit_is (c ∷ s) d r e = elim (is_ascii_digit c)
    as (λ z. is_ascii_digit c ≡ z → digit_if c s z ≡ Some (d, r) → Digit d (c ∷ s) r) [
      | true ↦ λ f g. (let x : ℕ × List ℕ = (c - 48, s) in let y : ℕ × List ℕ = (d, r) in
          let h : x ≡ y = same_pair x y g in
          (c, (λ i. c ∷ (h i).1), f, sym (ap (λ z. z.0) h)))
      | false ↦ λ f g. absurd (let p : ℕ × List ℕ = (d, r) in none_some p g)
    ] refl e

no_digit : (c : ℕ) (s : List ℕ) → digit_step (c ∷ s) ≡ None → is_ascii_digit c ≡ false
no_digit c s e = elim (is_ascii_digit c) as (λ z. digit_if c s z ≡ None → z ≡ false) [
  | true ↦ λ f. absurd (let p : ℕ × List ℕ = (c - 48, s) in none_some p (sym f))
  | false ↦ λ f. refl
] e

-- a run that goes on with a digit
abbrev within_if : ℕ → ℕ → List ℕ → Bool → Option (ℕ × List ℕ)
within_if n c s b = if b then digits_run (n * 10 + (c - 48)) s else None

abbrev run_if : ℕ → ℕ → List ℕ → Bool → Option (ℕ × List ℕ)
run_if n c s b = if b then within_if n c s (ltb (n * 10 + (c - 48)) (2 ^ 64)) else Some (n, c ∷ s)

run_digit : (n c : ℕ) (s : List ℕ) → is_ascii_digit c ≡ true
    → digits_run n (c ∷ s) ≡ within_if n c s (ltb (n * 10 + (c - 48)) (2 ^ 64))
run_digit n c s e = ap (run_if n c s) e

pub digits_stop : (n : ℕ) (s : List ℕ) → digit_step s ≡ None → digits_run n s ≡ Some (n, s)
digits_stop n [] e = refl
digits_stop n (c ∷ s) e = ap (run_if n c s) (no_digit c s e)

-- ---- a number is read exactly where its digits stand
abbrev all_digits : List ℕ → Bool
all_digits ds = list_all is_ascii_digit ds

-- the number m, with digits up to the text r
abbrev Continues : ℕ → List ℕ → ℕ → List ℕ → Type 0
Continues m s n r = (ds : List ℕ) × (s ≡ ds ++ r) × (all_digits ds ≡ true)
    × (decimal_from m ds ≡ n) × (n < 2 ^ 64)

both_true : (a b : Bool) → a ≡ true → b ≡ true → (a && b) ≡ true
both_true true b e f = f
both_true false b e f = e

and_true : (a b : Bool) → (a && b) ≡ true → (a ≡ true) × (b ≡ true)
and_true true b e = (refl, e)
and_true false b e = absurd (true≢false (sym e))

-- a digit more: decimal places count from the left
next_digit : (m c : ℕ) → m * 10 + (c - 48) ≡ 10 * m + (c - 48)
next_digit m c = omega arith

digits_sound : (m : ℕ) (s : List ℕ) (n : ℕ) (r : List ℕ) → m < 2 ^ 64
    → digits_run m s ≡ Some (n, r) → Continues m s n r
digits_sound m [] n r small e =
    let x : ℕ × List ℕ = (m, []) in let y : ℕ × List ℕ = (n, r) in let h : x ≡ y = same_pair x y e in
    ([], ap (λ z. z.1) h, refl, ap (λ z. z.0) h, (let k : m ≡ n = ap (λ z. z.0) h in omega (arith, k, small)))
digits_sound m (c ∷ s) n r small e = elim (is_ascii_digit c)
    as (λ z. is_ascii_digit c ≡ z → run_if m c s z ≡ Some (n, r) → Continues m (c ∷ s) n r) [
      | true ↦ λ f g. elim (ltb (m * 10 + (c - 48)) (2 ^ 64)) as (λ z. ltb (m * 10 + (c - 48)) (2 ^ 64) ≡ z
          → within_if m c s z ≡ Some (n, r) → Continues m (c ∷ s) n r) [
            | true ↦ λ k h. (let t : Continues (m * 10 + (c - 48)) s n r =
                digits_sound (m * 10 + (c - 48)) s n r (ltb-true (m * 10 + (c - 48)) (2 ^ 64) k) h in (
                  c ∷ t.0,
                  ap (λ z. c ∷ z) t.1,
                  both_true (is_ascii_digit c) (all_digits t.0) f t.2,
                  ap (λ z. decimal_from z t.0) (sym (next_digit m c)) ∙ t.3,
                  t.4,
                ))
            | false ↦ λ k h. absurd (let y : ℕ × List ℕ = (n, r) in none_some y h)
          ] refl g
      | false ↦ λ f g. (let x : ℕ × List ℕ = (m, c ∷ s) in let y : ℕ × List ℕ = (n, r) in
          let h : x ≡ y = same_pair x y g in (
            [],
            ap (λ z. z.1) h,
            refl,
            ap (λ z. z.0) h,
            (let k : m ≡ n = ap (λ z. z.0) h in omega (arith, k, small)),
          ))
    ] refl e

decimal_grows : (m : ℕ) (ds : List ℕ) → m ≤ decimal_from m ds
decimal_grows m [] = omega arith
decimal_grows m (d ∷ ds) = omega (arith, decimal_grows (10 * m + (d - 48)) ds)

digits_complete : (m : ℕ) (ds s : List ℕ) → all_digits ds ≡ true → digit_step s ≡ None
    → decimal_from m ds < 2 ^ 64 → digits_run m (ds ++ s) ≡ Some (decimal_from m ds, s)
digits_complete m [] s all stop small = digits_stop m s stop
digits_complete m (d ∷ ds) s all stop small =
    let h : (is_ascii_digit d ≡ true) × (all_digits ds ≡ true) =
    and_true (is_ascii_digit d) (all_digits ds) all in
    let k : m * 10 + (d - 48) < 2 ^ 64 =
    omega (arith, next_digit m d, decimal_grows (10 * m + (d - 48)) ds, small) in
    run_digit m d (ds ++ s) h.0 ∙ ap (within_if m d (ds ++ s)) (lt-ltb (m * 10 + (d - 48)) (2 ^ 64) k)
    ∙ ap (λ z. digits_run z (ds ++ s)) (next_digit m d)
    ∙ digits_complete (10 * m + (d - 48)) ds s h.1 stop small

small_digit : (c : ℕ) → is_ascii_digit c ≡ true → c - 48 < 2 ^ 64
small_digit c e = let h : (leb 48 c ≡ true) × (leb c 57 ≡ true) = and_true (leb 48 c) (leb c 57) e in
    omega (arith, leb-true c 57 h.1)

-- the first digit
from_zero : (c : ℕ) (ds : List ℕ) → decimal_from 0 (c ∷ ds) ≡ decimal_from (c - 48) ds
from_zero c ds = let e : 0 + (c - 48) ≡ c - 48 = omega arith in ap (λ z. decimal_from z ds) e

number_sound : (s : List ℕ) (n : ℕ) (r : List ℕ) → number_run s ≡ Some (n, r)
    → (ds : List ℕ) × (s ≡ ds ++ r) × IsNumber ds n
number_sound s n r e = elim (digit_step s) as (λ o. digit_step s ≡ o → digits_after o ≡ Some (n, r)
    → (ds : List ℕ) × (s ≡ ds ++ r) × IsNumber ds n) [
      | None ↦ λ f g. absurd (let y : ℕ × List ℕ = (n, r) in none_some y g)
      | Some p ↦ λ f g. (let k : Digit p.0 s p.1 = digit_is s p.0 p.1 f in
          let t : Continues (k.0 - 48) p.1 n r = digits_sound (k.0 - 48) p.1 n r (small_digit k.0 k.2)
          (ap (λ z. digits_run z p.1) (sym k.3) ∙ g) in (
            k.0 ∷ t.0,
            k.1 ∙ ap (λ z. k.0 ∷ z) t.1,
            (
              (λ z. cons_nil k.0 t.0 z),
              both_true (is_ascii_digit k.0) (all_digits t.0) k.2 t.2,
              from_zero k.0 t.0 ∙ t.3,
              t.4,
            ),
          ))
    ] refl e
  where
    cons_nil : (c : ℕ) (t : List ℕ) → c ∷ t ≡ [] → ⊥
    cons_nil c t z = cc

step_digit : (c : ℕ) (s : List ℕ) → is_ascii_digit c ≡ true → digit_step (c ∷ s) ≡ Some (c - 48, s)
step_digit c s e = ap (digit_if c s) e

number_complete : (ds s : List ℕ) (n : ℕ) → digit_step s ≡ None → IsNumber ds n
    → number_run (ds ++ s) ≡ Some (n, s)
number_complete [] s n stop h = absurd (h.0 refl)
number_complete (d ∷ ds) s n stop h =
    let k : (is_ascii_digit d ≡ true) × (all_digits ds ≡ true) =
    and_true (is_ascii_digit d) (all_digits ds) h.1 in
    ap digits_after (step_digit d (ds ++ s) k.0)
    ∙ digits_complete (d - 48) ds s k.1 stop (subst (λ z. z < 2 ^ 64) (sym h.2 ∙ from_zero d ds) h.3)
    ∙ ap (λ z. Some (z, s)) (sym (from_zero d ds) ∙ h.2)

-- ---- bounds
abbrev AreBounds : List ℕ → (ℕ × Option ℕ) × List ℕ → Type 0
AreBounds x r = (cs : List ℕ) × ReadsBounds cs r.0.0 r.0.1 × (x ≡ (cs ++ codes ">") ++ r.1)

abbrev BoundsIf : List ℕ → Option ((ℕ × Option ℕ) × List ℕ) → Type 0
BoundsIf x None = Unit {0}
BoundsIf x (Some r) = AreBounds x r

-- after `:` and the lower bound
exactly_sound : (x ds s : List ℕ) (n : ℕ) → x ≡ 58 ∷ (ds ++ s) → IsNumber ds n
    → BoundsIf x (with_value (n, Some n) (strip 62 s))
exactly_sound x ds s n e h =
    elim (strip 62 s) as (λ o. strip 62 s ≡ o → BoundsIf x (with_value (n, Some n) o)) [
      | None ↦ λ f. tt
      | Some t ↦ λ f. (
        58 ∷ ds,
        exactly ds refl h refl,
        e ∙ ap (λ z. 58 ∷ (ds ++ z)) (strip_is 62 s t f)
            ∙ ap (λ z. 58 ∷ z) (sym (append_assoc ds (codes ">") t)),
      )
    ] refl

-- the text of bounds, as it is written
closed_upper : (ds es t : List ℕ) → ((codes ":" ++ ds ++ codes "," ++ es) ++ codes ">") ++ t
    ≡ 58 ∷ (ds ++ 44 ∷ (es ++ 62 ∷ t))
closed_upper ds es t = ap (λ z. 58 ∷ z)
    (append_assoc ((ds ++ codes ",") ++ es) (codes ">") t ∙ append_assoc (ds ++ codes ",") es (62 ∷ t)
    ∙ append_assoc ds (codes ",") (es ++ 62 ∷ t))

closed_lower : (ds t : List ℕ) → ((codes ":" ++ ds ++ codes ",") ++ codes ">") ++ t ≡ 58 ∷ (ds ++ 44 ∷ 62 ∷ t)
closed_lower ds t =
    ap (λ z. 58 ∷ z) (append_assoc (ds ++ codes ",") (codes ">") t ∙ append_assoc ds (codes ",") (62 ∷ t))

upper_sound : (x ds s : List ℕ) (n : ℕ) → x ≡ 58 ∷ (ds ++ 44 ∷ s) → IsNumber ds n
    → BoundsIf x (with_lower n (read_upper s))
upper_sound x ds s n e h =
    elim (strip 62 s) as (λ o. strip 62 s ≡ o → BoundsIf x (with_lower n (upper_or s o))) [
      | Some t ↦ λ f. (
        codes ":" ++ ds ++ codes ",",
        at_least ds refl h refl,
        e ∙ ap (λ z. 58 ∷ (ds ++ 44 ∷ z)) (strip_is 62 s t f) ∙ sym (closed_lower ds t),
      )
      | None ↦ λ f. elim (number_run s) as (λ o. number_run s ≡ o → BoundsIf x (with_lower n (upper_end o))) [
        | None ↦ λ g. tt
        | Some r ↦ λ g. elim (strip 62 r.1)
            as (λ o. strip 62 r.1 ≡ o → BoundsIf x (with_lower n (with_value (Some r.0) o))) [
              | None ↦ λ k. tt
              | Some t ↦
                  λ k. (let m : (es : List ℕ) × (s ≡ es ++ r.1) × IsNumber es r.0 =
                  number_sound s r.0 r.1 g in (
                    codes ":" ++ ds ++ codes "," ++ m.0,
                    between ds m.0 r.0 refl h m.2 refl,
                    e ∙ ap (λ z. 58 ∷ (ds ++ 44 ∷ z)) (m.1 ∙ ap (λ z. m.0 ++ z) (strip_is 62 r.1 t k))
                        ∙ sym (closed_upper ds m.0 t),
                  ))
            ] refl
      ] refl
    ] refl

numbers_sound : (x s : List ℕ) → x ≡ 58 ∷ s → BoundsIf x (read_numbers s)
numbers_sound x s e = elim (number_run s) as (λ o. number_run s ≡ o → BoundsIf x (lower_after o)) [
  | None ↦ λ f. tt
  | Some r ↦ λ f. (let m : (ds : List ℕ) × (s ≡ ds ++ r.1) × IsNumber ds r.0 = number_sound s r.0 r.1 f in
      elim (strip 44 r.1) as (λ o. strip 44 r.1 ≡ o → BoundsIf x (upper_after r.0 r.1 o)) [
        | None ↦ λ g. exactly_sound x m.0 r.1 r.0 (e ∙ ap (λ z. 58 ∷ z) m.1) m.2
        | Some t ↦ λ g. upper_sound x m.0 t r.0
            (e ∙ ap (λ z. 58 ∷ z) (m.1 ∙ ap (λ z. m.0 ++ z) (strip_is 44 r.1 t g))) m.2
      ] refl)
] refl

bounds_if : (x : List ℕ) → BoundsIf x (read_bounds x)
bounds_if x = elim (strip 58 x) as (λ o. strip 58 x ≡ o → BoundsIf x (bounds_after x o)) [
  | None ↦ λ e. elim (strip 62 x) as (λ o. strip 62 x ≡ o → BoundsIf x (with_value (0, None) o)) [
    | None ↦ λ f. tt
    | Some t ↦ λ f. ([], any_number refl refl refl, strip_is 62 x t f)
  ] refl
  | Some s ↦ λ e. elim (strip 62 s) as (λ o. strip 62 s ≡ o → BoundsIf x (numbers_or s o)) [
    | None ↦ λ f. numbers_sound x s (strip_is 58 x s e)
    | Some t ↦ λ f.
        (codes ":", at_least_one refl refl refl, strip_is 58 x s e ∙ ap (λ z. 58 ∷ z) (strip_is 62 s t f))
  ] refl
] refl

pub bounds_sound : (x : List ℕ) (low : ℕ) (high : Option ℕ) (s : List ℕ)
    → read_bounds x ≡ Some ((low, high), s) → AreBounds x ((low, high), s)
bounds_sound x low high s e = subst (BoundsIf x) e (bounds_if x)

-- no digit begins with `>` or `,`, nor does a number
digit_head : (ds s : List ℕ) (n k : ℕ) → IsNumber ds n → is_ascii_digit k ≡ false → strip k (ds ++ s) ≡ None
digit_head [] s n k h e = absurd (h.0 refl)
digit_head (d ∷ ds) s n k h e =
    let g : is_ascii_digit d ≡ true = (and_true (is_ascii_digit d) (all_digits ds) h.1).0 in
    elim (eqb_tells k d) [
      | inl f ↦ absurd (true≢false (sym g ∙ ap is_ascii_digit (sym f.1) ∙ e))
      | inr f ↦ ap (λ z. if z then Some (ds ++ s) else None) f.0
    ]

upper_complete : (es s : List ℕ) (n : ℕ) → IsNumber es n → read_upper (es ++ 62 ∷ s) ≡ Some (Some n, s)
upper_complete es s n h =
    ap (upper_or (es ++ 62 ∷ s)) (digit_head es (62 ∷ s) n 62 h refl)
    ∙ ap upper_end (number_complete es (62 ∷ s) n refl h)

numbers_after : (ds s : List ℕ) (n : ℕ) → digit_step s ≡ None → IsNumber ds n
    → read_bounds (58 ∷ (ds ++ s)) ≡ upper_after n s (strip 44 s)
numbers_after ds s n stop h =
    ap (numbers_or (ds ++ s)) (digit_head ds s n 62 h refl) ∙ ap lower_after (number_complete ds s n stop h)

pub bounds_complete : (cs : List ℕ) (low : ℕ) (high : Option ℕ) (s : List ℕ) → ReadsBounds cs low high
    → read_bounds ((cs ++ codes ">") ++ s) ≡ Some ((low, high), s)
bounds_complete cs low high s (any_number e f g) = rw (e, f, g) refl
bounds_complete cs low high s (at_least_one e f g) = rw (e, f, g) refl
bounds_complete cs low high s (exactly ds e h g) =
    ap (λ z. read_bounds ((z ++ codes ">") ++ s)) e
    ∙ ap (λ z. read_bounds (58 ∷ z)) (append_assoc ds (codes ">") s)
    ∙ numbers_after ds (62 ∷ s) low refl h ∙ ap (λ z. Some ((low, z), s)) (sym g)
bounds_complete cs low high s (at_least ds e h g) =
    ap (λ z. read_bounds ((z ++ codes ">") ++ s)) e
    ∙ ap read_bounds (closed_lower ds s)
    ∙ numbers_after ds (44 ∷ 62 ∷ s) low refl h ∙ ap (λ z. Some ((low, z), s)) (sym g)
bounds_complete cs low high s (between ds es most e h k g) =
    ap (λ z. read_bounds ((z ++ codes ">") ++ s)) e
    ∙ ap read_bounds (closed_upper ds es s)
    ∙ numbers_after ds (44 ∷ (es ++ 62 ∷ s)) low refl h ∙ ap (with_lower low) (upper_complete es s most k)
    ∙ ap (λ z. Some ((low, z), s)) (sym g)

pub bounds_beyond : (x : List ℕ) (low : ℕ) (high : Option ℕ) (s : List ℕ)
    → read_bounds x ≡ Some ((low, high), s) → HasSuffix x s
bounds_beyond x low high s e = let k : AreBounds x ((low, high), s) = bounds_sound x low high s e in
    (k.0 ++ codes ">", k.2)
