-- Visits, counted for each character.
use Rattle.std.proofs.Common.{◌≡◌, ◌≤◌, ◌+◌, ◌*◌, ◌∷◌, ℕ, List, arith, inl, inr, drop, length, take, ap}
use Rattle.std.proofs.Common.{subst, sym, ◌∙◌, length-append, ◌<◌, None, Option, Some, cond, nat_lt, refl}
use Rattle.std.proofs.Math.Nat.{mul-le-mul_left, mul-le-mul_right}
use Rattle.std.proofs.lemmas.Bool.{cases_lt, cond_above, cond_below}
use Rattle.std.proofs.lemmas.Str.{IsCharBoundary-from_drop, IsUtf8-take, chars-append}
use Rattle.std.proofs.lemmas.List.{take-append-drop}
use Rattle.std.specs.Str.{IsUtf8, chars}
use Rattle.wax_lazy.specs.Cost.{char_visits, end_visits, fill_visits, list_visits, match_visits, first_visits}
use Rattle.wax_lazy.specs.Cost.{letters_visits, numbers_visits, path_visits, step_visits, text_visits}
use Rattle.wax_program.specs.Visits.{flags_visits, onward_visits}
use Rattle.wax_program.specs.{declared.instruction.Instruction.Instruction, Last.IsLastName}

-- from i to j, x visits were taken for each, and then at most as many for the next one
pub spent_one : (x i j old mid new k : ℕ) → mid + x * i ≤ old + x * j → new ≤ mid + k → k ≤ x
    → new + x * i ≤ old + x * (j + 1)
spent_one x i j old mid new k h a le = omega (arith, h, a, le)

-- the same for the next two
pub spent_two : (x i j old mid new k : ℕ) → mid + x * i ≤ old + x * j → new ≤ mid + k → k ≤ 2 * x
    → new + x * i ≤ old + x * (j + 1 + 1)
spent_two x i j old mid new k h a le = omega (arith, h, a, le)

-- if there are more, then at most x for each of these, too
pub spent_all : (x i j n old new : ℕ) → j ≤ n → new + x * i ≤ old + x * j → new + x * i ≤ old + x * n
spent_all x i j n old new le h =
    let a : x * j ≤ x * n = mul-le-mul_left x (let e : j ≤ n = le in e) in
    omega (arith, a, h)

-- the same by what is left
pub spent_next : (x left rest old new : ℕ) → left ≡ rest + 1 → new ≤ old + x → new + x * rest ≤ old + x * left
spent_next x left rest old new e h = subst (λ k. new + x * rest ≤ old + x * k) (sym e) (omega (arith, h))

-- what was taken for one of at least one
pub spent_some : (x n old new : ℕ) → 1 ≤ n → new ≤ old + x → new ≤ old + x * n
spent_some x n old new some h =
    let a : x * 1 ≤ x * n = mul-le-mul_left x (let e : 1 ≤ n = some in e) in
    omega (arith, a, h)

-- nothing was taken for those that are left no more
pub spent_none : (x left rest old : ℕ) → rest ≤ left → old + x * rest ≤ old + x * left
spent_none x left rest old few =
    let a : x * rest ≤ x * left = mul-le-mul_left x (let e : rest ≤ left = few in e) in
    omega (arith, a)

-- one part after another
pub spent_on : (a b old mid new : ℕ) → mid ≤ old + a → new + a ≤ mid + b → new ≤ old + b
spent_on a b old mid new h g = omega (arith, h, g)

pub spent_rest : (left rest all old mid new : ℕ) → mid + left ≤ old + all → new + rest ≤ mid + left
    → new + rest ≤ old + all
spent_rest left rest all old mid new h g = omega (arith, h, g)

-- what is left of a text has no more characters
pub chars_left : (bs : List ℕ) (i : ℕ) → IsUtf8 bs → i ≤ length bs → IsUtf8 (drop i bs)
    → length (chars (drop i bs)) ≤ length (chars bs)
chars_left bs i utf8 within rest =
    let first = IsUtf8-take bs i utf8 (IsCharBoundary-from_drop bs i within rest) in
    let whole = ap chars (sym (take-append-drop i bs)) ∙ chars-append (take i bs) (drop i bs) first in
    omega (arith, ap length whole, length-append (chars (take i bs)) (chars (drop i bs)))

-- ---- what the visits of a program are
module _ (code : List Instruction) where
  pub fill_small : length code < 256 → fill_visits code ≡ length code + 1
  unfolding fill_visits
  fill_small small = sym (cond_below (length code) 256 (length code + 1) (7 * length code + 2) small)

  pub fill_large : 256 ≤ length code → fill_visits code ≡ 7 * length code + 2
  unfolding fill_visits
  fill_large large = sym (cond_above (length code) 256 (length code + 1) (7 * length code + 2) _ large refl)

  pub char_small : length code < 256 → char_visits code ≡ length code + 1
  unfolding char_visits
  char_small small = sym (cond_below (length code) 256 (length code + 1) (9 * (length code + 1)) small)

  pub char_large : 256 ≤ length code → char_visits code ≡ 9 * (length code + 1)
  unfolding char_visits
  char_large large =
      sym (cond_above (length code) 256 (length code + 1) (9 * (length code + 1)) _ large refl)

  pub end_small : length code < 256 → end_visits code ≡ length code
  unfolding end_visits
  end_small small = sym (cond_below (length code) 256 (length code) (3 * length code) small)

  pub end_large : 256 ≤ length code → end_visits code ≡ 3 * length code
  unfolding end_visits
  end_large large = sym (cond_above (length code) 256 (length code) (3 * length code) _ large refl)

  pub numbers_small : length code < 256 → numbers_visits code ≡ 2 * length code + 1
  unfolding numbers_visits
  numbers_small small = sym (cond_below (length code) 256 (2 * length code + 1) (5 * length code + 2) small)

  pub numbers_large : 256 ≤ length code → numbers_visits code ≡ 5 * length code + 2
  unfolding numbers_visits
  numbers_large large =
      sym (cond_above (length code) 256 (2 * length code + 1) (5 * length code + 2) _ large refl)

  pub letters_small : length code < 256 → letters_visits code ≡ 0
  unfolding letters_visits
  letters_small small = sym (cond_below (length code) 256 0 (length code) small)

  pub letters_large : 256 ≤ length code → letters_visits code ≡ length code
  unfolding letters_visits
  letters_large large = sym (cond_above (length code) 256 0 (length code) _ large refl)

  -- a run's visits
  pub char_any : length code + 1 ≤ char_visits code
  char_any = elim (cases_lt (length code) 256) [
    | inl small ↦ omega (arith, char_small small)
    | inr large ↦ omega (arith, char_large large)
  ]

  pub fill_char : fill_visits code ≤ char_visits code
  fill_char = elim (cases_lt (length code) 256) [
    | inl small ↦ omega (arith, char_small small, fill_small small)
    | inr large ↦ omega (arith, char_large large, fill_large large)
  ]

  -- the end of a text, and the letters
  end_char : letters_visits code + end_visits code ≤ char_visits code
  end_char = elim (cases_lt (length code) 256) [
    | inl small ↦ omega (arith, char_small small, letters_small small, end_small small)
    | inr large ↦ omega (arith, char_large large, letters_large large, end_large large)
  ]

  -- the numbers at the end of a text, and the letters
  ends_char : letters_visits code + numbers_visits code ≤ char_visits code + (length code + 1)
  ends_char = elim (cases_lt (length code) 256) [
    | inl small ↦ omega (arith, char_small small, letters_small small, numbers_small small)
    | inr large ↦ omega (arith, char_large large, letters_large large, numbers_large large)
  ]

  -- a step from all places of a state
  pub fill_all : (old new : ℕ) → new ≤ old + step_visits code
      → (length code < 256 → new ≤ old + (length code + 1)) → new ≤ old + fill_visits code
  fill_all old new step less = elim (cases_lt (length code) 256) [
    | inl small ↦ omega (arith, less small, fill_small small)
    | inr large ↦ omega (arith, step, fill_large large)
  ]

  -- and a check before it
  pub fill_after : (old mid new : ℕ) → mid ≤ old + 1 → (length code < 256 → mid ≡ old)
      → new ≤ mid + fill_visits code → new ≤ old + char_visits code
  fill_after old mid new check less fill = elim (cases_lt (length code) 256) [
    | inl small ↦ omega (arith, less small, fill, fill_small small, char_small small)
    | inr large ↦ omega (arith, check, fill, fill_large large, char_large large)
  ]

  -- a text and its end
  pub matched_within : (k m old new : ℕ) → k ≤ m
      → new ≤ old + text_visits code k + end_visits code → new ≤ old + match_visits code m
  matched_within k m old new le h =
      let a : char_visits code * k ≤ char_visits code * m =
      mul-le-mul_left (char_visits code) (let e : k ≤ m = le in e) in
      omega (arith, a, h, end_char)

  -- a text and the numbers of its end
  pub listed_within : (k m old new : ℕ) → k ≤ m
      → new ≤ old + text_visits code k + numbers_visits code → new ≤ old + list_visits code m
  listed_within k m old new le h =
      let a : char_visits code * k ≤ char_visits code * m =
      mul-le-mul_left (char_visits code) (let e : k ≤ m = le in e) in
      omega (arith, a, h, ends_char)

  -- a text that a run decides
  pub once_within : (m old new : ℕ) → new ≤ old + (length code + 1) * (m + 1)
      → new ≤ old + match_visits code m
  once_within m old new h =
      let a : (length code + 1) * (m + 1) ≤ char_visits code * (m + 1) =
      mul-le-mul_right (m + 1) (let e : length code + 1 ≤ char_visits code = char_any in e) in
      omega (arith, a, h)

  -- a text that is followed without states, and the numbers of its end
  pub listed_once : (m old new : ℕ) → new ≤ old + length code * m + (2 * length code + 1)
      → new ≤ old + list_visits code m
  listed_once m old new h =
      let a : length code * m ≤ char_visits code * m =
      mul-le-mul_right m (let e : length code ≤ char_visits code = omega (arith, char_any) in e) in
      omega (arith, a, h, char_any)

-- ---- the same by the length of a program
module _ (code : List Instruction) (len : ℕ) (longer : length code < len) where
  char_len : char_visits code ≤ cond (nat_lt 256 len) (9 * len) len
  char_len = elim (cases_lt (length code) 256) [
    | inl small ↦ elim (cases_lt 256 len) [
      | inl wide ↦ omega (arith, longer, char_small code small, cond_below 256 len (9 * len) len wide)
      | inr narrow ↦ omega
          (arith, longer, char_small code small, cond_above 256 len (9 * len) len _ narrow refl)
    ]
    | inr large ↦
        let wide : 256 < len = omega (arith, longer, large) in
        omega (arith, longer, char_large code large, cond_below 256 len (9 * len) len wide)
  ]

  pub path_within : (m old new : ℕ) → new ≤ old + match_visits code m → new ≤ old + path_visits len m
  unfolding path_visits
  path_within m old new h =
      let all : ℕ = cond (nat_lt 256 len) (9 * len) len in
      let a : char_visits code * (m + 1) ≤ all * (m + 1) =
      mul-le-mul_right (m + 1) (let e : char_visits code ≤ all = char_len in e) in
      omega (arith, a, h)

  flags_len : flags_visits code ≤ 11 * len
  unfolding flags_visits
  flags_len = omega (arith, longer)

  first_len : (most : Option ℕ) → onward_visits code most ≤ first_visits len most
  unfolding first_visits
  first_len None = omega (arith, longer, flags_len)
  first_len (Some most) =
      let all : flags_visits code * (most + 1) ≤ 11 * len * (most + 1) =
      mul-le-mul_right (most + 1) (let e : flags_visits code ≤ 11 * len = flags_len in e) in
      let once : len * 1 ≤ len * (most + 1) = mul-le-mul_left len (let e : 1 ≤ most + 1 = omega arith in e) in
      grind (arith, all, once, longer)

  pub verdict_within : (most : Option ℕ) (m old new : ℕ)
      → new ≤ old + onward_visits code most + match_visits code m
      → new ≤ old + first_visits len most + path_visits len m
  verdict_within most m old new h =
      let a : old + onward_visits code most + match_visits code m
      ≤ old + onward_visits code most + path_visits len m =
      path_within m (old + onward_visits code most) (old + onward_visits code most + match_visits code m)
      (omega arith) in
      omega (arith, a, h, first_len most)

-- the last name of a text has no more characters
pub name_shorter : (text name : List ℕ) → IsLastName text name → length name ≤ length text
name_shorter text name (whole, inl e) = omega (arith, ap length e)
name_shorter text name (part, inr (before, e)) =
    omega (arith, ap length e, length-append before (47 ∷ name))
