-- Two bytes at a distance in texts that hold others.
use Rattle.std.proofs.Common.{◌≡◌, ℕ, ◌+◌, ◌-◌, ◌<◌, ◌≤◌, Bool, IsUtf8, List, [], ◌∷◌, ◌++◌, length, chars}
use Rattle.std.proofs.Common.{get_or, drop, refl, sym, ◌∙◌, ap, subst, inl, inr, append_assoc, append-nil}
use Rattle.std.proofs.{Common.{length-append, arith, encode_utf8_all, true}, lemmas.Bool.cases_lt}
use Rattle.std.proofs.lemmas.List.{get_or_append_left, get_or-append-add, get_or_default, get_or-drop}
use Rattle.std.proofs.lemmas.List.{length-drop, take_all}
use Rattle.std.proofs.lemmas.Str.{encodes-append, encodes-chars, encodes-IsAscii}
use Rattle.std.specs.List.{slice_range}
use Rattle.wax_prefilter.specs.{Facts.{NeedleView, ContainsAt}, declared.needle.Anchor.Anchor}
use Rattle.wax_prefilter.specs.declared.needle.Anchor.TheVariants.{Beginning, End, Anywhere}
use Rattle.wax_prefilter.specs.{declared.pair.Pair.Pair, inner.Forms.HasAsciiForms}
use Rattle.wax_prefilter.specs.inner.Pairs.{ContainsPair, IsPairOf, LineHasOne, NoPairsBefore, OneIsAt}
use Rattle.wax_prefilter.specs.inner.Pairs.{PairIsAt, lowered}
use Rattle.wax_prefilter.proofs.AsciiForms.{alike}
use Rattle.wax_prefilter.proofs.Lowered.{length_lowered, lowered_append, lowered_drop, lowered_feed}
use Rattle.wax_prefilter.proofs.{Lowered.lowered_rest, Holding.{any_alone, any_left, any_right}}
use Rattle.wax_token.specs.Meaning.{SameText}

-- what is at an anchor is somewhere
pub stands_somewhere : (anchor : Anchor) (held : Bool × List ℕ) (text : List ℕ) → ContainsAt anchor held text
    → (x : List ℕ) × (y : List ℕ) × (z : List ℕ) × (text ≡ x ++ (y ++ z)) × SameText held.0 held.1 y
stands_somewhere Beginning held text (x, y, e, h) = ([], x, y, e, h)
stands_somewhere End held text (x, y, e, h) = (x, y, [], e ∙ ap (λ w. x ++ w) (sym (append-nil y)), h)
stands_somewhere Anywhere held text h = h

-- ---- parts

pub byte_within : (text x y z : List ℕ) (i : ℕ) → text ≡ x ++ (y ++ z) → i < length y
    → get_or text (length x + i) 0 ≡ get_or y i 0
byte_within text x y z i e lt =
    ap (λ t. get_or t (length x + i) 0) e ∙ get_or-append-add x (y ++ z) i 0 ∙ get_or_append_left y z 0 i lt

pub long_within : (text x y z : List ℕ) → text ≡ x ++ (y ++ z) → length x + length y ≤ length text
long_within text x y z e = omega (arith, ap length e, length-append x (y ++ z), length-append y z)

-- where the pair stands in a part, it stands in the whole
pub stands_within : (pair : Pair) (text x y z : List ℕ) (k : ℕ) → text ≡ x ++ (y ++ z) → PairIsAt pair y k
    → PairIsAt pair text (length x + k)
stands_within pair text x y z k e stands = record {
  inside = omega (arith, stands.inside, long_within text x y z e);
  first = byte_within text x y z k e (omega (arith, stands.inside)) ∙ stands.first;
  last = ap (λ i. get_or text i 0) (omega arith)
      ∙ byte_within text x y z (k + pair.distance) e stands.inside ∙ stands.last;
}

-- a part in which the pair stands
pub part_has : (in_any_case : Bool) (pair : Pair) (text x y z : List ℕ) → text ++ 10 ∷ [] ≡ x ++ (y ++ z)
    → ContainsPair (lowered in_any_case y) pair → LineHasOne in_any_case (pair ∷ []) text
part_has in_any_case pair text x y z e (k, stands) =
    let low = lowered in_any_case in
    let place : ℕ = length (low x) + k in
    let parted : low (text ++ 10 ∷ []) ≡ low x ++ (low y ++ low z) =
    ap low e ∙ lowered_append in_any_case x (y ++ z)
    ∙ ap (λ w. low x ++ w) (lowered_append in_any_case y z) in (
      place,
      any_alone (λ p. PairIsAt p (low (text ++ 10 ∷ [])) place) pair
          (stands_within pair (low (text ++ 10 ∷ [])) (low x) (low y) (low z) k parted stands),
    )

pub part_of_line : (text x y z : List ℕ) → text ≡ x ++ (y ++ z) → text ++ 10 ∷ [] ≡ x ++ (y ++ (z ++ 10 ∷ []))
part_of_line text x y z e =
    ap (λ w. w ++ 10 ∷ []) e ∙ append_assoc x (y ++ z) (10 ∷ [])
    ∙ ap (λ w. x ++ w) (append_assoc y z (10 ∷ []))

pub end_of_line : (text x y : List ℕ) → text ≡ x ++ y → text ++ 10 ∷ [] ≡ x ++ ((y ++ 10 ∷ []) ++ [])
end_of_line text x y e =
    ap (λ w. w ++ 10 ∷ []) e ∙ append_assoc x y (10 ∷ []) ∙ ap (λ w. x ++ w) (sym (append-nil (y ++ 10 ∷ [])))

-- a text that has another in any case has the pair in any case that the other has
pub alike_has : (pair : Pair) (held text x y z : List ℕ) → IsUtf8 text → chars text ≡ x ++ (y ++ z)
    → SameText true held y → ((k : ℕ) → k < length held → HasAsciiForms (get_or held k 0))
    → ContainsPair (lowered true held) pair → LineHasOne true (pair ∷ []) text
alike_has pair held text x y z utf8 e h each there =
    let (ascii, same) = alike held y h each in
    let front = encode_utf8_all x in
    let within : text ≡ front ++ (y ++ encode_utf8_all z) =
    sym (encodes-chars text utf8) ∙ ap encode_utf8_all e ∙ encodes-append x (y ++ z)
    ∙ ap (λ w. front ++ w)
    (encodes-append y z ∙ ap (λ w. w ++ encode_utf8_all z) (encodes-IsAscii y ascii)) in
    part_has true pair text front y (encode_utf8_all z ++ 10 ∷ [])
    (part_of_line text front y (encode_utf8_all z) within) (subst (λ w. ContainsPair w pair) (sym same) there)

-- ---- several pairs

module _ (in_any_case : Bool) where
  more_left : (xs ys : List Pair) (text : List ℕ) → LineHasOne in_any_case xs text
      → LineHasOne in_any_case (xs ++ ys) text
  more_left xs ys text (k, one) =
      (k, any_left (λ p. PairIsAt p (lowered in_any_case (text ++ 10 ∷ [])) k) xs ys one)

  more_right : (xs ys : List Pair) (text : List ℕ) → LineHasOne in_any_case ys text
      → LineHasOne in_any_case (xs ++ ys) text
  more_right xs ys text (k, one) =
      (k, any_right (λ p. PairIsAt p (lowered in_any_case (text ++ 10 ∷ [])) k) xs ys one)

  -- each text that has one of the first needles at the anchor has one of the pairs
  abbrev pub HavePairs : Anchor → List NeedleView → ℕ → List Pair → Type 0
  HavePairs anchor needles n pairs = (k : ℕ) (needle : NeedleView) → k < n → get_or needles k needle ≡ needle
      → (text : List ℕ) → IsUtf8 text → ContainsAt anchor needle (chars text)
      → LineHasOne in_any_case pairs text

  pub next_has : (anchor : Anchor) (needles : List NeedleView) (i : ℕ) (needle : NeedleView)
      (pairs : List Pair) (pair : Pair) → i < length needles → needle ≡ get_or needles i needle
      → HavePairs anchor needles i pairs
      → IsPairOf needle in_any_case pair → HavePairs anchor needles (i + 1) (pairs ++ pair ∷ [])
  next_has anchor needles i needle pairs pair lt is before has k other below there text utf8 stands =
      elim (cases_lt k i) [
        | inl less ↦ more_left pairs (pair ∷ []) text (before k other less there text utf8 stands)
        | inr from ↦
            let here : k ≡ i = omega (arith, below, from) in
            let same : other ≡ needle = sym there ∙ ap (λ j. get_or needles j other) here
            ∙ get_or_default needles i other needle lt ∙ sym is in
            more_right pairs (pair ∷ []) text
            (has text utf8 (anchor, subst (λ n. ContainsAt anchor n (chars text)) same stands))
      ]

-- a line that has one of the pairs ends after the position before which none stands
ends_after_them : (pairs : List Pair) (text x y z : List ℕ) (n : ℕ)
    → text ++ 10 ∷ [] ≡ x ++ (y ++ 10 ∷ z) → n ≤ length text
    → NoPairsBefore pairs text n → (k : ℕ) × OneIsAt pairs (y ++ 10 ∷ []) k → n ≤ length (x ++ y)
ends_after_them pairs text x y z n e inside none (k, (i, pair, lt, is, stands)) =
    let line : List ℕ = y ++ 10 ∷ [] in
    let whole : List ℕ = text ++ 10 ∷ [] in
    let part : whole ≡ x ++ (line ++ z) = e ∙ ap (λ w. x ++ w) (sym (append_assoc y (10 ∷ []) z)) in
    let there : PairIsAt pair whole (length x + k) = stands_within pair whole x line z k part stands in
    let long : length line ≡ length y + 1 = length-append y (10 ∷ []) in
    let both : length (x ++ y) ≡ length x + length y = length-append x y in
    elim (cases_lt (length x + k + pair.distance) (length text)) [
      | inr beyond ↦ omega (arith, beyond, inside, stands.inside, long, both)
      | inl within ↦
          let here : PairIsAt pair text (length x + k) = record {
            inside = within;
            first = sym (get_or_append_left text (10 ∷ []) 0 (length x + k) (omega (arith, within)))
                ∙ there.first;
            last =
                sym (get_or_append_left text (10 ∷ []) 0 (length x + k + pair.distance) within) ∙ there.last;
          } in
          elim (cases_lt (length x + k) n) [
            | inl before ↦ absurd (none (length x + k) before (i, pair, lt, is, here))
            | inr from ↦ omega (arith, from, stands.inside, long, both)
          ]
    ]

pub ends_after : (in_any_case : Bool) (pairs : List Pair) (text x y z : List ℕ) (n : ℕ)
    → text ++ 10 ∷ [] ≡ x ++ (y ++ 10 ∷ z) → n ≤ length text
    → NoPairsBefore pairs (lowered in_any_case text) n → LineHasOne in_any_case pairs y → n ≤ length (x ++ y)
ends_after in_any_case pairs text x y z n e inside none (k, one) =
    let low = lowered in_any_case in
    let long = length_lowered in_any_case in
    let parted : low text ++ 10 ∷ [] ≡ low x ++ (low y ++ 10 ∷ low z) =
    sym (lowered_feed in_any_case text) ∙ ap low e ∙ lowered_append in_any_case x (y ++ 10 ∷ z)
    ∙ ap (λ w. low x ++ w) (lowered_append in_any_case y (10 ∷ z)
    ∙ ap (λ w. low y ++ w) (lowered_rest in_any_case z)) in
    let end : n ≤ length (low x ++ low y) =
    ends_after_them pairs (low text) (low x) (low y) (low z) n parted (omega (arith, inside, long text)) none
    (k, subst (λ line. OneIsAt pairs line k) (lowered_feed in_any_case y) one) in
    omega (arith, end, length-append (low x) (low y), length-append x y, long x, long y)

-- ---- places in the rest of some bytes

-- the bytes from a position on
pub is_drop : (n : ℕ) (bytes rest : List ℕ) → rest ≡ slice_range bytes n (length bytes) → rest ≡ drop n bytes
is_drop n bytes rest e = e ∙ take_all _ _ (omega (arith, length-drop n bytes))

pub stands_in_rest : (pair : Pair) (bytes : List ℕ) (at k : ℕ) → PairIsAt pair bytes (at + k)
    → PairIsAt pair (drop at bytes) k
stands_in_rest pair bytes at k stands = record {
  inside = omega (arith, stands.inside, length-drop at bytes);
  first = get_or-drop at bytes k 0 ∙ stands.first;
  last = get_or-drop at bytes (k + pair.distance) 0 ∙ ap (λ i. get_or bytes i 0) (omega arith) ∙ stands.last;
}

pub none_further : (in_any_case : Bool) (pairs : List Pair) (bytes : List ℕ) (at n : ℕ)
    → NoPairsBefore pairs (lowered in_any_case bytes) at
    → NoPairsBefore pairs (lowered in_any_case (slice_range bytes at (length bytes))) n
    → NoPairsBefore pairs (lowered in_any_case bytes) (at + n)
none_further in_any_case pairs bytes at n before further k lt (i, pair, below, is, stands) =
    elim (cases_lt k at) [
      | inl less ↦ before k less (i, pair, below, is, stands)
      | inr from ↦
          let low = lowered in_any_case in
          let same : at + (k - at) ≡ k = omega (arith, from) in
          subst (λ b. NoPairsBefore pairs b n)
          (ap low (is_drop at bytes _ refl) ∙ lowered_drop in_any_case at bytes) further (k - at)
          (omega (arith, lt, from)) (
            i,
            pair,
            below,
            is,
            stands_in_rest pair (low bytes) at (k - at) (subst (PairIsAt pair (low bytes)) (sym same) stands),
          )
    ]
