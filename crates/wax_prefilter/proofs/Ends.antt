-- Needles at the ends of lines.
use Rattle.std.proofs.Common.{◌≡◌, ℕ, zero, suc, ◌+◌, ◌-◌, ◌<◌, ◌≤◌, ◌++◌, ◌∷◌, [], List, Option, None, Some}
use Rattle.std.proofs.Common.{IfSome, length, get_or, take, drop, chars, encode_utf8_all, IsUtf8, false, refl}
use Rattle.std.proofs.Common.{sym, ◌∙◌, ap, subst, inl, inr, arith, append_assoc, length-append, drop-cons}
use Rattle.std.proofs.lemmas.Bool.{cases_lt}
use Rattle.std.proofs.lemmas.List.{get_or-append-add, get_or_append_left, length-take, take-append-le}
use Rattle.std.proofs.{lemmas.List.take-append-drop, Math.Seq.take-append_seam}
use Rattle.std.specs.List.{slice_range}
use Rattle.wax_prefilter.specs.Facts.{NeedleView, ContainsOne, ContainsAt}
use Rattle.wax_prefilter.specs.{declared.line_end.EndPair.EndPair, declared.needle.Anchor.TheVariants.End}
use Rattle.wax_prefilter.specs.inner.Ends.{ComesBefore, EndsWith, EndsWithOne, IsBeforeEnd, NoneEndsBefore}
use Rattle.wax_prefilter.specs.inner.Pairs.{PairIsAt, NoPairBefore}
use Rattle.wax_prefilter.proofs.MeantEdges.{bytes_end, plain_text}
use Rattle.wax_prefilter.proofs.Pairs.{end_of_line, is_drop, stands_in_rest, stands_within}

feed_inside : (bytes : List ℕ) (k : ℕ) → get_or bytes k 0 ≡ 10 → k < length bytes
feed_inside [] k is = cc
feed_inside (c ∷ bytes) zero is = omega arith
feed_inside (c ∷ bytes) (suc k) is = omega (arith, feed_inside bytes k is)

feed_here : (bytes : List ℕ) (k : ℕ) → k < length bytes → get_or bytes k 0 ≡ 10
    → drop k bytes ≡ 10 ∷ drop (k + 1) bytes
feed_here bytes k inside is =
    drop-cons bytes k 0 inside ∙ (λ i. is i ∷ drop (one_more k i) bytes)
  where
    one_more : (k : ℕ) → suc k ≡ k + 1
    one_more k = omega arith

only : (needle other : NeedleView) (i : ℕ) → i < length (needle ∷ []) → get_or (needle ∷ []) i other ≡ needle
only needle other zero lt = refl
only needle other (suc i) lt = absurd (omega (arith, lt))

abbrev pub feed : EndPair
feed = record { pair = record { first = 10; last = 10; distance = 0 }; back = 0 }

-- where the pair comes before an end, it stands in the whole
stands_before : (end : EndPair) (bytes : List ℕ) (k : ℕ) → k < length bytes → get_or bytes k 0 ≡ 10
    → IsBeforeEnd (take k bytes) end
    → PairIsAt end.pair bytes (k - end.back)
stands_before end bytes k inside is (few, stands) =
    let long : length (take k bytes) ≡ k = omega (arith, length-take k bytes, inside) in
    let rest : List ℕ = drop (k + 1) bytes in
    let cut : bytes ≡ [] ++ ((take k bytes ++ 10 ∷ []) ++ rest) =
    sym (take-append-drop k bytes) ∙ ap (λ z. take k bytes ++ z) (feed_here bytes k inside is)
    ∙ sym (append_assoc (take k bytes) (10 ∷ []) rest) in
    subst (PairIsAt end.pair bytes) (omega (arith, long))
    (stands_within end.pair bytes [] (take k bytes ++ 10 ∷ []) rest
    (length (take k bytes) - end.back) cut stands)

-- up to the next position where the pair is found
pub none_to : (end : EndPair) (needles : List NeedleView) (bytes : List ℕ) (at n : ℕ)
    → ComesBefore end needles → at ≤ length bytes
    → NoneEndsBefore needles bytes (at + end.back)
    → NoPairBefore end.pair (slice_range bytes at (length bytes)) n
    → NoneEndsBefore needles bytes (at + n + end.back)
none_to end needles bytes at n comes low before none k below is ends = elim (cases_lt k (at + end.back)) [
  | inl less ↦ before k less is ends
  | inr from ↦
      let i : ℕ = k - end.back - at in
      let same : at + i ≡ k - end.back = omega (arith, from) in
      let there : PairIsAt end.pair bytes (k - end.back) =
      stands_before end bytes k (feed_inside bytes k is) is (comes (take k bytes) ends) in
      none i (omega (arith, below, from)) (subst (λ b. PairIsAt end.pair b i) (sym (is_drop at bytes _ refl))
      (stands_in_rest end.pair bytes at i (subst (PairIsAt end.pair bytes) (sym same) there)))
]

-- at first
pub none_first : (end : EndPair) (needles : List NeedleView) (bytes : List ℕ) → ComesBefore end needles
    → NoneEndsBefore needles bytes (0 + end.back)
none_first end needles bytes comes k below is ends =
    let few = (comes (take k bytes) ends).0 in
    absurd (omega (arith, few, below, length-take k bytes))

-- and past it, if none of the needles ends there
pub none_past : (needles : List NeedleView) (bytes : List ℕ) (n m : ℕ) → m ≡ n + 1
    → NoneEndsBefore needles bytes n
    → (get_or bytes n 0 ≡ 10 → EndsWithOne needles (take n bytes) → ⊥) → NoneEndsBefore needles bytes m
none_past needles bytes n m next before not k below is ends = elim (cases_lt k n) [
  | inl less ↦ before k less is ends
  | inr from ↦
      let here : k ≡ n = omega (arith, from, below, next) in
      not (subst (λ j. get_or bytes j 0 ≡ 10) here is)
      (subst (λ j. EndsWithOne needles (take j bytes)) here ends)
]

-- bytes that end with a text that has the needle at its end, end with the needle
pub ends_with_bytes : (needle : NeedleView) (end bytes held : List ℕ) → IsUtf8 end → chars end ≡ held
    → (false, held) ≡ needle
    → EndsWith needle bytes → (w : List ℕ) × (bytes ≡ w ++ end)
ends_with_bytes needle end bytes held utf8 is_end is (x, y, e, valid, (u, v, f, same)) =
    let plain : v ≡ held = plain_text needle false held v is refl same in
    let within : y ≡ encode_utf8_all u ++ end =
    bytes_end y end u held valid utf8 is_end (f ∙ ap (λ z. u ++ z) plain) in
    (x ++ encode_utf8_all u, e ∙ ap (λ z. x ++ z) within ∙ sym (append_assoc x (encode_utf8_all u) end))

-- what comes before the end of a needle, comes before the end of all bytes that end with it
pub needle_comes : (end : EndPair) (needle : NeedleView) (text held : List ℕ) → IsUtf8 text
    → chars text ≡ held → (false, held) ≡ needle
    → IsBeforeEnd text end → ComesBefore end (needle ∷ [])
needle_comes end needle text held utf8 is_text is (few, stands) bytes
    (x, y, e, valid, (i, other, lt, same, at_end)) =
    let this : other ≡ needle = sym same ∙ only needle other i lt in
    let (w, cut) = ends_with_bytes needle text bytes held utf8 is_text is
    (x, y, e, valid, subst (λ n. ContainsAt End n (chars y)) this at_end) in
    let long : length bytes ≡ length w + length text = ap length cut ∙ length-append w text in (
      omega (arith, few, long),
      subst (PairIsAt end.pair (bytes ++ 10 ∷ [])) (omega (arith, long, few))
          (stands_within end.pair (bytes ++ 10 ∷ []) w (text ++ 10 ∷ []) [] (length text - end.back)
          (end_of_line bytes w text cut) stands),
    )

pub needle_comes_if : (known : Option EndPair) (needle : NeedleView) (text held : List ℕ) → IsUtf8 text
    → chars text ≡ held → (false, held) ≡ needle
    → IfSome known (IsBeforeEnd text) → IfSome known (λ end. ComesBefore end (needle ∷ []))
needle_comes_if None needle text held utf8 is_text is h = h
needle_comes_if (Some end) needle text held utf8 is_text is h =
    needle_comes end needle text held utf8 is_text is h

-- a line that ends with one of the needles ends after the position before which none does
pub line_ends_after : (needles : List NeedleView) (text x y z : List ℕ) (n : ℕ)
    → text ++ 10 ∷ [] ≡ x ++ (y ++ 10 ∷ z) → n ≤ length text
    → NoneEndsBefore needles text n → IsUtf8 y → ContainsOne End needles (chars y) → n ≤ length (x ++ y)
line_ends_after needles text x y z n e inside none utf8 holds =
    let k : ℕ = length (x ++ y) in
    let whole : text ++ 10 ∷ [] ≡ (x ++ y) ++ 10 ∷ z = e ∙ sym (append_assoc x y (10 ∷ z)) in
    elim (cases_lt k n) [
      | inr from ↦ from
      | inl below ↦
          let room : k ≤ length text = omega (arith, below, inside) in
          let feed_at : get_or text k 0 ≡ 10 =
          sym (get_or_append_left text (10 ∷ []) 0 k (omega (arith, below, inside)))
          ∙ ap (λ b. get_or b k 0) whole ∙ ap (λ j. get_or ((x ++ y) ++ 10 ∷ z) j 0) (omega arith)
          ∙ get_or-append-add (x ++ y) (10 ∷ z) 0 0 in
          let front : take k text ≡ x ++ y =
          sym (take-append-le k text (10 ∷ []) room) ∙ ap (take k) whole
          ∙ take-append_seam (x ++ y) (10 ∷ z) in
          absurd (none k below feed_at (x, y, front, utf8, holds))
    ]
