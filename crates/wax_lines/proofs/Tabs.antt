-- Texts with a tab between, one after another.
use Rattle.std.proofs.Common.{◌≡◌, ◌≤◌, ℕ, zero, suc, ◌+◌, List, [], ◌∷◌, ◌++◌, Some, slice_get, take, map}
use Rattle.std.proofs.Common.{length, IsUtf8, chars, encode_utf8_all, refl, sym, ◌∙◌, ap, append_assoc}
use Rattle.std.proofs.{Common.{length-append, arith}, lemmas.List.{take_more, map-append}}
use Rattle.std.proofs.{lemmas.Option.{slice_get_within, get_or_from_slice_get}, lemmas.Str.encodes-chars}
use Rattle.std.specs.List.{join_with_byte}
use Rattle.wax_query.specs.Matched.{MatchedView, texts}
use Rattle.wax_lines.specs.Lines.{tabbed}

-- the bytes of a text are its encoding
pub encoded : (text bytes : List ℕ) → chars bytes ≡ text → IsUtf8 bytes → bytes ≡ encode_utf8_all text
encoded text bytes e utf8 = sym (encodes-chars bytes utf8) ∙ ap encode_utf8_all e

-- one more piece
joined_more : (c : ℕ) (x : List ℕ) (xs : List (List ℕ)) (y : List ℕ)
    → join_with_byte c ((x ∷ xs) ++ y ∷ []) ≡ join_with_byte c (x ∷ xs) ++ c ∷ y
joined_more c x [] y = refl
joined_more c x (z ∷ zs) y =
    ap (λ w. x ++ c ∷ w) (joined_more c z zs y) ∙ sym (append_assoc x (c ∷ join_with_byte c (z ∷ zs)) (c ∷ y))

tabbed_more : (x : List ℕ) (xs : List (List ℕ)) (y : List ℕ)
    → tabbed ((x ∷ xs) ++ y ∷ []) ≡ tabbed (x ∷ xs) ++ 9 ∷ encode_utf8_all y
tabbed_more x xs y =
    ap (join_with_byte 9) (map-append encode_utf8_all (x ∷ xs) (y ∷ []))
    ∙ joined_more 9 (encode_utf8_all x) (map encode_utf8_all xs) (encode_utf8_all y)

take_one_more : (xs : List (List ℕ)) (k : ℕ) (x : List ℕ) → slice_get xs k ≡ Some x
    → take (k + 1) xs ≡ take k xs ++ x ∷ []
take_one_more xs k x e =
    take_more xs k x (slice_get_within xs k x e)
    ∙ ap (λ z. take k xs ++ z ∷ []) (get_or_from_slice_get xs k x x e)

-- the next capture
pub tabbed_next : (m : MatchedView) (k : ℕ) (part : List ℕ) → 1 ≤ k → slice_get (texts m) k ≡ Some part
    → tabbed (take (k + 1) (texts m)) ≡ tabbed (take k (texts m)) ++ 9 ∷ encode_utf8_all part
tabbed_next m zero part some e = absurd (omega (arith, some))
tabbed_next m (suc k) part some e =
    ap tabbed (take_one_more (texts m) (suc k) part e) ∙ tabbed_more m.text (take k m.captures) part

-- a tab and a capture were added
pub added_next : (old out mid new before part : List ℕ) → out ≡ old ++ before
    → mid ≡ out ++ 9 ∷ [] → new ≡ mid ++ part
    → new ≡ old ++ (before ++ 9 ∷ part)
added_next old out mid new before part e f g =
    g ∙ ap (λ z. z ++ part) (f ∙ ap (λ z. z ++ 9 ∷ []) e) ∙ simp append_assoc

-- each capture makes the output longer
pub longer_next : (out mid new part : List ℕ) (k : ℕ) → k ≤ length out + 1
    → mid ≡ out ++ 9 ∷ [] → new ≡ mid ++ part
    → k + 1 ≤ length new + 1
longer_next out mid new part k h f g =
    omega (arith, h, ap length f, length-append out (9 ∷ []), ap length g, length-append mid part)
