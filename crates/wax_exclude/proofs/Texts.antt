-- Names as bytes and as characters.
use Rattle.std.proofs.Common.{◌≡◌, ◌+◌, ℕ, suc, Bool, true, false, List, [], ◌∷◌, ◌++◌, map, length, get_or}
use Rattle.std.proofs.Common.{refl, sym, ap, subst, ◌∙◌, arith, length-append, append-nil, drop, inl, inr}
use Rattle.std.proofs.{Common.{chars, encode_utf8_all}, Math.Seq.take-append_seam}
use Rattle.std.proofs.lemmas.Str.{chars-append, encodes-chars, encodes-append, chars-nil, IsUtf8-append}
use Rattle.std.proofs.lemmas.Str.{IsUtf8-nil, IsUtf8-take, IsUtf8-drop, IsCharBoundary-before_ascii}
use Rattle.std.proofs.lemmas.Str.{IsCharBoundary-after_ascii}
use Rattle.std.specs.Str.{IsUtf8}
use Rattle.wax_query.specs.Below.{slashed}
use Rattle.wax_exclude.specs.{Candidates.text_at, Prefix.{HasEmptyName, SplitsInto}}
use Rattle.wax_exclude.proofs.Names.{AreTexts, chars_slash, texts_joined}

slash_text : IsUtf8 (47 ∷ [])
unfolding lib.Utf8.encode
slash_text = (47 ∷ [], (refl, refl))

slash_bytes : encode_utf8_all (47 ∷ []) ≡ 47 ∷ []
unfolding lib.Utf8.encode
slash_bytes = refl

slash_chars : chars (47 ∷ []) ≡ 47 ∷ []
slash_chars = chars_slash [] ∙ ap (λ v. 47 ∷ v) chars-nil

slashed_text : (names : List (List ℕ)) → AreTexts names → IsUtf8 (slashed names)
slashed_text [] h = IsUtf8-nil
slashed_text (n ∷ names) h = IsUtf8-append (47 ∷ []) (n ++ slashed names) slash_text
    (IsUtf8-append n (slashed names) h.0 (slashed_text names h.1))

joined_text : (rooted : Bool) (names : List (List ℕ)) → AreTexts names → IsUtf8 (text_at rooted names)
joined_text false [] h = IsUtf8-nil
joined_text true [] h = slash_text
joined_text false (n ∷ names) h = IsUtf8-append n (slashed names) h.0 (slashed_text names h.1)
joined_text true (n ∷ names) h = slashed_text (n ∷ names) h

-- with a `/` at the end
pub chars_ended : (rooted : Bool) (names : List (List ℕ)) → AreTexts names
    → chars (text_at rooted names ++ 47 ∷ []) ≡ text_at rooted (map chars names) ++ 47 ∷ []
chars_ended rooted names h =
    chars-append (text_at rooted names) (47 ∷ []) (joined_text rooted names h)
    ∙ ap (λ v. v ++ chars (47 ∷ [])) (texts_joined rooted names h)
    ∙ ap (λ v. text_at rooted (map chars names) ++ v) slash_chars

-- two `/` side by side
front_text : (x y : List ℕ) → IsUtf8 (x ++ 47 ∷ y) → IsUtf8 x
front_text x y u =
    let at : get_or (x ++ 47 ∷ y) (length x) 0 ≡ 47 = here x in
    let n : length (x ++ 47 ∷ y) ≡ length x + suc (length y) = length-append x (47 ∷ y) in
    subst IsUtf8 (take-append_seam x (47 ∷ y)) (IsUtf8-take (x ++ 47 ∷ y) (length x) u
    (IsCharBoundary-before_ascii (x ++ 47 ∷ y) (length x) (omega (arith, n)) (omega (arith, at))))
  where
    here : (x : List ℕ) → get_or (x ++ 47 ∷ y) (length x) 0 ≡ 47
    here [] = refl
    here (c ∷ x) = here x

back_text : (x y : List ℕ) → IsUtf8 (x ++ 47 ∷ y) → IsUtf8 y
back_text x y u =
    let at : get_or (x ++ 47 ∷ y) (length x) 0 ≡ 47 = here x in
    let n : length (x ++ 47 ∷ y) ≡ length x + suc (length y) = length-append x (47 ∷ y) in
    let past : length x + 1 ≡ suc (length x) = omega arith in
    let k : IsUtf8 (drop (length x + 1) (x ++ 47 ∷ y)) =
    IsUtf8-drop (x ++ 47 ∷ y) (length x + 1) u
    (IsCharBoundary-after_ascii (x ++ 47 ∷ y) (length x) u (omega (arith, n)) (omega (arith, at))) in
    subst IsUtf8 (ap (λ z. drop z (x ++ 47 ∷ y)) past ∙ later x) k
  where
    here : (x : List ℕ) → get_or (x ++ 47 ∷ y) (length x) 0 ≡ 47
    here [] = refl
    here (c ∷ x) = here x

    later : (x : List ℕ) → drop (suc (length x)) (x ++ 47 ∷ y) ≡ y
    later [] = refl
    later (c ∷ x) = later x

-- the names of a text are texts
slashed_texts : (names : List (List ℕ)) → IsUtf8 (slashed names) → AreTexts names
slashed_texts [] u = tt
slashed_texts (n ∷ []) u = (subst IsUtf8 (append-nil n) (back_text [] (n ++ []) u), tt)
slashed_texts (n ∷ m ∷ names) u =
    let v : IsUtf8 (n ++ 47 ∷ (m ++ slashed names)) = back_text [] (n ++ slashed (m ∷ names)) u in (
      front_text n (m ++ slashed names) v,
      slashed_texts (m ∷ names)
          (IsUtf8-append (47 ∷ []) (m ++ slashed names) slash_text (back_text n (m ++ slashed names) v)),
    )

joined_texts : (rooted : Bool) (names : List (List ℕ)) → IsUtf8 (text_at rooted names) → AreTexts names
joined_texts rooted [] u = tt
joined_texts false (n ∷ names) u =
    slashed_texts (n ∷ names) (IsUtf8-append (47 ∷ []) (n ++ slashed names) slash_text u)
joined_texts true (n ∷ names) u = slashed_texts (n ∷ names) u

pub split_texts : (text : List ℕ) (rooted : Bool) (names : List (List ℕ)) → IsUtf8 text
    → SplitsInto text rooted names → AreTexts names
split_texts text rooted names u h = elim h.whole [
  | inl e ↦ joined_texts rooted names (subst IsUtf8 e u)
  | inr e ↦ joined_texts rooted names (front_text (text_at rooted names) [] (subst IsUtf8 e.1 u))
]

pub empty_chars : (p : List ℕ) → IsUtf8 p → HasEmptyName p → HasEmptyName (chars p)
empty_chars p u h =
    let v : IsUtf8 (h.0 ++ 47 ∷ 47 ∷ h.1) = subst IsUtf8 h.2 u in (
      chars h.0,
      chars h.1,
      ap chars h.2 ∙ chars-append h.0 (47 ∷ 47 ∷ h.1) (front_text h.0 (47 ∷ h.1) v)
          ∙ ap (λ w. chars h.0 ++ w) (chars_slash (47 ∷ h.1) ∙ ap (λ w. 47 ∷ w) (chars_slash h.1)),
    )

pub empty_bytes : (p : List ℕ) → IsUtf8 p → HasEmptyName (chars p) → HasEmptyName p
empty_bytes p u h = (
  encode_utf8_all h.0,
  encode_utf8_all h.1,
  sym (encodes-chars p u) ∙ ap encode_utf8_all h.2 ∙ encodes-append h.0 (47 ∷ 47 ∷ h.1)
      ∙ ap (λ v. encode_utf8_all h.0 ++ v) (encodes-append (47 ∷ []) (47 ∷ h.1)
      ∙ ap (λ v. v ++ encode_utf8_all (47 ∷ h.1)) slash_bytes
      ∙ ap (λ v. 47 ∷ v) (encodes-append (47 ∷ []) h.1 ∙ ap (λ v. v ++ encode_utf8_all h.1) slash_bytes)),
)
