-- How the texts begin and end that tokens match.
use Rattle.std.proofs.Common.{◌≡◌, ◌<◌, ◌≤◌, ◌+◌, ◌-◌, ◌++◌, ◌∷◌, ◌∙◌, ◌⊎◌, ℕ, Bool, true, false, List, []}
use Rattle.std.proofs.Common.{Some, String, ap, append-nil, append_assoc, chars, drop, encode_utf8_all}
use Rattle.std.proofs.Common.{get_or, inl, inr, length, refl, slice_get, string_bytes, subst, sym, true≢false}
use Rattle.std.proofs.{Common.{◌==◌, IsUtf8}, lemmas.Str.{chars-append, chars-nil}}
use Rattle.std.specs.declared.alloc.Global.{Global}
use Rattle.wax_prefilter.proofs.Holding.{any_alone, any_left, any_right}
use Rattle.wax_prefilter.proofs.MeantEdges.{bytes_begin, bytes_end, drop_here, last_meant, next_branch}
use Rattle.wax_prefilter.proofs.{MeantEdges.no_branch, Members.means_members}
use Rattle.wax_token.specs.{Meaning.{Means, MeansEach, MeansSome}, Reads.Span, Syntax.Tree}
use Rattle.wax_token.specs.Words.{members, trees}
use Rattle.wax_set.specs.inner.Edges.{AreEnds, HasBeginning, HasEnd, HasOneEnd}

-- the token matches only this text
abbrev pub MeansOnly : Tree Span → List ℕ → Type 0
MeansOnly t only = (before after : Bool) (s : List ℕ) → Means t before after s → s ≡ only

-- ---- beginnings

-- what the tokens match begins with the only text of the first, and the others match the rest
one_passed : (t : Tree Span) (ts : List (Tree Span)) (only : List ℕ) → MeansOnly t only
    → (before after : Bool) (s : List ℕ) → MeansEach (trees (t ∷ ts)) before after s
    → (rest : List ℕ) × (s ≡ only ++ rest) × (b : Bool) × MeansEach (trees ts) b after rest
one_passed t [] only is before after s m = ([], is before after s m ∙ sym (append-nil only), before, refl)
one_passed t (u ∷ ts) only is before after s m =
    (m.1, m.2 ∙ ap (λ x. x ++ m.1) (is before true m.0 m.3), true, m.4)

-- what the tokens match begins with these characters, and the tokens from this index on match the rest
abbrev pub HaveBegun : List (Tree Span) → ℕ → List ℕ → Type 0
HaveBegun ts i beginning = (text : List ℕ) → MeansEach (trees ts) false false text
    → (rest : List ℕ) × (text ≡ beginning ++ rest) × (b : Bool) × MeansEach (trees (drop i ts)) b false rest

pub begun_none : (ts : List (Tree Span)) (bytes : List ℕ) → bytes ≡ [] → HaveBegun ts 0 (chars bytes)
begun_none ts bytes e text m = (text, ap (λ s. s ++ text) (sym (ap chars e ∙ chars-nil)), false, m)

pub begun_more : (ts : List (Tree Span)) (i : ℕ) (t : Tree Span) (old new only : List ℕ) → i < length ts
    → t ≡ get_or ts i t → MeansOnly t only → new ≡ old ++ only → HaveBegun ts i old
    → HaveBegun ts (i + 1) new
begun_more ts i t old new only lt is one grown begun text m =
    let (rest, cut, b, left) = begun text m in
    let (more, split, d, others) = one_passed t (drop (i + 1) ts) only one b false rest
    (subst (λ us. MeansEach (trees us) b false rest) (drop_here ts i t lt is) left) in (
      more,
      cut ∙ ap (λ s. old ++ s) split ∙ sym (append_assoc old only more) ∙ ap (λ s. s ++ more) (sym grown),
      d,
      others,
    )

pub begun_text : (ts : List (Tree Span)) (i : ℕ) (beginning text : List ℕ) → HaveBegun ts i beginning
    → MeansEach (trees ts) false false text → HasBeginning beginning text
begun_text ts i beginning text begun m = let (rest, cut, _, _) = begun text m in (rest, cut)

-- the characters of a text to which another one was added
pub chars_added : (old new more : List ℕ) → IsUtf8 old → new ≡ old ++ more
    → chars new ≡ chars old ++ chars more
chars_added old new more utf8 grown = ap chars grown ∙ chars-append old more utf8

-- of two beginnings of a text, one begins with the other
one_begins : (x y r s : List ℕ) → x ++ r ≡ y ++ s
    → ((z : List ℕ) × (x ≡ y ++ z)) ⊎ ((z : List ℕ) × (y ≡ x ++ z))
one_begins [] y r s e = inr (y, refl)
one_begins (c ∷ x) [] r s e = inl (c ∷ x, refl)
one_begins (c ∷ x) (d ∷ y) r s e =
    let head : c ≡ d = cc in
    let tail : x ++ r ≡ y ++ s = cc in
    elim (one_begins x y r s tail) [
      | inl (z, f) ↦ inl (z, (λ i. head i ∷ f i))
      | inr (z, f) ↦ inr (z, (λ i. sym head i ∷ f i))
    ]

-- the same of the bytes of two texts
pub bytes_begin_so : (first second text : List ℕ) → IsUtf8 first → IsUtf8 second
    → HasBeginning (chars first) text → HasBeginning (chars second) text
    → ((rest : List ℕ) × (first ≡ second ++ rest)) ⊎ ((rest : List ℕ) × (second ≡ first ++ rest))
bytes_begin_so first second text u v (r, e) (s, f) =
    elim (one_begins (chars first) (chars second) r s (sym e ∙ f)) [
      | inl (z, g) ↦ inl (encode_utf8_all z, bytes_begin first second z (chars second) u v refl g)
      | inr (z, g) ↦ inr (encode_utf8_all z, bytes_begin second first z (chars first) v u refl g)
    ]

-- ---- ends

-- of two ends of a text, one ends with the other
one_ends : (x y r s : List ℕ) → r ++ x ≡ s ++ y
    → ((z : List ℕ) × (x ≡ z ++ y)) ⊎ ((z : List ℕ) × (y ≡ z ++ x))
one_ends x y [] s e = inl (s, e)
one_ends x y (c ∷ r) [] e = inr (c ∷ r, sym e)
one_ends x y (c ∷ r) (d ∷ s) e = let tail : r ++ x ≡ s ++ y = cc in one_ends x y r s tail

pub bytes_end_so : (first second text : List ℕ) → IsUtf8 first → IsUtf8 second
    → HasEnd (chars first) text → HasEnd (chars second) text
    → ((front : List ℕ) × (first ≡ front ++ second)) ⊎ ((front : List ℕ) × (second ≡ front ++ first))
bytes_end_so first second text u v (r, e) (s, f) =
    elim (one_ends (chars first) (chars second) r s (sym e ∙ f)) [
      | inl (z, g) ↦ inl (encode_utf8_all z, bytes_end first second z (chars second) u v refl g)
      | inr (z, g) ↦ inr (encode_utf8_all z, bytes_end second first z (chars first) v u refl g)
    ]

-- what ends a later part of a text ends the text
end_later : (end text x y : List ℕ) → text ≡ x ++ y → HasEnd end y → HasEnd end text
end_later end text x y e (front, f) = (x ++ front, e ∙ ap (λ s. x ++ s) f ∙ sym (append_assoc x front end))

ends_later : (ends : List (String Global)) (text x y : List ℕ) → text ≡ x ++ y → AreEnds ends y
    → AreEnds ends text
ends_later ends text x y e (inl none) = inl none
ends_later ends text x y e (inr (k, end, lt, at, has)) =
    inr (k, end, lt, at, end_later (chars (string_bytes end)) text x y e has)

-- the ends of the last token are those of the tokens
pub last_ends : (ts : List (Tree Span)) (t : Tree Span) (ends : List (String Global))
    → slice_get ts (length ts - 1) ≡ Some t
    → ((before after : Bool) (s : List ℕ) → Means t before after s → AreEnds ends s)
    → (text : List ℕ) → MeansEach (trees ts) false false text → AreEnds ends text
last_ends ts t ends is known text m =
    let (b, a, x, y, cut, meant) = last_meant ts t is false false text m in
    ends_later ends text x y cut (known b a y meant)

-- the only text of the last member of a token ends what the token matches
pub last_only : (whole : Tree Span) (ts : List (Tree Span)) (t : Tree Span) (only : List ℕ)
    → trees ts ≡ members whole → slice_get ts (length ts - 1) ≡ Some t → MeansOnly t only
    → (before after : Bool) (text : List ℕ) → Means whole before after text → HasEnd only text
last_only whole ts t only parts is one before after text m =
    let each : MeansEach (trees ts) before after text = subst (λ us. MeansEach us before after text)
    (sym parts) ((means_members whole before after text).1 m) in
    let (b, a, x, y, cut, meant) = last_meant ts t is before after text each in
    (x, cut ∙ ap (λ s. x ++ s) (one b a y meant))

-- what one of the tokens matches ends with one of these, or a token from this index on matches it
abbrev pub HaveEnds : List (Tree Span) → ℕ → List (String Global) → Type 0
HaveEnds ts i ends = (before after : Bool) (text : List ℕ) → MeansSome (trees ts) before after text
    → HasOneEnd ends text ⊎ MeansSome (trees (drop i ts)) before after text

pub ends_more : (ts : List (Tree Span)) (i : ℕ) (t : Tree Span) (old new : List (String Global))
    (end : String Global) → i < length ts → t ≡ get_or ts i t
    → ((before after : Bool) (text : List ℕ) → Means t before after text
    → HasEnd (chars (string_bytes end)) text) → new ≡ old ++ end ∷ [] → HaveEnds ts i old
    → HaveEnds ts (i + 1) new
ends_more ts i t old new end lt is known grown have before after text m =
    let Has : String Global → Type 0 = λ e. HasEnd (chars (string_bytes e)) text in
    elim (have before after text m) [
      | inl found ↦ inl (subst (λ es. HasOneEnd es text) (sym grown) (any_left Has old (end ∷ []) found))
      | inr later ↦ elim (next_branch ts i t lt is before after text later) [
        | inl meant ↦ inl (subst (λ es. HasOneEnd es text) (sym grown)
            (any_right Has old (end ∷ []) (any_alone Has end (known before after text meant))))
        | inr rest ↦ inr rest
      ]
    ]

pub ends_all : (ts : List (Tree Span)) (i : ℕ) (ends : List (String Global)) → length ts ≤ i
    → HaveEnds ts i ends
    → (before after : Bool) (text : List ℕ) → MeansSome (trees ts) before after text → AreEnds ends text
ends_all ts i ends past have before after text m = elim (have before after text m) [
  | inl found ↦ inr found
  | inr rest ↦ absurd (no_branch ts i past before after text rest)
]

-- ends that are known
pub known_ends : (ends : List (String Global)) (text : List ℕ) (is_empty : Bool)
    → is_empty ≡ (length ends == 0) → is_empty ≡ false → AreEnds ends text → HasOneEnd ends text
known_ends ends text is_empty is some (inl none) =
    absurd (true≢false (sym (is ∙ ap (λ es. length es == 0) none) ∙ some))
known_ends ends text is_empty is some (inr has) = has
