-- Whole lines for which nothing is written.
use Rattle.std.proofs.Common.{◌≡◌, ◌≢◌, ◌<◌, ◌≤◌, ℕ, suc, ◌+◌, ◌-◌, List, [], ◌∷◌, ◌++◌, All, IsUtf8, length}
use Rattle.std.proofs.Common.{take, drop, get_or, refl, sym, ◌∙◌, ap, subst, inl, inr, append_assoc}
use Rattle.std.proofs.{Common.{append-nil, length-append, arith}, lemmas.Bool.cases_lt}
use Rattle.std.proofs.lemmas.Bool.Decides.{eqb_tells}
use Rattle.std.proofs.lemmas.List.{get_or-take, get_or-append-add, length-take, take-append-le, take_all}
use Rattle.std.proofs.{lemmas.List.take_more, lemmas.List.Elements.{All-nil, All-cons, All-head, All-tail}}
use Rattle.std.proofs.lemmas.Str.{IsCharBoundary-before_ascii, IsCharBoundary-after_ascii, IsUtf8-take}
use Rattle.std.proofs.lemmas.Str.{IsUtf8-drop}
use Rattle.std.specs.Str.{IsCharBoundary}
use Rattle.wax_lines.specs.{Lines.WritesNothingBefore, inner.Progress.{GivesNothing, TakesIn}}
use Rattle.wax_lines.specs.inner.Sifted.{EndsLines, HasNoNewline, IsAfterFeed, lines_text}
use Rattle.wax_lines.proofs.Sifting.{TakesIn-none, TakesIn-then, TakesIn-text}

-- ---- a place after a line feed

pub after_within : (bytes : List ℕ) (m at : ℕ) → IsAfterFeed at (take m bytes) → IsAfterFeed at bytes
after_within bytes m at (within, is_feed) = (
  omega (arith, within, length-take m bytes),
  λ some. sym (get_or-take m bytes (at - 1) 0 (omega (arith, within, some, length-take m bytes)))
      ∙ is_feed some,
)

pub boundary_after : (bytes : List ℕ) (at : ℕ) → IsUtf8 bytes → IsAfterFeed at bytes → 0 < at
    → IsCharBoundary bytes at
boundary_after bytes at utf8 (within, is_feed) some =
    subst (IsCharBoundary bytes) (omega (arith, some))
    (IsCharBoundary-after_ascii bytes (at - 1) utf8 (omega (arith, within, some))
    (omega (arith, is_feed some)))

pub ends_lines : (bytes : List ℕ) (at : ℕ) → IsAfterFeed at bytes → EndsLines (take at bytes)
ends_lines bytes at (within, is_feed) = elim (cases_lt 0 at) [
  | inl some ↦
      let more : at - 1 + 1 ≡ at = omega (arith, some) in
      inr (
        take (at - 1) bytes,
        ap (λ n. take n bytes) (sym more) ∙ take_more bytes (at - 1) 0 (omega (arith, within, some))
            ∙ ap (λ b. take (at - 1) bytes ++ b ∷ []) (is_feed some),
      )
  | inr none ↦
      let nothing : at ≡ 0 = omega (arith, none) in
      inl (ap (λ n. take n bytes) nothing)
]

pub utf8_before : (bytes : List ℕ) (at : ℕ) → IsUtf8 bytes → IsAfterFeed at bytes → IsUtf8 (take at bytes)
utf8_before bytes at utf8 after = elim (cases_lt 0 at) [
  | inl some ↦ IsUtf8-take bytes at utf8 (boundary_after bytes at utf8 after some)
  | inr none ↦
      let nothing : at ≡ 0 = omega (arith, none) in
      subst (λ n. IsUtf8 (take n bytes)) (sym nothing) ([], (refl, refl))
]

-- ---- bytes that end with a line feed are lines

abbrev AreLines : List ℕ → List (List ℕ) → Type 0
AreLines bytes lines = (bytes ≡ lines_text lines) × All HasNoNewline lines

longer : (b : ℕ) (bytes : List ℕ) (lines : List (List ℕ)) → b ≢ 10 → AreLines (bytes ++ 10 ∷ []) lines
    → (more : List (List ℕ)) × AreLines (b ∷ (bytes ++ 10 ∷ [])) more
longer b [] [] other (e, h) = cc
longer b (c ∷ bytes) [] other (e, h) = cc
longer b bytes (line ∷ lines) other (e, h) = (
  (b ∷ line) ∷ lines,
  (
    ap (λ z. b ∷ z) e,
    All-cons HasNoNewline (b ∷ line) lines (All-cons (λ x. x ≢ 10) b line other
        (All-head HasNoNewline line lines h)) (All-tail HasNoNewline line lines h),
  ),
)

cut_lines : (bytes : List ℕ) → (lines : List (List ℕ)) × AreLines (bytes ++ 10 ∷ []) lines
cut_lines [] = ([] ∷ [], (refl, All-cons HasNoNewline [] [] (All-nil (λ x. x ≢ 10)) (All-nil HasNoNewline)))
cut_lines (b ∷ bytes) =
    let (lines, (e, h)) = cut_lines bytes in
    elim (eqb_tells b 10) [
      | inl feed ↦
          ([] ∷ lines, ((λ i. feed.1 i ∷ e i), All-cons HasNoNewline [] lines (All-nil (λ x. x ≢ 10)) h))
      | inr other ↦ longer b bytes lines other.1 (e, h)
    ]

are_lines : (bytes : List ℕ) → EndsLines bytes → (lines : List (List ℕ)) × AreLines bytes lines
are_lines bytes (inl none) = ([], (none, All-nil HasNoNewline))
are_lines bytes (inr (front, e)) =
    let (lines, (same, h)) = cut_lines front in
    (lines, (e ∙ same, h))

-- ---- text is cut at its line feeds

drop_past : (front : List ℕ) (b : ℕ) (rest : List ℕ) → drop (suc (length front)) (front ++ b ∷ rest) ≡ rest
drop_past [] b rest = refl
drop_past (c ∷ front) b rest = drop_past front b rest

utf8_parts : (line rest : List ℕ) → IsUtf8 (line ++ 10 ∷ rest) → IsUtf8 line × IsUtf8 rest
utf8_parts line rest utf8 =
    let bytes = line ++ 10 ∷ rest in
    let next : length line + 1 ≡ suc (length line) = omega arith in
    let long : length line < length bytes = omega (arith, length-append line (10 ∷ rest)) in
    let here : length line ≡ length line + 0 = omega arith in
    let feed : get_or bytes (length line) 0 ≡ 10 =
    ap (λ n. get_or bytes n 0) here ∙ get_or-append-add line (10 ∷ rest) 0 0 in (
      subst IsUtf8 (take-append-le (length line) line (10 ∷ rest) (omega arith)
          ∙ take_all (length line) line (omega arith))
          (IsUtf8-take bytes (length line) utf8
          (IsCharBoundary-before_ascii bytes (length line) long (omega (arith, feed)))),
      subst IsUtf8 (ap (λ n. drop n bytes) next ∙ drop_past line 10 rest)
          (IsUtf8-drop bytes (length line + 1) utf8
          (IsCharBoundary-after_ascii bytes (length line) utf8 long (omega (arith, feed)))),
    )

-- ---- lines for which nothing is written

module _ (Writes : List ℕ → List ℕ → Type 0) where
  line_gives_nothing : (line rest : List ℕ) (n : ℕ) → HasNoNewline line → IsUtf8 line
      → WritesNothingBefore Writes (line ++ 10 ∷ rest) n
      → length line < n → GivesNothing Writes (line ++ 10 ∷ [])
  line_gives_nothing line rest n h utf8 none lt sieve empty =
      TakesIn-text Writes sieve sieve line [] empty h utf8
      (none [] line (rest ++ 10 ∷ []) (append_assoc line (10 ∷ rest) (10 ∷ [])) utf8 lt)
      empty (sym (append-nil sieve.kept.bytes.items)) refl

  -- what is passed over after a line
  passes_on : (line rest : List ℕ) (n : ℕ) → WritesNothingBefore Writes (line ++ 10 ∷ rest) n
      → WritesNothingBefore Writes rest (n - (length line + 1))
  passes_on line rest n none x y z e utf8 lt =
      none (line ++ 10 ∷ x) y z (append_assoc line (10 ∷ rest) (10 ∷ []) ∙ ap (λ w. line ++ 10 ∷ w) e
      ∙ sym (append_assoc line (10 ∷ x) (y ++ 10 ∷ z))) utf8
      (omega (arith, lt, ap length (append_assoc line (10 ∷ x) y), length-append line (10 ∷ (x ++ y))))

  lines_give_nothing : (lines : List (List ℕ)) (rest : List ℕ) (n : ℕ) → All HasNoNewline lines
      → IsUtf8 (lines_text lines)
      → WritesNothingBefore Writes (lines_text lines ++ rest) n → length (lines_text lines) ≤ n
      → GivesNothing Writes (lines_text lines)
  lines_give_nothing [] rest n h utf8 none le sieve empty = TakesIn-none Writes sieve sieve refl refl refl
  lines_give_nothing (line ∷ lines) rest n h utf8 none le sieve empty =
      let (utf8_line, utf8_lines) = utf8_parts line (lines_text lines) utf8 in
      let long = length-append line (10 ∷ lines_text lines) in
      let apart : WritesNothingBefore Writes (line ++ 10 ∷ (lines_text lines ++ rest)) n =
      subst (λ s. WritesNothingBefore Writes s n) (append_assoc line (10 ∷ lines_text lines) rest) none in
      subst (λ s. TakesIn Writes s sieve sieve) (append_assoc line (10 ∷ []) (lines_text lines))
      (TakesIn-then Writes sieve sieve sieve (line ++ 10 ∷ []) (lines_text lines)
      (line_gives_nothing line (lines_text lines ++ rest) n (All-head HasNoNewline line lines h) utf8_line
      apart (omega (arith, le, long)) sieve empty)
      (lines_give_nothing lines rest (n - (length line + 1)) (All-tail HasNoNewline line lines h) utf8_lines
      (passes_on line (lines_text lines ++ rest) n apart) (omega (arith, le, long)) sieve empty))

  pub gives_nothing : (front rest : List ℕ) (n : ℕ) → EndsLines front → IsUtf8 front
      → WritesNothingBefore Writes (front ++ rest) n
      → length front ≤ n → GivesNothing Writes front
  gives_nothing front rest n ends utf8 none le =
      let (lines, (e, h)) = are_lines front ends in
      subst (GivesNothing Writes) (sym e) (lines_give_nothing lines rest n h (subst IsUtf8 e utf8)
      (subst (λ s. WritesNothingBefore Writes (s ++ rest) n) e none) (omega (arith, le, ap length e)))
