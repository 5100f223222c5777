-- How an input falls into lines.
use Rattle.std.proofs.Common.{◌≡◌, ◌≢◌, ℕ, ◌+◌, false, List, [], ◌∷◌, ◌++◌, ◌==◌, if◌then◌else◌, All, refl}
use Rattle.std.proofs.Common.{sym, ◌∙◌, ap, inl, inr, append_assoc, append-nil, arith, ◌<◌, ◌≤◌, length}
use Rattle.std.proofs.{Common.{get_or, take, drop, length-take, true≢false}, lemmas.Bool.Decides.eqb_tells}
use Rattle.std.proofs.{lemmas.List.get_or-take, lemmas.List.Elements.{All-from_get_or, All-head, All-tail}}
use Rattle.std.proofs.lemmas.List.Sums.{fails_before_first, split_at_first}
use Rattle.std.specs.List.{position_or_len, before_first, after_first}
use Rattle.wax_lines.specs.Lines.{onto_lines, lines, onto_whole, whole_lines, Gives, Filters}
use Rattle.wax_lines.specs.inner.Sifted.{HasNoNewline, is_feed, lines_text}
use Rattle.wax_lines.proofs.Feeds.{byte_at_feed}

is_no_feed : (b : ℕ) → b ≢ 10 → (b == 10) ≡ false
is_no_feed b h = elim (eqb_tells b 10) [ inl e ↦ absurd (h e.1) | inr e ↦ e.0 ]

lines-more : (b : ℕ) (bs : List ℕ) → b ≢ 10 → lines (b ∷ bs) ≡ onto_lines b (lines bs)
lines-more b bs h = ap (λ t. if t then [] ∷ lines bs else onto_lines b (lines bs)) (is_no_feed b h)

whole_lines-more : (b : ℕ) (bs : List ℕ) → b ≢ 10 → whole_lines (b ∷ bs) ≡ onto_whole b (whole_lines bs)
whole_lines-more b bs h =
    ap (λ t. if t then [] ∷ whole_lines bs else onto_whole b (whole_lines bs)) (is_no_feed b h)

lines_line : (line tail : List ℕ) → HasNoNewline line → lines (line ++ 10 ∷ tail) ≡ line ∷ lines tail
lines_line [] tail h = refl
lines_line (b ∷ line) tail h =
    lines-more b (line ++ 10 ∷ tail) (All-head (λ x. x ≢ 10) b line h)
    ∙ ap (onto_lines b) (lines_line line tail (All-tail (λ x. x ≢ 10) b line h))

whole_lines_line : (line tail : List ℕ) → HasNoNewline line
    → whole_lines (line ++ 10 ∷ tail) ≡ line ∷ whole_lines tail
whole_lines_line [] tail h = refl
whole_lines_line (b ∷ line) tail h =
    whole_lines-more b (line ++ 10 ∷ tail) (All-head (λ x. x ≢ 10) b line h)
    ∙ ap (onto_whole b) (whole_lines_line line tail (All-tail (λ x. x ≢ 10) b line h))

-- a last line without its end
pub lines_open : (b : ℕ) (bs : List ℕ) → HasNoNewline (b ∷ bs) → lines (b ∷ bs) ≡ (b ∷ bs) ∷ []
lines_open b [] h = lines-more b [] (All-head (λ x. x ≢ 10) b [] h)
lines_open b (c ∷ cs) h =
    lines-more b (c ∷ cs) (All-head (λ x. x ≢ 10) b (c ∷ cs) h)
    ∙ ap (onto_lines b) (lines_open c cs (All-tail (λ x. x ≢ 10) b (c ∷ cs) h))

whole_lines_open : (bs : List ℕ) → HasNoNewline bs → whole_lines bs ≡ []
whole_lines_open [] h = refl
whole_lines_open (b ∷ bs) h =
    whole_lines-more b bs (All-head (λ x. x ≢ 10) b bs h)
    ∙ ap (onto_whole b) (whole_lines_open bs (All-tail (λ x. x ≢ 10) b bs h))

-- whole lines come first
pub lines_joined : (whole : List (List ℕ)) (tail : List ℕ) → All HasNoNewline whole
    → lines (lines_text whole ++ tail) ≡ whole ++ lines tail
lines_joined [] tail h = refl
lines_joined (line ∷ rest) tail h =
    ap lines (append_assoc line (10 ∷ lines_text rest) tail)
    ∙ lines_line line (lines_text rest ++ tail) (All-head HasNoNewline line rest h)
    ∙ ap (λ z. line ∷ z) (lines_joined rest tail (All-tail HasNoNewline line rest h))

pub whole_lines_joined : (whole : List (List ℕ)) (tail : List ℕ) → All HasNoNewline whole → HasNoNewline tail
    → whole_lines (lines_text whole ++ tail) ≡ whole
whole_lines_joined [] tail h k = whole_lines_open tail k
whole_lines_joined (line ∷ rest) tail h k =
    ap whole_lines (append_assoc line (10 ∷ lines_text rest) tail)
    ∙ whole_lines_line line (lines_text rest ++ tail) (All-head HasNoNewline line rest h)
    ∙ ap (λ z. line ∷ z) (whole_lines_joined rest tail (All-tail HasNoNewline line rest h) k)

pub lines_text-append : (whole : List (List ℕ)) (line : List ℕ)
    → lines_text (whole ++ line ∷ []) ≡ lines_text whole ++ (line ++ 10 ∷ [])
lines_text-append [] line = refl
lines_text-append (first ∷ rest) line = ap (λ z. first ++ 10 ∷ z) (lines_text-append rest line)
    ∙ sym (append_assoc first (10 ∷ lines_text rest) (line ++ 10 ∷ []))

-- one more line
pub Filters-more : (Writes : List ℕ → List ℕ → Type 0) (whole : List (List ℕ))
    (line out more : List ℕ) (bad m : ℕ)
    → Filters Writes whole out bad → Gives Writes line more m
    → Filters Writes (whole ++ line ∷ []) (out ++ more) (bad + m)
Filters-more Writes [] line out more bad m h g =
    (more, [], m, 0, g, (refl, refl), ap (λ z. z ++ more) h.0 ∙ sym (append-nil more), omega (arith, h.1))
Filters-more Writes (first ∷ rest) line out more bad m h g =
    let (x, y, k, n, gives, filters, same, count) = h in (
      x,
      y ++ more,
      k,
      n + m,
      gives,
      Filters-more Writes rest line y more n m filters g,
      ap (λ z. z ++ more) same ∙ append_assoc x y more,
      omega (arith, count),
    )

-- ---- the first line feed
is_other : (b : ℕ) → (b == 10) ≡ false → b ≢ 10
is_other b e h = elim (eqb_tells b 10) [ inl t ↦ true≢false (sym t.0 ∙ e) | inr f ↦ f.1 h ]

pub no_feed : (s : List ℕ) (at : ℕ) → at ≡ position_or_len is_feed s → length s ≤ at → HasNoNewline s
no_feed s at found past =
    All-from_get_or (λ b. b ≢ 10) s 0
    (λ i lt. is_other (get_or s i 0) (fails_before_first is_feed s i 0 (omega (arith, found, lt))))

no_feed_before : (s : List ℕ) → HasNoNewline (before_first is_feed s)
no_feed_before s = All-from_get_or (λ b. b ≢ 10) (before_first is_feed s) 0 (λ i lt.
    let at : i < position_or_len is_feed s = omega (arith, lt, length-take (position_or_len is_feed s) s) in
    is_other (get_or (before_first is_feed s) i 0)
    (ap is_feed (get_or-take (position_or_len is_feed s) s i 0 at) ∙ fails_before_first is_feed s i 0 at))

feed_at : (s : List ℕ) → position_or_len is_feed s < length s
    → s ≡ before_first is_feed s ++ 10 ∷ after_first is_feed s
feed_at s lt = split_at_first is_feed s 0 lt
    ∙ ap (λ z. before_first is_feed s ++ z ∷ after_first is_feed s) (byte_at_feed s lt)

-- bytes are cut at their first line feed
pub cut_at_feed : (s front rest : List ℕ) (at : ℕ) → at ≡ position_or_len is_feed s → at < length s
    → front ≡ take at s → rest ≡ drop (at + 1) s → (s ≡ front ++ 10 ∷ rest) × HasNoNewline front
cut_at_feed s front rest at found inside is_front is_rest =
    let before = is_front ∙ ap (λ n. take n s) found in
    let after = is_rest ∙ ap (λ n. drop (n + 1) s) found in (
      feed_at s (omega (arith, found, inside)) ∙ (λ i. sym before i ++ 10 ∷ sym after i),
      rw before (no_feed_before s),
    )
