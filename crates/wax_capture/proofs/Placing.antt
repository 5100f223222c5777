-- Where what is captured of pieces lies.
use Rattle.std.proofs.Common.{◌≡◌, ℕ, zero, suc, ◌+◌, ◌-◌, ◌<◌, ◌≤◌, Bool, true, false, List, [], ◌∷◌, ◌++◌}
use Rattle.std.proofs.Common.{length, map, get_or, take, drop, refl, sym, ◌∙◌, ap, subst, arith, inl, inr}
use Rattle.std.proofs.Common.{append_assoc, append-nil, length-drop, length-take, chars, slice_index_or}
use Rattle.std.proofs.{lemmas.List.Elements.All-map, lemmas.Bool.cases_eq}
use Rattle.std.proofs.lemmas.List.{drop-drop, drop_all, map-append}
use Rattle.std.specs.{List.All, Str.IsUtf8}
use Rattle.wax_query.specs.Parts.{IsPart, cut}
use Rattle.wax_token.specs.{Reads.utf8_len, Syntax.{Trees, none, more}}
use Rattle.wax_capture.specs.Captures.{Captured, CapturedAt, token_skips, token_spans, tree_capture}
use Rattle.wax_capture.specs.{Matched.{AreSpans, ends_of}, Pieces.{ArePieces, captured_by, skipped_by}}
use Rattle.wax_capture.specs.declared.piece.Capture.{Capture}
use Rattle.wax_capture.specs.declared.piece.Capture.TheVariants.{Nothing, Piece as WholePiece, AfterFirst}
use Rattle.wax_capture.specs.{declared.piece.Capture.TheVariants.UnlessSlash, declared.piece.Piece.Piece}
use Rattle.wax_capture.specs.inner.Bytes.{byte_at, in_bytes, span_between}
use Rattle.wax_capture.specs.inner.Parts.{IsWithin, part_between, parts}
use Rattle.wax_capture.specs.inner.Splits.{AreChosen, CapturedBy, IsChosenBy, PlacedBy, placed_by}
use Rattle.wax_capture.proofs.ByteParts.{byte_at_add, text_all_parts, text_parts}
use Rattle.wax_capture.proofs.Taking.{chosen_splits, pieces_from, rest_done}
use Rattle.wax_capture.proofs.Tied.{captured_means, is_captured, is_chosen}

-- a part ends where its text does
pub part_end : (s : List ℕ) (a b : ℕ) (y : List ℕ) → IsWithin s (a, b) → part_between s (a, b) ≡ y
    → b ≡ a + length y
part_end s a b y within e =
    omega (
      arith,
      ap length e,
      length-take (b - a) (drop a s),
      length-drop a s,
      within.ordered,
      within.ends,
    )

-- ---- from left to right
module _ (ps : List Piece) (s : List ℕ) (i : ℕ) (p : Piece) (lt : i < length ps)
    (is : p ≡ get_or ps i p) (at n : ℕ) (c : IsChosenBy p (drop (i + 1) ps) (drop at s) n) where
  pub taken_placed : (old new : List (ℕ × ℕ)) → new ≡ old ++ placed_by p.capture at (take n (drop at s))
      → ((others : List (ℕ × ℕ)) → PlacedBy (drop i ps) at (drop at s) others
      → PlacedBy ps 0 s (old ++ others)) →
      (others : List (ℕ × ℕ)) → PlacedBy (drop (i + 1) ps) (at + n) (drop (at + n) s) others
      → PlacedBy ps 0 s (new ++ others)
  taken_placed old new added before others h =
      let here : List (ℕ × ℕ) = placed_by p.capture at (take n (drop at s)) in
      let after : PlacedBy (drop (i + 1) ps) (at + n) (drop n (drop at s)) others =
      subst (λ z. PlacedBy (drop (i + 1) ps) (at + n) z others) (sym (drop-drop n at s)) h in
      let now : PlacedBy (p ∷ drop (i + 1) ps) at (drop at s) (here ++ others) =
      (n, c, others, after, refl) in
      let all : PlacedBy ps 0 s (old ++ (here ++ others)) = before (here ++ others)
      (subst (λ z. PlacedBy z at (drop at s) (here ++ others)) (sym (pieces_from ps s i p lt is)) now) in
      subst (PlacedBy ps 0 s) (sym (append_assoc old here others) ∙ ap (λ z. z ++ others) (sym added)) all

pub placed_end : (ps : List Piece) (s : List ℕ) (i at : ℕ) (places : List (ℕ × ℕ)) (ns : List ℕ)
    → length ps ≤ i → AreChosen (drop i ps) (drop at s) ns →
    ((others : List (ℕ × ℕ)) → PlacedBy (drop i ps) at (drop at s) others
    → PlacedBy ps 0 s (places ++ others))
    → PlacedBy ps 0 s places
placed_end ps s i at places ns le chosen before =
    let end : drop at s ≡ [] =
    rest_done ps (drop at s) i le (chosen_splits (drop i ps) (drop at s) ns chosen) in
    subst (PlacedBy ps 0 s) (append-nil places)
    (before [] (subst (λ z. PlacedBy z at (drop at s) []) (sym (drop_all i ps le)) (end, refl)))

-- ---- in bytes
-- y begins the text s
abbrev Begins : List ℕ → List ℕ → Type 0
Begins y s = take (length y) s ≡ y

begins_taken : (n : ℕ) (s : List ℕ) → Begins (take n s) s
begins_taken zero s = refl
begins_taken (suc n) [] = refl
begins_taken (suc n) (c ∷ s) = ap (λ z. c ∷ z) (begins_taken n s)

begins_within : (y : List ℕ) (n : ℕ) (s : List ℕ) → Begins y (take n s) → Begins y s
begins_within [] n s h = refl
begins_within (c ∷ y) zero s h = absurd (omega (arith, ap length h))
begins_within (c ∷ y) (suc n) [] h = h
begins_within (c ∷ y) (suc n) (d ∷ s) h =
    ap (λ z. z ∷ take (length y) s) (ap (λ z. get_or z 0 0) h)
    ∙ ap (λ z. c ∷ z) (begins_within y n s (ap (drop 1) h))

begins_nothing : (y s : List ℕ) → Begins y [] → Begins y s
begins_nothing [] s h = refl
begins_nothing (c ∷ y) s h = absurd (omega (arith, ap length h))

begins_after : (k n : ℕ) (s y : List ℕ) → Begins y (drop k (take n s))
    → Begins y (drop (length (take k (take n s))) s)
begins_after zero n s y h = begins_within y n s h
begins_after (suc k) zero s y h = begins_nothing y s h
begins_after (suc k) (suc n) [] y h = h
begins_after (suc k) (suc n) (c ∷ s) y h = begins_after k n s y h

begins_itself : (x : List ℕ) → Begins x x
begins_itself [] = refl
begins_itself (c ∷ x) = ap (λ z. c ∷ z) (begins_itself x)

begins_tree : (x : List ℕ) → Begins (tree_capture false false x) x
begins_tree [] = refl
begins_tree (c ∷ []) = elim (cases_eq c 47) [
  | inl same ↦ grind (arith, same)
  | inr other ↦ grind (arith, other)
]
begins_tree (c ∷ d ∷ x) = begins_itself (c ∷ d ∷ x)

module _ (s : List ℕ) (at n : ℕ) where
  abbrev pub x : List ℕ
  x = take n (drop at s)

  -- the place after the first k characters of the piece
  skipped_bytes : (k : ℕ) → byte_at s (at + length (take k x)) ≡ byte_at s at + utf8_len (take k x)
  skipped_bytes k =
      byte_at_add s at (length (take k x))
      ∙ ap (λ z. byte_at s at + utf8_len z)
      (begins_within (take k x) n (drop at s) (begins_taken k x))

  -- what begins after the first k characters of the piece
  pub one_span : (k : ℕ) (y : List ℕ) → Begins y (drop k x) → let start : ℕ = at + length (take k x) in
      span_between (in_bytes s (start, start + length y)) ≡ (byte_at s at + utf8_len (take k x), utf8_len y)
  one_span k y h =
      let start : ℕ = at + length (take k x) in
      let from : Begins y (drop start s) =
      ap (take (length y)) (sym (drop-drop (length (take k x)) at s)) ∙ begins_after k n (drop at s) y h in
      let end : byte_at s (start + length y) ≡ byte_at s start + utf8_len y =
      byte_at_add s start (length y) ∙ ap (λ z. byte_at s start + utf8_len z) from in
      let len : byte_at s (start + length y) - byte_at s start ≡ utf8_len y = omega (arith, end) in
      λ i. (skipped_bytes k i, len i)

  pub placed_spans : (c : Capture) → map (λ p. span_between (in_bytes s p)) (placed_by c at x)
      ≡ map (λ y. (byte_at s at + utf8_len (take (skipped_by c) x), utf8_len y)) (captured_by c x)
  placed_spans Nothing = refl
  placed_spans WholePiece = ap (λ z. z ∷ []) (one_span 0 x (begins_itself x))
  placed_spans AfterFirst = ap (λ z. z ∷ []) (one_span 1 (drop 1 x) (begins_itself (drop 1 x)))
  placed_spans UnlessSlash = ap (λ z. z ∷ []) (one_span 0 (tree_capture false false x) (begins_tree x))

-- the spans are those of the tokens
pub captured_at : {A : Type 0} (ts : Trees A) (before after : Bool) (ps : List Piece)
    → ArePieces ts before after ps → (s : List ℕ) (at : ℕ) (places : List (ℕ × ℕ))
    → PlacedBy ps at (drop at s) places →
    CapturedAt ts before after (byte_at s at) (drop at s) (map (λ p. span_between (in_bytes s p)) places)
captured_at none before after [] are s at places h = (h.0, ap (map (λ p. span_between (in_bytes s p))) h.1)
captured_at none before after (p ∷ ps) are s at places h = absurd are
captured_at (more t ts) before after [] are s at places h = absurd are
captured_at (more t ts) before after (p ∷ ps) are s at places h =
    let f : ℕ × ℕ → ℕ × ℕ = λ q. span_between (in_bytes s q) in
    let n : ℕ = h.0 in
    let x : List ℕ = take n (drop at s) in
    let next : drop n (drop at s) ≡ drop (at + n) s = drop-drop n at s in
    let rest : CapturedAt ts true after (byte_at s (at + n)) (drop (at + n) s) (map f h.2) =
    captured_at ts true after ps are.1 s (at + n) h.2
    (subst (λ z. PlacedBy ps (at + n) z h.2) next h.3) in
    let spans : map f (placed_by p.capture at x) ≡ token_spans t before (byte_at s at) x =
    placed_spans s at n p.capture
    ∙ ap (λ k. map (λ y. (byte_at s at + utf8_len (take k x), utf8_len y)) (captured_by p.capture x))
    are.0.skips
    ∙ ap (map (λ y. (byte_at s at + utf8_len (take (token_skips t before) x), utf8_len y)))
    (are.0.captures x) in (
      n,
      is_chosen t ts before after p ps are.0 are.1 (drop at s) n h.1,
      map f h.2,
      subst (λ k. CapturedAt ts true after k (drop n (drop at s)) (map f h.2)) (byte_at_add s at n)
          (subst (λ z. CapturedAt ts true after (byte_at s (at + n)) z (map f h.2)) (sym next) rest),
      ap (map f) h.4 ∙ map-append f (placed_by p.capture at x) h.2 ∙ ap (λ z. z ++ map f h.2) spans,
    )

in_spans : (s : List ℕ) (places : List (ℕ × ℕ))
    → map span_between (map (in_bytes s) places) ≡ map (λ p. span_between (in_bytes s p)) places
in_spans s [] = refl
in_spans s (p ∷ places) = ap (λ z. span_between (in_bytes s p) ∷ z) (in_spans s places)

-- a span has the ends of the part
same_ends : (bytes : List ℕ) (p : ℕ × ℕ) → IsPart bytes p → IsPart bytes (ends_of (span_between p))
same_ends bytes p part = let end : p.1 ≡ p.0 + (p.1 - p.0) = omega (arith, part.ordered) in
    subst (λ n. IsPart bytes (p.0, n)) end part

same_cuts : (bytes : List ℕ) (places : List (ℕ × ℕ))
    → map (λ span. cut bytes (ends_of span)) (map span_between places) ≡ map (cut bytes) places
same_cuts bytes [] = refl
same_cuts bytes (p ∷ places) =
    let long : p.0 + (p.1 - p.0) - p.0 ≡ p.1 - p.0 = omega arith in
    let others = map (λ span. cut bytes (ends_of span)) (map span_between places) in
    ap (λ n. chars (take n (drop p.0 bytes)) ∷ others) long
    ∙ ap (λ z. cut bytes p ∷ z) (same_cuts bytes places)

-- the parts in the bytes of a text, each with its length
module _ (bytes : List ℕ) (u : IsUtf8 bytes) (places ends spans : List (ℕ × ℕ))
    (within : All (IsWithin (chars bytes)) places)
    (in_ends : ends ≡ map (in_bytes (chars bytes)) places) where
  pub ordered : All (λ (p : ℕ × ℕ). p.0 ≤ p.1) ends
  ordered = λ k d lt. (text_all_parts bytes u places ends within in_ends k d lt).ordered

  pub are_spans : {A : Type 0} (ts : Trees A) (ps : List Piece) → ArePieces ts false false ps
      → CapturedBy ps (chars bytes) (parts (chars bytes) places) → PlacedBy ps 0 (chars bytes) places
      → spans ≡ map span_between ends → AreSpans ts bytes spans
  are_spans ts ps are captured placed same =
      let s : List ℕ = chars bytes in
      let all : Captured ts false false s (parts s places) =
      is_captured ts false false ps are s (parts s places) captured in
      let here : spans ≡ map (λ p. span_between (in_bytes s p)) places =
      same ∙ ap (map span_between) in_ends ∙ in_spans s places in record {
        means = captured_means ts false false s (parts s places) all;
        at =
            subst (CapturedAt ts false false 0 s) (sym here)
            (captured_at ts false false ps are s 0 places placed);
        parts =
            subst (All (λ span. IsPart bytes (ends_of span))) (sym same)
            (All-map (λ span. IsPart bytes (ends_of span)) span_between ends
            (λ k d lt. same_ends bytes (slice_index_or ends k d)
            (text_all_parts bytes u places ends within in_ends k d lt)));
        texts =
            subst (Captured ts false false s)
            (sym (ap (map (λ span. cut bytes (ends_of span))) same ∙ same_cuts bytes ends
            ∙ text_parts bytes u places ends within in_ends)) all;
      }
