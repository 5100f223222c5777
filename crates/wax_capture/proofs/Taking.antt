-- The chosen pieces from left to right.
use Rattle.std.proofs.Common.{◌≡◌, ℕ, suc, ◌+◌, ◌-◌, ◌<◌, ◌≤◌, true, false, List, [], ◌∷◌, ◌++◌, length}
use Rattle.std.proofs.Common.{get_or, take, drop, drop-cons, Option, Some, None, is_some, true≢false}
use Rattle.std.proofs.Common.{slice_get, refl, sym, ◌∙◌, ap, subst, arith, append_assoc, append-nil}
use Rattle.std.proofs.{Common.length-drop, lemmas.List.{drop-drop, drop_all}}
use Rattle.std.proofs.lemmas.Option.{get_or_from_slice_get}
use Rattle.std.specs.Global.{Vec}
use Rattle.wax_capture.specs.{Pieces.captured_by, inner.Parts.parts, inner.Rows.{ArePieceRows, IsCell, Row}}
use Rattle.wax_capture.specs.inner.Splits.{AreChosen, CapturedBy, IsChosenBy, Splits}
use Rattle.wax_capture.specs.declared.piece.Piece.{Piece}
use Rattle.wax_lengths.proofs.Lists.{slice_read}
use Rattle.wax_capture.proofs.Rows.{takes_splits}

-- ---- the table
-- the row that was read is as long as the text, and one more
pub row_long : (ps : List Piece) (s : List ℕ) (rows : List (Vec (Option ℕ))) (i : ℕ) (row : Vec (Option ℕ)) →
    length rows ≡ length ps + 1 → ArePieceRows ps s rows → i ≤ length ps
    → row ≡ get_or rows (length ps - i) row → length row.items ≡ length s + 1
row_long ps s rows i row len are le is =
    (are (length ps - i) row (slice_read rows (length ps - i) row (omega (arith, len, le)) is)).1

-- the cell that was read
pub cell_read : (ps : List Piece) (s : List ℕ) (rows : List (Vec (Option ℕ))) (i at : ℕ)
    (row : Vec (Option ℕ)) (r : Option ℕ) →
    length rows ≡ length ps + 1 → ArePieceRows ps s rows → i ≤ length ps
    → row ≡ get_or rows (length ps - i) row → r ≡ get_or row.items at r →
    at ≤ length s → IsCell (drop i ps) (drop at s) r
cell_read ps s rows i at row r len are le is_row is within =
    let long : length row.items ≡ length s + 1 = row_long ps s rows i row len are le is_row in
    let same : get_or row.items at None ≡ r = get_or_from_slice_get row.items at r None
    (slice_read row.items at r (omega (arith, long, within)) is) in
    let got : slice_get rows (length ps - i) ≡ Some row =
    slice_read rows (length ps - i) row (omega (arith, len, le)) is_row in
    let n : length ps - (length ps - i) ≡ i = omega (arith, le) in
    let all : Row (drop i ps) s row.items =
    subst (λ k. Row (drop k ps) s row.items) n (are (length ps - i) row got).0 in
    subst (IsCell (drop i ps) (drop at s)) same (all at within)

-- whether the pieces split the whole text
pub whole_fails : (ps : List Piece) (s : List ℕ) (r : Option ℕ) → is_some r ≡ false
    → IsCell ps s r → Splits ps s → ⊥
whole_fails ps s None e h = h
whole_fails ps s (Some n) e h = absurd (true≢false e)

pub whole_splits : (ps : List Piece) (s : List ℕ) (r : Option ℕ) → is_some r ≡ true
    → IsCell ps s r → Splits ps s
whole_splits ps s None e h = absurd (true≢false (sym e))
whole_splits ps s (Some n) e h = takes_splits ps s n h

-- where the pieces split the rest, a length is chosen
pub cell_some : (ps : List Piece) (s : List ℕ) (r : Option ℕ) → ((n : ℕ) → r ≡ Some n → ⊥)
    → IsCell ps s r → Splits ps s → ⊥
cell_some ps s None none h = h
cell_some ps s (Some n) none h = absurd (none n refl)

pub chosen_splits : (ps : List Piece) (s ns : List ℕ) → AreChosen ps s ns → Splits ps s
chosen_splits [] s [] h = h
chosen_splits [] s (n ∷ ns) h = absurd h
chosen_splits (p ∷ ps) s [] h = absurd h
chosen_splits (p ∷ ps) s (n ∷ ns) h = (h.0.way, n, h.0.fits.0, h.0.fits.1, h.0.fits.2)

-- ---- one piece more is taken
module _ (ps : List Piece) (s : List ℕ) (i : ℕ) (p : Piece) (lt : i < length ps)
    (is : p ≡ get_or ps i p) where
  pub pieces_from : drop i ps ≡ p ∷ drop (i + 1) ps
  pieces_from = let m : suc i ≡ i + 1 = omega arith in
      drop-cons ps i p lt ∙ ap (λ z. z ∷ drop (suc i) ps) (sym is) ∙ ap (λ k. p ∷ drop k ps) m

  -- what is chosen
  pub cell_chosen : (at n : ℕ) (r : Option ℕ) → r ≡ Some n → IsCell (drop i ps) (drop at s) r
      → IsChosenBy p (drop (i + 1) ps) (drop at s) n
  cell_chosen at n r e h =
      subst (λ z. IsCell z (drop at s) (Some n)) pieces_from (subst (IsCell (drop i ps) (drop at s)) e h)

  module _ (at n : ℕ) (within : at ≤ length s) (c : IsChosenBy p (drop (i + 1) ps) (drop at s) n) where
    pub taken_within : at + n ≤ length s
    taken_within = omega (arith, c.fits.0, length-drop at s, within)

    pub taken_splits : Splits (drop (i + 1) ps) (drop (at + n) s)
    taken_splits = subst (Splits (drop (i + 1) ps)) (drop-drop n at s) c.fits.2

    pub taken_lengths : (old : List ℕ)
        → ((others : List ℕ) → AreChosen (drop i ps) (drop at s) others → AreChosen ps s (old ++ others)) →
        (others : List ℕ) → AreChosen (drop (i + 1) ps) (drop (at + n) s) others
        → AreChosen ps s ((old ++ n ∷ []) ++ others)
    taken_lengths old before others h =
        let after : AreChosen (drop (i + 1) ps) (drop n (drop at s)) others =
        subst (λ z. AreChosen (drop (i + 1) ps) z others) (sym (drop-drop n at s)) h in
        let now : AreChosen (p ∷ drop (i + 1) ps) (drop at s) (n ∷ others) = (c, after) in
        subst (AreChosen ps s) (sym (append_assoc old (n ∷ []) others))
        (before (n ∷ others) (subst (λ z. AreChosen z (drop at s) (n ∷ others)) (sym pieces_from) now))

    pub taken_captured : (old new : List (ℕ × ℕ))
        → parts s new ≡ parts s old ++ captured_by p.capture (take n (drop at s)) →
        ((others : List (List ℕ)) → CapturedBy (drop i ps) (drop at s) others
        → CapturedBy ps s (parts s old ++ others)) →
        (others : List (List ℕ)) → CapturedBy (drop (i + 1) ps) (drop (at + n) s) others
        → CapturedBy ps s (parts s new ++ others)
    taken_captured old new added before others h =
        let here : List (List ℕ) = captured_by p.capture (take n (drop at s)) in
        let after : CapturedBy (drop (i + 1) ps) (drop n (drop at s)) others =
        subst (λ z. CapturedBy (drop (i + 1) ps) z others) (sym (drop-drop n at s)) h in
        let now : CapturedBy (p ∷ drop (i + 1) ps) (drop at s) (here ++ others) =
        (n, c, others, after, refl) in
        let all : CapturedBy ps s (parts s old ++ (here ++ others)) = before (here ++ others)
        (subst (λ z. CapturedBy z (drop at s) (here ++ others)) (sym pieces_from) now) in
        subst (CapturedBy ps s) (sym (append_assoc (parts s old) here others)
        ∙ ap (λ z. z ++ others) (sym added)) all

  -- the length of the piece
  pub chosen_at : (at n : ℕ) (ns : List ℕ) → i < length ns → n ≡ get_or ns i n
      → AreChosen (drop i ps) (drop at s) (drop i ns) →
      IsChosenBy p (drop (i + 1) ps) (drop at s) n
      × AreChosen (drop (i + 1) ps) (drop (at + n) s) (drop (i + 1) ns)
  chosen_at at n ns long e h =
      let m : suc i ≡ i + 1 = omega arith in
      let from : drop i ns ≡ n ∷ drop (i + 1) ns =
      drop-cons ns i n long ∙ ap (λ z. z ∷ drop (suc i) ns) (sym e) ∙ ap (λ k. n ∷ drop k ns) m in
      let g : AreChosen (p ∷ drop (i + 1) ps) (drop at s) (n ∷ drop (i + 1) ns) =
      subst (λ z. AreChosen z (drop at s) (n ∷ drop (i + 1) ns)) pieces_from
      (subst (AreChosen (drop i ps) (drop at s)) from h) in
      (g.0, subst (λ z. AreChosen (drop (i + 1) ps) z (drop (i + 1) ns)) (drop-drop n at s) g.1)

pub chosen_length : (ps : List Piece) (s ns : List ℕ) → AreChosen ps s ns → length ns ≡ length ps
chosen_length [] s [] h = refl
chosen_length [] s (n ∷ ns) h = absurd h
chosen_length (p ∷ ps) s [] h = absurd h
chosen_length (p ∷ ps) s (n ∷ ns) h = ap (λ k. suc k) (chosen_length ps (drop n s) ns h.1)

pub rest_done : (ps : List Piece) (s : List ℕ) (i : ℕ) → length ps ≤ i → Splits (drop i ps) s → s ≡ []
rest_done ps s i le h = subst (λ z. Splits z s) (drop_all i ps le) h

pub lengths_end : (ps : List Piece) (s : List ℕ) (i at : ℕ) (ns : List ℕ) → length ps ≤ i
    → Splits (drop i ps) (drop at s) →
    ((others : List ℕ) → AreChosen (drop i ps) (drop at s) others → AreChosen ps s (ns ++ others))
    → AreChosen ps s ns
lengths_end ps s i at ns le splits before =
    let here : AreChosen (drop i ps) (drop at s) [] = subst (λ z. AreChosen z (drop at s) [])
    (sym (drop_all i ps le)) (rest_done ps (drop at s) i le splits) in
    subst (AreChosen ps s) (append-nil ns) (before [] here)

pub captured_end : (ps : List Piece) (s : List ℕ) (i at : ℕ) (places : List (ℕ × ℕ)) (ns : List ℕ)
    → length ps ≤ i → AreChosen (drop i ps) (drop at s) ns →
    ((others : List (List ℕ)) → CapturedBy (drop i ps) (drop at s) others
    → CapturedBy ps s (parts s places ++ others)) → CapturedBy ps s (parts s places)
captured_end ps s i at places ns le chosen before =
    let end : drop at s ≡ [] =
    rest_done ps (drop at s) i le (chosen_splits (drop i ps) (drop at s) ns chosen) in
    subst (CapturedBy ps s) (append-nil (parts s places))
    (before [] (subst (λ z. CapturedBy z (drop at s) []) (sym (drop_all i ps le)) (end, refl)))
