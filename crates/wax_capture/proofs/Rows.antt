-- From which places on pieces split a text, and what is chosen there.
use Rattle.std.proofs.Common.{◌≡◌, ℕ, zero, suc, ◌+◌, ◌-◌, ◌<◌, ◌≤◌, ◌↔◌, true, List, [], ◌∷◌, ◌++◌, length}
use Rattle.std.proofs.Common.{get_or, drop, drop-cons, replicate, Option, Some, None, is_some, slice_get}
use Rattle.std.proofs.Common.{refl, sym, ◌∙◌, ap, subst, inl, inr, arith, true≢false, length-drop}
use Rattle.std.proofs.{Math.Seq.get_or-append_seam, lemmas.Bool.cases_lt}
use Rattle.std.proofs.lemmas.List.{drop_all, get_or_append_left, length-replicate, length_push}
use Rattle.std.proofs.lemmas.Option.{slice_get_within}
use Rattle.std.specs.Global.{Vec}
use Rattle.wax_capture.specs.inner.Rows.{ArePieceRows, IsCell, IsFilled, Row, TakesPiece}
use Rattle.wax_capture.specs.{inner.Splits.Splits, declared.piece.Piece.Piece}
use Rattle.wax_lengths.proofs.Lists.{slice_left, slice_seam, some_same}

-- ---- one cell
pub takes_splits : (ps : List Piece) (s : List ℕ) (n : ℕ) → TakesPiece ps s n → Splits ps s
takes_splits [] s n h = h
takes_splits (p ∷ ps) s n c = (c.way, n, c.fits.0, c.fits.1, c.fits.2)

cell_tells : (ps : List Piece) (s : List ℕ) (r : Option ℕ) → IsCell ps s r → is_some r ≡ true ↔ Splits ps s
cell_tells ps s None h = ((λ e. absurd (true≢false (sym e))), (λ g. absurd (h g)))
cell_tells ps s (Some n) h = ((λ _. takes_splits ps s n h), (λ _. refl))

pub cell_filled : (ps : List Piece) (s : List ℕ) (cells : List (Option ℕ)) → Row ps s cells → (n : ℕ)
    → n ≤ length s → IsFilled cells n ↔ Splits ps (drop n s)
cell_filled ps s cells row n le = cell_tells ps (drop n s) (get_or cells n None) (row n le)

-- ---- one row
-- the cells before a place
abbrev pub RowTo : List Piece → List ℕ → List (Option ℕ) → ℕ → Type 0
RowTo ps s cells m = (n : ℕ) → n < m → IsCell ps (drop n s) (get_or cells n None)

pub row_push : (ps : List Piece) (s : List ℕ) (cells : List (Option ℕ)) (m : ℕ) (r : Option ℕ)
    → length cells ≡ m →
    RowTo ps s cells m → IsCell ps (drop m s) r → RowTo ps s (cells ++ r ∷ []) (m + 1)
row_push ps s cells m r count row here n lt = elim (cases_lt n m) [
  | inl less ↦ (let e : get_or (cells ++ r ∷ []) n None ≡ get_or cells n None =
      get_or_append_left cells (r ∷ []) None n (omega (arith, less, count)) in
      subst (IsCell ps (drop n s)) (sym e) (row n less))
  | inr ge ↦ (let same : n ≡ m = omega (arith, ge, lt) in
      let at : n ≡ length cells = same ∙ sym count in
      let e : get_or (cells ++ r ∷ []) n None ≡ r =
      ap (λ k. get_or (cells ++ r ∷ []) k None) at ∙ get_or-append_seam cells r [] None in
      subst (IsCell ps (drop n s)) (sym e) (subst (λ k. IsCell ps (drop k s) r) (sym same) here))
]

pub row_whole : (ps : List Piece) (s : List ℕ) (cells : List (Option ℕ)) (m : ℕ) → m ≡ length s + 1
    → RowTo ps s cells m → Row ps s cells
row_whole ps s cells m e row n le = row n (omega (arith, le, e))

-- of no piece
drop_less : (s : List ℕ) (n : ℕ) → n < length s → drop n s ≡ [] → ⊥
drop_less s n lt e = let f : length (drop n s) ≡ 0 = ap length e in omega (arith, lt, f, length-drop n s)

replicated : (n i : ℕ) → get_or (replicate {A = Option ℕ} n None) i None ≡ None
replicated zero i = refl
replicated (suc n) zero = refl
replicated (suc n) (suc i) = replicated n i

pub row_none : (s : List ℕ) → Row [] s (replicate (length s) None ++ Some 0 ∷ [])
row_none s n le = elim (cases_lt n (length s)) [
  | inl less ↦ (let e : get_or (replicate (length s) None ++ Some 0 ∷ []) n None ≡ None =
      get_or_append_left (replicate (length s) None) (Some 0 ∷ []) None n
      (omega (arith, less, length-replicate {A = Option ℕ} (length s) None)) ∙ replicated (length s) n in
      subst (IsCell [] (drop n s)) (sym e) (λ h. drop_less s n less h))
  | inr ge ↦ (let at : n ≡ length (replicate {A = Option ℕ} (length s) None) =
      omega (arith, ge, le, length-replicate {A = Option ℕ} (length s) None) in
      let e : get_or (replicate (length s) None ++ Some 0 ∷ []) n None ≡ Some 0 =
      ap (λ k. get_or (replicate (length s) None ++ Some 0 ∷ []) k None) at
      ∙ get_or-append_seam (replicate (length s) None) (Some 0) [] None in
      subst (IsCell [] (drop n s)) (sym e) (drop_all n s ge))
]

-- ---- one row more
module _ (ps : List Piece) (s : List ℕ) (rows : List (Vec (Option ℕ))) where
  pub rows_push : (i : ℕ) (row : Vec (Option ℕ)) → length rows + i ≡ length ps → ArePieceRows ps s rows →
      Row (drop i ps) s row.items → length row.items ≡ length s + 1 → ArePieceRows ps s (rows ++ row ∷ [])
  rows_push i row count are here len j r e = elim (cases_lt j (length rows)) [
    | inl less ↦ are j r (sym (slice_left rows (row ∷ []) j less) ∙ e)
    | inr ge ↦ (let within : j < length (rows ++ row ∷ []) = slice_get_within (rows ++ row ∷ []) j r e in
        let at : j ≡ length rows = omega (arith, ge, within, length_push rows row) in
        let same : row ≡ r =
        some_same (sym (slice_seam rows row) ∙ sym (ap (slice_get (rows ++ row ∷ [])) at) ∙ e) in
        let n : i ≡ length ps - j = omega (arith, at, count) in (
          subst (λ k. Row (drop k ps) s r.items) n (subst (λ z. Row (drop i ps) s z.items) same here),
          ap (λ z. length z.items) (sym same) ∙ len,
        ))
  ]

  -- the row that was pushed last
  pub row_next : (i j : ℕ) (p : Piece) (row : Vec (Option ℕ)) → length rows + i ≡ length ps → i < length ps
      → p ≡ get_or ps i p → ArePieceRows ps s rows →
      j + 1 ≡ length rows → slice_get rows j ≡ Some row →
      (Row (drop (i + 1) ps) s row.items × (length row.items ≡ length s + 1))
      × (drop i ps ≡ p ∷ drop (i + 1) ps)
  row_next i j p row count lt e are last at =
      let n : length ps - j ≡ i + 1 = omega (arith, count, last, lt) in
      let r = are j row at in
      let m : suc i ≡ i + 1 = omega arith in (
        (subst (λ k. Row (drop k ps) s row.items) n r.0, r.1),
        drop-cons ps i p lt ∙ ap (λ z. z ∷ drop (suc i) ps) (sym e) ∙ ap (λ k. p ∷ drop k ps) m,
      )

pub rows_none : (ps : List Piece) (s : List ℕ) (row : Vec (Option ℕ)) → Row [] s row.items
    → length row.items ≡ length s + 1 → ArePieceRows ps s ([] ++ row ∷ [])
rows_none ps s row here len =
    rows_push ps s [] (length ps) row (omega arith) (λ j r e. absurd (no_row j r e))
    (subst (λ z. Row z s row.items) (sym (drop_all (length ps) ps (omega arith))) here) len
  where
    no_row : (j : ℕ) (r : Vec (Option ℕ)) → slice_get [] j ≡ Some r → ⊥
    no_row j r e = omega (arith, slice_get_within [] j r e)
