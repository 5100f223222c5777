-- The best part of a text that a piece takes before the further ones take the rest.
use Rattle.std.proofs.Common.{◌≡◌, ℕ, ◌+◌, ◌<◌, ◌≤◌, Bool, true, false, List, ◌∷◌, length, take, drop, Option}
use Rattle.std.proofs.Common.{Some, None, is_some, slice_get, get_or, sym, ◌∙◌, subst, inl, inr, arith}
use Rattle.std.proofs.{Common.{length-drop, true≢false}, lemmas.Bool.cases_lt, lemmas.List.drop-drop}
use Rattle.std.proofs.lemmas.Option.{slice_get_within}
use Rattle.wax_lengths.specs.{Prefers.Prefers, Forms.TakenBy}
use Rattle.wax_lengths.specs.{Spans.{HasLengths, InSpan, IsNarrowed, IsPicked}, declared.form.Form.Form}
use Rattle.wax_lengths.specs.declared.span.LengthSpan.{LengthSpan}
use Rattle.wax_capture.specs.{Pieces.forms_of, inner.Rows.{FitsIn, IsFilled, Row}}
use Rattle.wax_capture.specs.{inner.Splits.{FitsBy, IsChosenBy, Splits}, inner.Trials.AreLeft}
use Rattle.wax_capture.specs.declared.piece.Piece.{Piece}
use Rattle.wax_lengths.proofs.Lists.{some_same}
use Rattle.wax_capture.proofs.Rows.{cell_filled}

pub prefers_same : (lazy : Bool) (n : ℕ) → Prefers lazy n n
prefers_same true n = omega arith
prefers_same false n = omega arith

pub empty : (cells : List (Option ℕ)) (i : ℕ) → is_some (get_or cells i None) ≡ false → IsFilled cells i → ⊥
empty cells i none h = true≢false (sym h ∙ none)

-- the lengths of the span are those of the form
pub span_sound : (form : Form) (text : List ℕ) (at : ℕ) (span : LengthSpan) → at ≤ length text
    → at + span.end ≤ length text + 1 → HasLengths form (drop at text) span →
    (m : ℕ) → InSpan span (drop at text) m → (m ≤ length (drop at text))
    × TakenBy form (take m (drop at text))
span_sound form text at span within end has m h =
    let le : m ≤ length (drop at text) = omega (arith, h.1, end, length-drop at text, within) in
    (le, (has m le).1 h)

module _ (form : Form) (is_last : Bool) (s : List ℕ) (span : LengthSpan) where
  pub left_all : HasLengths form s span
      → ((m : ℕ) → InSpan span s m → (m ≤ length s) × TakenBy form (take m s)) → AreLeft form is_last s span
  left_all has sound = record {
    fits = λ m le takes whole. (has m le).0 takes;
    sound = sound;
  }

  -- only the greatest lengths are left, for the last piece
  pub left_last : (low : ℕ) → is_last ≡ true → HasLengths form s span
      → ((m : ℕ) → InSpan span s m → (m ≤ length s) × TakenBy form (take m s)) → span.low ≤ low
      → ((m : ℕ) → span.low ≤ m → m ≡ length s → low ≤ m) →
      AreLeft form is_last s (record { low = low; end = span.end; marks = span.marks })
  left_last low last has sound above least = record {
    fits = λ m le takes whole. let h = (has m le).0 takes in (least m h.0 (whole last), h.1, h.2);
    sound = λ m h. sound m (omega (arith, h.0, above), h.1, h.2);
  }

-- ---- one form, of whose lengths some were tried
pub record Left (form : Form) (s : List ℕ) (cells : List (Option ℕ)) (at : ℕ)
    (span : LengthSpan) : Type 0 where
  pub fits : (m : ℕ) → FitsIn form s cells at m → InSpan span s m
  pub sound : (m : ℕ) → InSpan span s m → (m ≤ length s) × TakenBy form (take m s)

pub left_start : (form : Form) (text : List ℕ) (cells : List (Option ℕ)) (at : ℕ) (span : LengthSpan)
    → at ≤ length text → at + span.end ≤ length text + 1 → HasLengths form (drop at text) span →
    Left form (drop at text) cells at span
left_start form text cells at span within end has = record {
  fits = λ m h. (has m h.0).0 h.1;
  sound = span_sound form text at span within end has;
}

module _ (form : Form) (s : List ℕ) (cells : List (Option ℕ)) (at : ℕ) (old new : LengthSpan)
    (lazy : Bool) (n : ℕ) (left : Left form s cells at old) (picked : IsPicked old new s lazy n)
    (narrowed : IsNarrowed old new s) where
  -- the picked one fits
  pub left_fits : IsFilled cells (at + n) → FitsIn form s cells at n
  left_fits h = let r = left.sound n picked.0 in (r.0, r.1, h)

  pub left_best : (m : ℕ) → FitsIn form s cells at m → Prefers lazy n m
  left_best m h = elim (picked.1 m (left.fits m h)) [
    | inl e ↦ subst (Prefers lazy n) (sym e) (prefers_same lazy n)
    | inr p ↦ p.1
  ]

  -- it doesn't
  pub left_less : (IsFilled cells (at + n) → ⊥) → Left form s cells at new
  left_less fails = record {
    fits = λ m h. elim (picked.1 m (left.fits m h)) [
      | inl e ↦ absurd (fails (subst (λ k. IsFilled cells (at + k)) e h.2))
      | inr p ↦ p.0
    ];
    sound = λ m h. left.sound m (narrowed m h);
  }

-- ---- all forms of a piece
module _ (p : Piece) (ps : List Piece) (text : List ℕ) (at : ℕ) (next : List (Option ℕ))
    (within : at ≤ length text) (row : Row ps text next) where
  filled : (n : ℕ) → n ≤ length (drop at text) → IsFilled next (at + n) → Splits ps (drop n (drop at text))
  filled n le h = subst (Splits ps) (sym (drop-drop n at text))
      ((cell_filled ps text next row (at + n) (omega (arith, le, length-drop at text, within))).0 h)

  splits_filled : (n : ℕ) → n ≤ length (drop at text) → Splits ps (drop n (drop at text))
      → IsFilled next (at + n)
  splits_filled n le h =
      (cell_filled ps text next row (at + n) (omega (arith, le, length-drop at text, within))).1
      (subst (Splits ps) (drop-drop n at text) h)

  module _ (k : ℕ) (form : Form) (is : slice_get (forms_of p.ways) k ≡ Some form) where
    pub fit_in : (n : ℕ) → FitsBy p ps (drop at text) k n → FitsIn form (drop at text) next at n
    fit_in n f = (
      f.0,
      subst (λ z. TakenBy z (take n (drop at text))) (some_same (sym f.1.1 ∙ is)) f.1.2,
      splits_filled n f.0 f.2,
    )

    pub in_fit : (n : ℕ) → FitsIn form (drop at text) next at n → FitsBy p ps (drop at text) k n
    in_fit n f = (f.0, (form, is, f.1), filled n f.0 f.2)

    -- fails earlier form fits
    module _ (none : (j m : ℕ) → j < k → FitsBy p ps (drop at text) j m → ⊥) where
      pub chosen : (n : ℕ) → FitsIn form (drop at text) next at n
          → ((m : ℕ) → FitsIn form (drop at text) next at m → Prefers p.is_lazy n m)
          → IsChosenBy p ps (drop at text) n
      chosen n f best = record {
        way = k;
        fits = in_fit n f;
        first = λ j m g. elim (cases_lt j k) [ inl lt ↦ absurd (none j m lt g) | inr ge ↦ ge ];
        best = λ m g. best m (fit_in m g);
      }

      pub none_more : ((m : ℕ) → FitsIn form (drop at text) next at m → ⊥) → (j m : ℕ) → j < k + 1
          → FitsBy p ps (drop at text) j m → ⊥
      none_more nowhere j m lt f = elim (cases_lt j k) [
        | inl less ↦ none j m less f
        | inr more ↦ (let same : j ≡ k = omega (arith, lt, more) in
            nowhere m (fit_in m (subst (λ i. FitsBy p ps (drop at text) i m) same f)))
      ]

pub none_at_all : (p : Piece) (ps : List Piece) (s : List ℕ) (n : ℕ) → length (forms_of p.ways) ≤ n
    → ((k m : ℕ) → k < n → FitsBy p ps s k m → ⊥) → Splits (p ∷ ps) s → ⊥
none_at_all p ps s n le none h =
    none h.0 h.1 (omega (arith, slice_get_within (forms_of p.ways) h.0 h.3.0 h.3.1, le)) (h.2, h.3, h.4)
