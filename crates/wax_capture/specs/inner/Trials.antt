-- How far it was tried which part of a text each piece takes.
use Rattle.std.specs.Prelude.{◌≡◌, ◌⊎◌, ℕ, ◌+◌, ◌<◌, ◌≤◌, Bool, true, List, [], ◌∷◌, ⊤, length, take, drop}
use Rattle.wax_lengths.specs.{Prefers.Prefers, Forms.TakenBy, Spans.{InSpan, looks}, declared.form.Form.Form}
use Rattle.wax_lengths.specs.declared.span.LengthSpan.{LengthSpan}
use Rattle.wax_capture.specs.{Pieces.WayOf, inner.Splits.{AreChosen, FitsBy, Splits}}
use Rattle.wax_capture.specs.{declared.piece.Piece.Piece, declared.trial.Frame.Frame}
use Rattle.wax_capture.specs.declared.trial.Trial.{Trial}
use Rattle.wax_capture.specs.declared.trial.Trial.TheVariants.{Chosen, Nothing, Unknown}

-- lengths of beginnings of the text that the form takes: all, or of the last piece at least the whole text's
pub record AreLeft (form : Form) (is_last : Bool) (s : List ℕ) (span : LengthSpan) : Type 0 where
  pub fits : (m : ℕ) → m ≤ length s → TakenBy form (take m s) → (is_last ≡ true → m ≡ length s)
      → InSpan span s m
  pub sound : (m : ℕ) → InSpan span s m → (m ≤ length s) × TakenBy form (take m s)

-- of the ways that were opened only the last can fit, by a length that is left
pub record IsOpen (p : Piece) (ps : List Piece) (s : List ℕ) (f : Frame) : Type 0 where
  pub fresh : f.opened ≡ 0 → f.span.end ≡ 0
  pub earlier : (k m : ℕ) → k + 1 < f.opened → FitsBy p ps s k m → ⊥
  pub left : (k m : ℕ) → k + 1 ≡ f.opened → FitsBy p ps s k m → InSpan f.span s m
  pub sound : (k m : ℕ) → k + 1 ≡ f.opened → InSpan f.span s m → (m ≤ length s) × WayOf p k (take m s)

-- the piece takes the frame's length by the way that was opened last; no better one fits
pub record HasTaken (p : Piece) (ps : List Piece) (s : List ℕ) (f : Frame) : Type 0 where
  pub way : ℕ
  pub is : way + 1 ≡ f.opened
  pub within : f.n ≤ length s
  pub takes : WayOf p way (take f.n s)
  pub earlier : (k m : ℕ) → k < way → FitsBy p ps s k m → ⊥
  pub others : (m : ℕ) → FitsBy p ps s way m → (m ≡ f.n) ⊎ (InSpan f.span s m × Prefers p.is_lazy f.n m)
  pub sound : (m : ℕ) → InSpan f.span s m → (m ≤ length s) × WayOf p way (take m s)

-- its lengths lie in the text
pub record HasRoom (text : List ℕ) (most : ℕ) (f : Frame) : Type 0 where
  pub within : f.at ≤ length text
  pub end : f.at + f.span.end ≤ length text + 1
  pub few : looks f.span ≤ most

-- the first pieces, one for each frame, take parts of the text one after another from a place on
abbrev pub Trail : List Piece → List ℕ → ℕ → ℕ → List Frame → Type 0
Trail ps text most at [] = ⊤
Trail [] text most at (f ∷ fs) = ⊥
Trail (p ∷ ps) text most at (f ∷ fs) =
    (f.at ≡ at) × HasTaken p ps (drop at text) f × HasRoom text most f × Trail ps text most (at + f.n) fs

-- how many characters they take
abbrev pub characters_taken : List Frame → ℕ
characters_taken [] = 0
characters_taken (f ∷ fs) = f.n + characters_taken fs

abbrev pub lengths_of : List Frame → List ℕ
lengths_of [] = []
lengths_of (f ∷ fs) = f.n ∷ lengths_of fs

-- what a trial came to holds
abbrev pub IsTried : List Piece → List ℕ → Trial → Type 0
IsTried ps s (Chosen frames) = AreChosen ps s (lengths_of frames.items)
IsTried ps s Nothing = Splits ps s → ⊥
IsTried ps s Unknown = ⊤
